-- The trees that have an inode at a number, when it is looked at.
use Rattle.std.proofs.Common.{◌≡◌, ◌∙◌, ℕ, ◌+◌, ◌≤◌, List, Bool, refl, ap, arith, sym, subst, inl, inr}
use Rattle.std.specs.Prelude.{◌⊎◌, ◌↔◌, IsTrue, Option, Some, None, Result, Ok, Err, slice_get}
use Rattle.layout.specs.Inode.{IsInode, inode_bytes}
use Rattle.layout.specs.Limits.{AreSizes}
use Rattle.layout.specs.Maps.{IsTaken}
use Rattle.layout.specs.Places.{Blocks}
use Rattle.layout.specs.Version.{greatest_under}
use Rattle.layout.specs.declared.inode.Inode.{Inode}
use Rattle.layout.specs.declared.root.Root.{Root}
use Rattle.images.specs.BlockMap.{HasBit}
use Rattle.images.specs.Faults.{IsTreeGrammar}
use Rattle.images.specs.Soundness.{IsFileGrammar, IsWithin}
use Rattle.images.specs.Nodes.{file_block, held}
use Rattle.images.specs.Roots.{inode_bytes_at, whole}
use Rattle.loading.specs.InodeBlocks.{HasKindOfPlace, IsInodeAt}
use Rattle.loading.specs.Laws.{EndTrees, SpellTrees}
use Rattle.checker.specs.Errors.{TellsFault}
use Rattle.checker.specs.Findings.{IsTreeFinding, first_fault, tree_in}
use Rattle.checker.specs.Nodes.{IsAny, KeepsMarks, MarksFor}
use Rattle.checker.specs.Rows.{AddsToEach, ComparesBits, IsMappedAs, KeepsTrees, SeesInode}
use Rattle.checker.specs.Trees.{IsOut, IsSeenTo, IsTreeOf}
use Rattle.checker.specs.declared.error.CheckEnd.{CheckEnd}
use Rattle.checker.specs.declared.error.CheckEnd.TheVariants as halts
use Rattle.checker.specs.declared.fault.Fault.{Fault}
use Rattle.checker.specs.declared.fault.Fault.TheVariants as faults
use Rattle.checker.specs.declared.fault.TreeFault.{TreeFault}
use Rattle.checker.specs.declared.nodes.Shared.{Shared}
use Rattle.checker.specs.declared.tree.Tree.{Tree}
use Rattle.model.proofs.OptionLaws.{some_same}
use Rattle.checker.proofs.NumberLaws.{IsNumbers, map_finding, mapped_past, number_grammar, numbers_of, seen_more, spelled_in}
use Rattle.checker.proofs.OutLaws.{again, first_found, seen_added}

-- ---- what was answered

pub marked_ok : (m : Result (Unit {0}) CheckEnd) → TellsFault m (Ok None) → (done : Unit {0}) × (m ≡ Ok done)
marked_ok (Ok done) told = (done, refl)
marked_ok (Err halts.NoMemory) told = cc
marked_ok (Err halts.Device) told = cc
marked_ok (Err (halts.Fault fault)) told = cc

pub marked_fault : (m : Result (Unit {0}) CheckEnd) (fault : Fault) → TellsFault m (Ok (Some fault)) → m ≡ Err (halts.Fault fault)
marked_fault (Ok done) fault told = cc
marked_fault (Err halts.NoMemory) fault told = cc
marked_fault (Err halts.Device) fault told = cc
marked_fault (Err (halts.Fault found)) fault told = cc

pub told_none : (m : Result (Unit {0}) CheckEnd) (o : Option Fault) → ((x : Fault) → o ≡ Some x → ⊥) → TellsFault m (Ok o) → TellsFault m (Ok None)
told_none m None other told = told
told_none m (Some x) other told = absurd (other x refl)

-- ---- an inode

module _ (disk : Blocks) (r : Root) (i n bits : ℕ) (bytes marks new : List ℕ) (shared after : List (Option Shared)) (old next : List Tree) (kept : KeepsTrees old next) where
  -- it isn't in its grammar, or what hangs from it
  pub sees_broken : (found : TreeFault) → AddsToEach bits (faults.Tree found) old next
      → ((t : Tree) → IsTreeOf disk r t → bytes ≡ inode_bytes_at (file_block (tree_in (whole disk r) t.plane 0)) n → IsTreeGrammar r.geometry (tree_in (whole disk r) t.plane) → IsWithin r.version (tree_in (whole disk r) t.plane) → ⊥)
      → SeesInode disk r bits bytes n (IsSeenTo disk r i n marks shared) (IsSeenTo disk r i (n + 1) new after) old next
  sees_broken found adds broken = λ l t q was is bit inside same known.
      subst (IsSeenTo disk r i (n + 1) new after) (sym (again t q (Some (first_fault t.fault (faults.Tree found))) (kept.same l t q was is) ((adds l t q was is).0 bit)))
      (seen_added disk r i n i (n + 1) marks new shared after t known found (broken t known.tree same))

  module _ (spells : SpellTrees) (ends : EndTrees) (are : AreSizes r.geometry) (inode : Inode) (fits : IsInode r.geometry inode) (spelled : bytes ≡ inode_bytes inode) (kind : HasKindOfPlace r.geometry.inodes n inode.kind) where
    own : (t : Tree) → IsTreeOf disk r t → bytes ≡ inode_bytes_at (file_block (tree_in (whole disk r) t.plane 0)) n → IsNumbers disk (tree_in (whole disk r) t.plane) n inode
    own t tree same = numbers_of spells ends disk r t n inode are tree fits kind (sym same ∙ spelled)

    pub broken_file : (IsFileGrammar r.geometry (held disk inode) → ⊥) → (t : Tree) → IsTreeOf disk r t → bytes ≡ inode_bytes_at (file_block (tree_in (whole disk r) t.plane 0)) n
        → IsTreeGrammar r.geometry (tree_in (whole disk r) t.plane) → IsWithin r.version (tree_in (whole disk r) t.plane) → ⊥
    broken_file bad t tree same grammar within = bad (number_grammar disk r.geometry (tree_in (whole disk r) t.plane) n inode (own t tree same) fits grammar)

    -- what is told of the inode map
    abbrev pub IsTold : Tree → Tree → Type 0
    IsTold t q =
        ((q ≡ t) × IsMappedAs n inode.kind t.numbers.items)
        ⊎ ((IsMappedAs n inode.kind t.numbers.items → ⊥) × ((taken : Bool)
        × (IsTrue taken ↔ IsTaken t.numbers.items n) × (q.fault ≡ Some (first_fault t.fault (faults.InodeMap n taken)))))

    -- it is, and what hangs from it is marked
    pub sees_marked : inode.size ≤ greatest_under r.version → MarksFor (held disk inode) IsAny n bits marks new shared after → KeepsMarks bits marks new shared after → IsFileGrammar r.geometry (held disk inode)
        → ((l : ℕ) (t q : Tree) → slice_get old l ≡ Some t → slice_get next l ≡ Some q → HasBit t.plane bits → (IsOut t.fault → ⊥) → IsSeenTo disk r i n marks shared t → IsTold t q)
        → SeesInode disk r bits bytes n (IsSeenTo disk r i n marks shared) (IsSeenTo disk r i (n + 1) new after) old next
    sees_marked small looks keeps grammar told = λ l t q was is bit inside same known.
        let is_own = own t known.tree same in
        let at : IsInodeAt r.version r.geometry n (inode_bytes_at (file_block (tree_in (whole disk r) t.plane 0)) n) = record { inode = inode; is = fits; within = small; spelled = sym same ∙ spelled; kind = kind } in
        elim (told l t q was is bit inside known) [
          | inl right ↦
              subst (IsSeenTo disk r i (n + 1) new after) (sym right.0)
              (seen_more disk r i n marks new shared after t inode known inside is_own (looks t.plane bit) keeps.kept t.fault at small grammar known.fault (λ none. (none, right.1)))
          | inr wrong ↦
              let finding : IsTreeFinding r (tree_in (whole disk r) t.plane) (first_fault t.fault (faults.InodeMap n wrong.1.0)) =
              first_found r (tree_in (whole disk r) t.plane) t.fault (faults.InodeMap n wrong.1.0) known.fault
              (map_finding disk r (tree_in (whole disk r) t.plane) n inode t.numbers.items wrong.1.0 is_own (known.maps inside).within (known.maps inside).bytes_are
              (λ some. (known.inodes inside).files 1 (inr some)) wrong.1.1 wrong.0) in
              subst (IsSeenTo disk r i (n + 1) new after) (sym (again t q (Some (first_fault t.fault (faults.InodeMap n wrong.1.0))) (kept.same l t q was is) wrong.1.2))
              (seen_more disk r i n marks new shared after t inode known inside is_own (looks t.plane bit) keeps.kept (Some (first_fault t.fault (faults.InodeMap n wrong.1.0))) at small grammar
              (λ f one. subst (IsTreeFinding r (tree_in (whole disk r) t.plane)) (some_same one) finding)
              (λ none. absurd (none_is none)))
        ]
      where
        none_is : {f : Fault} → Some f ≡ None → ⊥
        none_is same = cc

    -- by the bits that were compared
    pub told_by : ComparesBits n inode.kind bits old next → (l : ℕ) (t q : Tree) → slice_get old l ≡ Some t → slice_get next l ≡ Some q → HasBit t.plane bits → (IsOut t.fault → ⊥)
        → IsSeenTo disk r i n marks shared t → IsTold t q
    told_by compared l t q was is bit inside known = elim (compared l t q was is) [
      | inl same ↦ inl (same.0, same.1 bit inside)
      | inr other ↦ inr (other.1, other.2)
    ]

    -- past the last number
    pub told_past : (same : next ≡ old) → r.geometry.inodes ≤ n → (l : ℕ) (t q : Tree) → slice_get old l ≡ Some t → slice_get next l ≡ Some q → HasBit t.plane bits → (IsOut t.fault → ⊥)
        → IsSeenTo disk r i n marks shared t → IsTold t q
    told_past same past l t q was is bit inside known =
        inl (some_same (sym is ∙ ap (λ (ts : List Tree). slice_get ts l) same ∙ was), mapped_past r.geometry n inode t.numbers.items (omega (arith, are.least_inodes)) (known.maps inside).within kind past)

-- the bytes aren't an inode of their place
pub not_spelled : (disk : Blocks) (r : Root) (n : ℕ) (bytes : List ℕ) → AreSizes r.geometry
    → ((i : Inode) → IsInode r.geometry i → i.size ≤ greatest_under r.version → bytes ≡ inode_bytes i → HasKindOfPlace r.geometry.inodes n i.kind → ⊥)
    → (t : Tree) → IsTreeOf disk r t → bytes ≡ inode_bytes_at (file_block (tree_in (whole disk r) t.plane 0)) n → IsTreeGrammar r.geometry (tree_in (whole disk r) t.plane) → IsWithin r.version (tree_in (whole disk r) t.plane) → ⊥
not_spelled disk r n bytes are none t tree same grammar within = spelled_in r.version r.geometry (tree_in (whole disk r) t.plane) n bytes (omega (arith, are.least_inodes)) grammar within same none
