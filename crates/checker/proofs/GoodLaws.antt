-- In images without a fault none is found, where their files can be read.
use Rattle.std.proofs.Common.{◌≡◌, ◌⊎◌, ◌∙◌, ◌<◌, ◌≤◌, ◌^◌, ℕ, zero, suc, Bool, true, false, List, Some, refl, sym, ap, subst, inl, inr, arith}
use Rattle.std.specs.Prelude.{◌≢◌, ◌↔◌, IsTrue}
use Rattle.std.specs.Int.{bit_at}
use Rattle.std.proofs.lemmas.Bool.{cases_eq}
use Rattle.std.proofs.lemmas.Nat.Bits.{bit_at-lt, same_from_bits}
use Rattle.layout.specs.Maps.{IsTaken}
use Rattle.layout.specs.Places.{blocks_of}
use Rattle.layout.specs.Record.{Change}
use Rattle.layout.specs.declared.kind.Kind.{Kind}
use Rattle.layout.specs.declared.kind.Kind.TheVariants.{Directory, Free}
use Rattle.layout.specs.declared.pointer.Pointer.TheVariants.{Block}
use Rattle.layout.specs.declared.TheConstants.{SLOT_A, SLOT_B}
use Rattle.layout.specs.declared.root.Root.{Root}
use Rattle.layout.proofs.OpenLaws.{newest_once}
use Rattle.model.specs.Paths.{Name}
use Rattle.model.proofs.CountLemmas.{counts_once}
use Rattle.model.proofs.ListingLemmas.{names_apart}
use Rattle.model.specs.Volumes.{HasNames, Volume, entries}
use Rattle.images.specs.BlockMap.{HasBit, IsExact, entry}
use Rattle.images.specs.Contents.{Content, HoldsVolume, content_bytes, content_of, tree_contents}
use Rattle.images.specs.Faults.{HasRoots, IsFaultless, IsFaultlessUnder}
use Rattle.images.specs.Roots.{HeldTree, Whole, slot, whole}
use Rattle.images.specs.Soundness.{FitsNumber, IsWithin}
use Rattle.images.proofs.StateLaws.{newest_is_root}
use Rattle.checker.specs.Checks.{IsGood, Reports}
use Rattle.checker.specs.Findings.{HasTree, IsFaultIn, IsFindingUnder, IsNamedTree, IsTreeFinding, ShouldHave, StandsIn, tree_in}
use Rattle.checker.specs.declared.fault.Fault.{Fault}
use Rattle.checker.specs.declared.fault.Fault.TheVariants as faults
use Rattle.checker.specs.declared.fault.FileNode.{FileNode}
use Rattle.checker.specs.declared.fault.TreeName.{TreeName}
use Rattle.checker.specs.declared.fault.TreeName.TheVariants as trees
use Rattle.checker.specs.declared.report.Report.{Report}
use Rattle.checker.specs.declared.report.Report.TheVariants.{Bad, Good}

-- what files hold is one volume at most
abbrev pub HoldOneVolume : Type 0
HoldOneVolume =
    (inodes : ℕ) (files : ℕ → Content) (v w : Volume) → inodes ≤ 2 ^ 32
    → HoldsVolume inodes files v → HoldsVolume inodes files w → v ≡ w

-- ---- a tree

own_used : (n : ℕ) (kind : Kind) → n < 3 → FitsNumber n kind → kind ≢ Free
own_used zero kind low is free = cc
own_used (suc zero) kind low is free = cc
own_used (suc (suc zero)) kind low is free = cc
own_used (suc (suc (suc n))) kind low is free = absurd (omega (arith, low))

module _ (one : HoldOneVolume) (r : Root) (t : HeldTree) (few : r.geometry.inodes ≤ 2 ^ 32)
    (is : IsFaultless r.geometry t) (within : IsWithin r.version t) where
  used_below : (n : ℕ) → n < 4 → (t n).inode.kind ≢ Free
  used_below n low free = elim (cases_eq n 3) [
    | inl root ↦ (let kind : (t n).inode.kind ≡ Directory = ap (λ (m : ℕ). (t m).inode.kind) root ∙ is.grammar.root in cc)
    | inr other ↦ own_used n (t n).inode.kind (omega (arith, low, other)) (is.grammar.kinds n) free
  ]

  one_node : (block : ℕ) (first second : FileNode) → StandsIn t first block → StandsIn t second block → first ≡ second
  one_node block first second one other =
      let number : first.number ≡ second.number =
      is.once.apart first.number second.number block (record { height = first.height; index = first.index; is = one }) (record { height = second.height; index = second.index; is = other }) in
      let moved : (t first.number).place second.height second.index ≡ Block block = ap (λ (n : ℕ). (t n).place second.height second.index) number ∙ other in
      let place = is.once.each first.number first.height first.index second.height second.index block one moved in
      λ i. record { number = number i; height = place.0 i; index = place.1 i }

  map_told : (n : ℕ) (is_taken : Bool) → IsTaken (content_bytes (content_of (t 1))) n ↔ IsTrue is_taken → IsTrue is_taken ↔ ((t n).inode.kind ≡ Free) → ⊥
  map_told n true taken free = elim ((is.numbers n).0 (taken.1 refl)) [
    | inl low ↦ used_below n low (free.0 refl)
    | inr used ↦ used (free.0 refl)
  ]
  map_told n false taken free =
      let yes : IsTrue false = taken.0 ((is.numbers n).1 (inr (λ kind. let yes : IsTrue false = free.1 kind in cc))) in cc

  place_apart : (x y : ℕ × Name) → (x ≡ y) ⊎ (x ≢ y)
  place_apart (d, x) (k, y) = elim (cases_eq d k) [
    | inr other ↦ inr (λ same. other (ap (λ (p : ℕ × Name). p.0) same))
    | inl directory ↦ elim (names_apart x y) [
      | inl name ↦ inl (λ i. (directory i, name i))
      | inr other ↦ inr (λ same. other (ap (λ (p : ℕ × Name). p.1) same))
    ]
  ]

  pub no_tree_finding : (fault : Fault) → IsTreeFinding r t fault → ⊥
  no_tree_finding (faults.Tree found) not = not is.grammar within
  no_tree_finding (faults.Shared block first second) (one, other, differ) = differ (one_node block first second one other)
  no_tree_finding (faults.InodeMap number is_taken) (taken, free) = map_told number is_taken taken free
  no_tree_finding (faults.Directory found) (not, numbers) = not is.names.names
  no_tree_finding (faults.Links number names links) (v, holds, has, differ, attributes, bytes, file) =
      let named = is.names.names in
      let same = one r.geometry.inodes (tree_contents t) v named.volume few holds named.holds in
      let at = ap (λ (w : Volume). w number) (sym same) ∙ file in
      let counted = is.names.counts number attributes links bytes at in
      differ (counts_once (λ (place : ℕ × Name). entries v place.0 place.1 ≡ Some number)
      place_apart names links has
      (subst (λ (w : Volume). HasNames (entries w) number links) (sym same) counted))
  no_tree_finding (faults.Roots found) not = not
  no_tree_finding (faults.Snapshot k block found) not = not
  no_tree_finding (faults.MapBit block is_entry should) not = not
  no_tree_finding (faults.Log found) not = not

-- ---- under a root

bit_same : (a b k : ℕ) → HasBit k a ↔ HasBit k b → bit_at a k ≡ bit_at b k
bit_same a b k same = elim (cases_eq (bit_at a k) 1) [
  | inl one ↦ omega (arith, one, same.0 one)
  | inr none ↦ elim (cases_eq (bit_at b k) 1) [
    | inl one ↦ absurd (none (same.1 one))
    | inr other ↦ omega (arith, bit_at-lt a k, bit_at-lt b k, none, other)
  ]
]

through : {A B C : Type 0} → A ↔ C → B ↔ C → A ↔ B
through one other = (λ a. other.1 (one.0 a), λ b. one.1 (other.0 b))

-- the bits that an entry should have are those that it has
entry_should : (r : Root) (w : Whole) (block should : ℕ) → IsExact r w → ShouldHave r w block should → entry w.active block ≡ should
entry_should r w block should exact told = same_from_bits (entry w.active block) should (λ k. bit_same (entry w.active block) should k (bit k))
  where
    bit : (k : ℕ) → HasBit k (entry w.active block) ↔ HasBit k should
    bit zero = through (exact.active block) told.active
    bit (suc k) = elim (cases_eq (suc k) 31) [
      | inl system ↦ subst (λ (n : ℕ). HasBit n (entry w.active block) ↔ HasBit n should) (sym system) (through (exact.system block) told.system)
      | inr other ↦ through (exact.frozen block (suc k) (omega arith) other) (told.frozen (suc k) (omega arith) other)
    ]

module _ (one : HoldOneVolume) (r : Root) (w : Whole) (nvram : List ℕ) (changes : List Change)
    (few : r.geometry.inodes ≤ 2 ^ 32) (under : IsFaultlessUnder r w nvram changes) where
  faultless_tree : (k : ℕ) → HasTree r k → IsFaultless r.geometry (tree_in w k)
  faultless_tree zero has = under.active
  faultless_tree (suc k) has = under.frozen (suc k) has.0 has.1

  within_tree : (k : ℕ) → HasTree r k → IsWithin r.version (tree_in w k)
  within_tree zero has = under.within
  within_tree (suc k) has = under.frozen_within (suc k) has.0 has.1

  tree_there : (k block : ℕ) → slot r k ≡ Block block → HasTree r k
  tree_there zero block there = tt
  tree_there (suc k) block there = (block, there)

  named_tree : (tree : TreeName) (k : ℕ) → IsNamedTree r w tree k → HasTree r k
  named_tree trees.Image k named = absurd named
  named_tree trees.Newest k named = subst (HasTree r) (sym named) tt
  named_tree (trees.Snapshot slot name) k named =
      let has = named.2 in tree_there k has.block has.there

  in_tree : (tree : TreeName) (fault : Fault)
      → (k : ℕ) × IsNamedTree r w tree k × IsTreeFinding r (tree_in w k) fault → ⊥
  in_tree tree fault (k, named, told) =
      let has = named_tree tree k named in
      no_tree_finding one r (tree_in w k) few (faultless_tree k has) (within_tree k has) fault told

  pub no_finding_under : (tree : TreeName) (fault : Fault) → IsFindingUnder r w nvram tree fault → ⊥
  no_finding_under tree (faults.Roots found) not = not
  no_finding_under tree (faults.Snapshot k block found) (there, not, told) = not under.snapshots
  no_finding_under tree (faults.MapBit block is_entry should) (is, differ, told) = differ (sym is ∙ entry_should r w block should under.exact told)
  no_finding_under tree (faults.Log found) (tree_is, not) = not changes under.log
  no_finding_under trees.Image (faults.Tree found) not = not under.readable
  no_finding_under trees.Newest (faults.Tree found) told = in_tree trees.Newest (faults.Tree found) told
  no_finding_under (trees.Snapshot slot name) (faults.Tree found) told = in_tree (trees.Snapshot slot name) (faults.Tree found) told
  no_finding_under tree (faults.Shared block first second) told = in_tree tree (faults.Shared block first second) told
  no_finding_under tree (faults.InodeMap number is_taken) told = in_tree tree (faults.InodeMap number is_taken) told
  no_finding_under tree (faults.Directory found) told = in_tree tree (faults.Directory found) told
  no_finding_under tree (faults.Links number names links) told = in_tree tree (faults.Links number names links) told

-- ---- in images that open

module _ (one : HoldOneVolume) (sectors : ℕ) (disk : ℕ → List ℕ) (nvram : List ℕ) (root : Root) (roots : HasRoots root sectors disk nvram) (changes : List Change)
    (under : IsFaultlessUnder root (whole (blocks_of disk) root) nvram changes) where
  found_under : (tree : TreeName) (fault : Fault) → (r : Root) × HasRoots r sectors disk nvram × IsFindingUnder r (whole (blocks_of disk) r) nvram tree fault → ⊥
  found_under tree fault (r, has, told) =
      let sizes = (newest_is_root root (disk SLOT_A) (disk SLOT_B) roots.newest).head.sizes in
      no_finding_under one root (whole (blocks_of disk) root) nvram changes
      (omega (arith, sizes.most_inodes)) under tree fault
      (subst (λ (x : Root). IsFindingUnder x (whole (blocks_of disk) x) nvram tree fault) (newest_once (disk SLOT_A) (disk SLOT_B) r root has.newest roots.newest) told)

  no_fault_in : (tree : TreeName) (fault : Fault) → IsFaultIn sectors disk nvram tree fault → ⊥
  no_fault_in tree (faults.Roots found) (not, told) = not root roots
  no_fault_in tree (faults.Snapshot k block found) told = found_under tree (faults.Snapshot k block found) told
  no_fault_in tree (faults.Tree found) told = found_under tree (faults.Tree found) told
  no_fault_in tree (faults.Shared block first second) told = found_under tree (faults.Shared block first second) told
  no_fault_in tree (faults.MapBit block is_entry should) told = found_under tree (faults.MapBit block is_entry should) told
  no_fault_in tree (faults.InodeMap number is_taken) told = found_under tree (faults.InodeMap number is_taken) told
  no_fault_in tree (faults.Directory found) told = found_under tree (faults.Directory found) told
  no_fault_in tree (faults.Links number names links) told = found_under tree (faults.Links number names links) told
  no_fault_in tree (faults.Log found) told = found_under tree (faults.Log found) told

  -- a report is good where it is true
  pub is_good : (report : Report) → Reports sectors disk nvram report → IsGood report
  is_good (Good summary) is = tt
  is_good (Bad finding) is = no_fault_in finding.tree finding.fault is
