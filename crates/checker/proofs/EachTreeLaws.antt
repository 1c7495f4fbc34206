-- What a look at a tree to its end tells: its fault, or that there is none.
use Rattle.std.proofs.Common.{◌≡◌, ◌⊎◌, ◌∙◌, ◌+◌, ◌-◌, ◌*◌, ◌<◌, ◌≤◌, ℕ, Bool, true, false, List, Option, Some, None, Result, Ok, Err, length, set, refl, sym, ap, subst, inl, inr, arith}
use Rattle.std.specs.Prelude.{◌≢◌, IsTrue, if◌then◌else◌, nat_lt, slice_get}
use Rattle.std.specs.Option.{is_some}
use Rattle.std.specs.Int.{div_ceil}
use Rattle.std.proofs.Math.Nat.{eq-or-lt_of_le}
use Rattle.std.proofs.lemmas.Bool.Decides.{nat_tests}
use Rattle.layout.specs.Bytes.{zeros}
use Rattle.layout.specs.Limits.{Sizes}
use Rattle.layout.specs.Places.{Blocks, place, pointed}
use Rattle.layout.specs.Trees.{level_of}
use Rattle.layout.specs.declared.inode.Body.TheVariants.{Inline, Pointers}
use Rattle.layout.specs.declared.inode.Inode.{Inode}
use Rattle.layout.specs.declared.pointer.Pointer.{Pointer}
use Rattle.layout.specs.declared.root.Root.{Root}
use Rattle.model.proofs.ListLaws.{get_others}
use Rattle.images.specs.Faults.{HoldsGraph}
use Rattle.images.specs.Nodes.{file_block, held}
use Rattle.images.specs.Roots.{Whole, whole}
use Rattle.images.specs.Soundness.{Detail, IsHeldFile}
use Rattle.loading.specs.Laws.{EndTrees, SpellTrees}
use Rattle.checker.specs.Checks.{AreFindings, Passes}
use Rattle.checker.specs.Errors.{TellsFault}
use Rattle.checker.specs.Findings.{IsFindingUnder, IsTreeFinding, StandsIn, fault_number, first_fault, first_of, tree_in}
use Rattle.checker.specs.Nodes.{SharesNone}
use Rattle.checker.specs.Trees.{HasEnded, IsApart, IsOut, IsRootOf, IsSeen, IsSeenTo, IsTreeAt}
use Rattle.checker.specs.declared.error.CheckError.{CheckError}
use Rattle.checker.specs.declared.error.CheckEnd.{CheckEnd}
use Rattle.checker.specs.declared.error.CheckEnd.TheVariants as halts
use Rattle.checker.specs.declared.fault.Fault.{Fault}
use Rattle.checker.specs.declared.fault.Fault.TheVariants as faults
use Rattle.checker.specs.declared.fault.FileNode.{FileNode}
use Rattle.checker.specs.declared.fault.Finding.{Finding}
use Rattle.checker.specs.declared.nodes.Shared.{Shared}
use Rattle.checker.specs.declared.tree.Tree.{Tree}
use Rattle.checker.proofs.EachLaws.{get_set}
use Rattle.checker.proofs.FindingLaws.{more_found}
use Rattle.checker.proofs.WholeLaws.{first_told, grammar_seen, out_number, seen_with}

-- where a block is named twice, no tree is apart
not_apart : (P : Fault → Type 0) (known : Option Fault) (block : ℕ) (first second : FileNode) → ((found : _) → P (faults.Roots found) → ⊥) → ((slot b : _) (found : _) → P (faults.Snapshot slot b found) → ⊥)
    → ((g : Fault) → known ≡ Some g → P g) → IsApart (Some (first_fault known (faults.Shared block first second))) → ⊥
not_apart P None block first second roots slots told apart = apart
not_apart P (Some (faults.Roots found)) block first second roots slots told apart = roots found (told (faults.Roots found) refl)
not_apart P (Some (faults.Snapshot slot b found)) block first second roots slots told apart = slots slot b found (told (faults.Snapshot slot b found) refl)
not_apart P (Some (faults.Tree found)) block first second roots slots told apart = apart
not_apart P (Some (faults.Shared b one other)) block first second roots slots told apart = apart
not_apart P (Some (faults.MapBit b is should)) block first second roots slots told apart = apart
not_apart P (Some (faults.InodeMap number is_taken)) block first second roots slots told apart = apart
not_apart P (Some (faults.Directory found)) block first second roots slots told apart = apart
not_apart P (Some (faults.Links number names links)) block first second roots slots told apart = apart
not_apart P (Some (faults.Log found)) block first second roots slots told apart = apart

-- what a part of a check comes to, by what it passes
pub passed : (Is : Type 0) (Found : Fault → Type 0) (checked : Result (Unit {0}) CheckEnd) (result : Result (Option Fault) CheckError) → Passes (λ (_ : Unit {0}). Is) Found checked → TellsFault checked result → result ≡ Ok None → Is
passed Is Found (Ok done) result passes tells none = passes
passed Is Found (Err halts.NoMemory) result passes tells none = absurd (cc (tells, none))
passed Is Found (Err halts.Device) result passes tells none = absurd (cc (tells, none))
passed Is Found (Err (halts.Fault fault)) result passes tells none = absurd (cc (tells, none))

pub found_out : (Is : Type 0) (Found : Fault → Type 0) (fault : Fault) (checked : Result (Unit {0}) CheckEnd) (result : Result (Option Fault) CheckError) → Passes (λ (_ : Unit {0}). Is) Found checked → TellsFault checked result
    → result ≡ Ok (Some fault) → Found fault
found_out Is Found fault (Ok done) result passes tells is = absurd (cc (tells, is))
found_out Is Found fault (Err halts.NoMemory) result passes tells is = absurd (cc (tells, is))
found_out Is Found fault (Err halts.Device) result passes tells is = absurd (cc (tells, is))
found_out Is Found fault (Err (halts.Fault other)) result passes tells is = (let same : other ≡ fault = cc (tells, is) in subst Found same passes)

pub none_of : (known : Option Fault) → is_some known ≡ false → known ≡ None
none_of None is = refl
none_of (Some fault) is = absurd (cc is)

-- the laws of images that the look stands on
pub record TreeLaws : Type 0 where
  pub spells : SpellTrees
  pub ends : EndTrees
  pub led : (detail : Detail) (s : Sizes) (d : Blocks) (f : Inode) (pointers : List Pointer) (i : ℕ) → IsHeldFile detail s (held d f) → f.body ≡ Pointers pointers
      → file_block (held d f) i ≡ (if nat_lt i (div_ceil f.size 4096) then pointed d (place f.layout d pointers (level_of f.layout f.size - 1) i) else zeros 4096)
  pub inline : (d : Blocks) (f : Inode) (bytes : List ℕ) (i : ℕ) → f.body ≡ Inline bytes → 1 ≤ i → file_block (held d f) i ≡ zeros 4096

module _ (laws : TreeLaws) (disk : Blocks) (r : Root) {s : Sizes} {blocks : ℕ} (over : IsRootOf r s blocks) {marks : List ℕ} {shared : List (Option Shared)} {t : Tree}
    (told : IsSeenTo disk r (div_ceil s.inodes 21) (21 * div_ceil s.inodes 21) marks shared t) where
  seen : IsSeenTo disk r (div_ceil r.geometry.inodes 21) (21 * div_ceil r.geometry.inodes 21) marks shared t
  seen = subst (λ (z : Sizes). IsSeenTo disk r (div_ceil z.inodes 21) (21 * div_ceil z.inodes 21) marks shared t) (sym over.geometry) told

  with_fault : (f : Option Fault) → ((fault : Fault) → f ≡ Some fault → IsTreeFinding r (tree_in (whole disk r) t.plane) fault) → ((IsOut f → ⊥) → IsOut t.fault → ⊥) → (IsApart f → SharesNone shared t.plane) → (f ≡ None → t.fault ≡ None)
      → IsSeen disk r marks (record t { fault = f })
  with_fault = seen_with disk r over.root laws.spells laws.ends laws.led laws.inline marks shared t seen

  pub tree_at : (IsOut t.fault → ⊥) → IsTreeAt disk r s blocks t
  tree_at not = record { over = over; tree = told.tree; grammar = grammar_seen disk r over.root laws.spells laws.ends laws.led laws.inline marks shared t seen not }

  -- a tree that is out of its grammar
  pub ended_out : IsOut t.fault → HasEnded disk r marks t
  ended_out out = (
    with_fault t.fault seen.fault (λ not. absurd (not out)) (λ apart. absurd (out_number t.fault out apart)) (λ none. none),
    λ none. absurd (subst IsOut none out),
  )

  -- one that names a block twice
  pub ended_shared : (twice : Shared) (node : FileNode) → (IsOut t.fault → ⊥) → StandsIn (tree_in (whole disk r) t.plane) twice.second twice.block → StandsIn (tree_in (whole disk r) t.plane) node twice.block
      → node ≢ twice.second → (q : Tree) → q ≡ record t { fault = Some (first_fault t.fault (faults.Shared twice.block node twice.second)) } → HasEnded disk r marks q
  ended_shared twice node not again there other q is =
      let P = IsTreeFinding r (tree_in (whole disk r) t.plane) in
      let fault = faults.Shared twice.block node twice.second in
      subst (HasEnded disk r marks) (sym is) (
        with_fault (Some (first_fault t.fault fault)) (first_told P t.fault fault seen.fault (there, again, other)) (λ some. not)
            (λ apart. absurd (not_apart P t.fault twice.block node twice.second (λ found no. no) (λ slot b found no. no) seen.fault apart)) (λ none. absurd (cc none)),
        λ none. absurd (cc none),
      )

  -- one with a fault of its inode map
  pub ended_fault : (IsOut t.fault → ⊥) → SharesNone shared t.plane → (t.fault ≡ None → ⊥) → HasEnded disk r marks t
  ended_fault not once some = (with_fault t.fault seen.fault (λ out. not) (λ apart. once) (λ none. none), λ none. absurd (some none))

  -- one without a fault so far
  module _ (not : IsOut t.fault → ⊥) (once : SharesNone shared t.plane) (none : t.fault ≡ None) where
    pub so_far : IsSeen disk r marks t
    so_far = with_fault t.fault seen.fault (λ out. not) (λ apart. once) (λ same. same)

    pub ended_none : HoldsGraph r.geometry.inodes (tree_in (whole disk r) t.plane) → HasEnded disk r marks t
    ended_none names = (
      so_far,
      λ same. record { grammar = so_far.grammar not; once = so_far.once (subst IsApart (sym none) tt); numbers = so_far.mapped none; names = names },
    )

    -- its directories have a fault, or its links
    pub ended_names : (fault : Fault) → IsTreeFinding r (tree_in (whole disk r) t.plane) fault → (q : Tree) → q ≡ record t { fault = Some (first_fault t.fault fault) } → HasEnded disk r marks q
    ended_names fault found q q_is = subst (HasEnded disk r marks) (sym q_is) (
      with_fault (Some (first_fault t.fault fault)) (first_told (IsTreeFinding r (tree_in (whole disk r) t.plane)) t.fault fault seen.fault found) (λ some. not) (λ apart. once) (λ is. absurd (cc is)),
      λ is. absurd (cc is),
    )

-- ---- tree by tree

-- what is known of all trees before place k, and of that at k
pub set_more : {X : Type 0} (P : X → Type 0) (xs : List X) (k : ℕ) (y : X) → k < length xs → ((i : ℕ) (t : X) → i < k → slice_get xs i ≡ Some t → P t) → P y
    → (i : ℕ) (t : X) → i < k + 1 → slice_get (set xs k y) i ≡ Some t → P t
set_more P xs k y lt before here i t low is =
    let most : i ≤ k = omega (arith, low) in
    elim (eq-or-lt_of_le most) [
      | inl same ↦
          let e : Some y ≡ Some t = sym (get_set xs k y lt) ∙ ap (slice_get (set xs k y)) (sym same) ∙ is in
          let one : y ≡ t = cc e in
          subst P one here
      | inr less ↦ before i t less (sym (get_others xs k i y (λ same. omega (arith, same, less))) ∙ is)
    ]

pub is_above : (n m : ℕ) → nat_lt 4 n ≡ true → n ≡ m → 4 < m
is_above n m above same = grind (arith, nat_tests)

-- the fault of a tree is told, if it has one
abbrev pub Tells : Option Finding → Option Finding → Bool → Bool → Tree → Type 0
Tells first new are now q =
    ((new ≡ first) × (q.fault ≡ None) × (now ≡ are))
    ⊎ ((fault : Fault) × (q.fault ≡ Some fault) × (new ≡ Some (first_of first (record { tree = q.name; fault = fault }))) × (IsTrue now → IsTrue are × (4 < fault_number fault)))

apart_above : (fault : Fault) → 4 < fault_number fault → IsApart (Some fault)
apart_above (faults.Roots found) more = tt
apart_above (faults.Snapshot slot block found) more = tt
apart_above (faults.Tree found) more = omega (arith, more)
apart_above (faults.Shared block first second) more = omega (arith, more)
apart_above (faults.MapBit block is should) more = tt
apart_above (faults.InodeMap number is_taken) more = tt
apart_above (faults.Directory found) more = tt
apart_above (faults.Links number names links) more = tt
apart_above (faults.Log found) more = tt

module _ (first new : Option Finding) (are now : Bool) (q : Tree) where
  pub tells_found : (r : Root) (w : Whole) (nvram : List ℕ) → AreFindings r w nvram first → ((fault : Fault) → q.fault ≡ Some fault → IsFindingUnder r w nvram q.name fault) → Tells first new are now q
      → AreFindings r w nvram new
  tells_found r w nvram found here (inl none) = subst (AreFindings r w nvram) (sym none.0) found
  tells_found r w nvram found here (inr some) = more_found r w nvram first new (record { tree = q.name; fault = some.0 }) some.2 found (here some.0 some.1)

  pub tells_apart : Tells first new are now q → IsTrue now → IsTrue are × IsApart q.fault
  tells_apart (inl none) on = (sym none.2 ∙ on, subst IsApart (sym none.1) tt)
  tells_apart (inr some) on = ((some.3 on).0, subst IsApart (sym some.1) (apart_above some.0 (some.3 on).1))

  pub tells_none : Tells first new are now q → new ≡ None → (first ≡ None) × (q.fault ≡ None) × (now ≡ are)
  tells_none (inl none) is = (sym none.0 ∙ is, none.1, none.2)
  tells_none (inr some) is = (let e = some.2 in absurd (cc (e, is)))
