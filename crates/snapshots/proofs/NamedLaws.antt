-- Names and trees of snapshots, oldest first, and the slots that have them.
use Rattle.std.proofs.Common.{◌≡◌, inl, inr, ℕ, suc, ◌+◌, ◌<◌, ◌≤◌, List, [], ◌∷◌, true, false, Option, Some, None, IsSome, refl, ap, sym, subst, ◌∙◌, arith, bytes_eq}
use Rattle.std.specs.Prelude.{◌≢◌, if◌then◌else◌, IfSome}
use Rattle.std.proofs.lemmas.Bool.{cases_Bool, cases_lt, false≢true}
use Rattle.std.proofs.lemmas.Slice.Eq.{bytes_eq-Decides}
use Rattle.layout.specs.StateLimits.{limits_of}
use Rattle.layout.specs.Places.{Blocks}
use Rattle.layout.specs.SnapRoot.{Snapshot}
use Rattle.layout.specs.declared.pointer.Pointer.{Pointer}
use Rattle.layout.specs.declared.root.Root.{Root}
use Rattle.model.specs.Paths.{Name}
use Rattle.model.specs.Trees.{Tree}
use Rattle.model.specs.Volumes.{Volume}
use Rattle.images.specs.Roots.{slot, whole}
use Rattle.images.specs.Snapshots.{AreKeptAbove, AreSnapshots, HasSnapshot, IsFrozenTree}
use Rattle.images.specs.States.{Holds}
use Rattle.snapshots.specs.Found.{FindsSnapshot, IsNamedSnapshot, SpellsSnapshot, named, snapshot_found}
use Rattle.snapshots.specs.declared.finding.FoundSnapshot.{FoundSnapshot}
use Rattle.snapshots.proofs.SlotLaws.{has, one_snapshot}

here : (name : Name) (pair : Name × Tree) (pairs : List (Name × Tree)) → bytes_eq pair.0 name ≡ true → named name (pair ∷ pairs) ≡ Some pair
here name pair pairs is = ap (λ b. if b then Some pair else named name pairs) is

behind : (name : Name) (pair : Name × Tree) (pairs : List (Name × Tree)) → bytes_eq pair.0 name ≡ false → named name (pair ∷ pairs) ≡ named name pairs
behind name pair pairs isnt = ap (λ b. if b then Some pair else named name pairs) isnt

module _ (disk : Blocks) (r : Root) (name : Name) where
  none_above : (pairs : List (Name × Tree)) (above : ℕ) → AreKeptAbove r (whole disk r) above pairs
      → ((k : ℕ) (s : Snapshot) → HasSnapshot r (whole disk r) k s → s.name ≢ name) → named name pairs ≡ None
  none_above [] above kept none = refl
  none_above (pair ∷ pairs) above (k, s, next, is, frozen, rest) none = elim (cases_Bool (bytes_eq pair.0 name)) [
    | inl same ↦ absurd (none k s next.has (sym is ∙ (bytes_eq-Decides pair.0 name).0 same))
    | inr other ↦ behind name pair pairs other ∙ none_above pairs s.order rest none
  ]

  module _ (are : AreSnapshots r (whole disk r)) (k : ℕ) (s : Snapshot) (has : HasSnapshot r (whole disk r) k s) (is : s.name ≡ name) where
    one_above : (pairs : List (Name × Tree)) (above : ℕ) → AreKeptAbove r (whole disk r) above pairs → above < s.order
        → (tree : Tree) × (named name pairs ≡ Some (name, tree)) × IsFrozenTree (limits_of r.geometry) ((whole disk r).frozen k) tree
    one_above [] above kept lt = absurd (omega (arith, lt, kept k s has))
    one_above (pair ∷ pairs) above (l, q, next, called, frozen, rest) lt = elim (cases_Bool (bytes_eq pair.0 name)) [
      | inl same ↦
          let at : l ≡ k = are.names l k q s next.has has (sym called ∙ (bytes_eq-Decides pair.0 name).0 same ∙ sym is) in (
            pair.1,
            here name pair pairs same ∙ ap (λ (n : Name). Some (n, pair.1)) ((bytes_eq-Decides pair.0 name).0 same),
            subst (λ i. IsFrozenTree (limits_of r.geometry) ((whole disk r).frozen i) pair.1) at frozen,
          )
      | inr other ↦ elim (cases_lt q.order s.order) [
        | inl less ↦
            let found = one_above pairs q.order rest less in
            (found.0, behind name pair pairs other ∙ found.1, found.2)
        | inr ge ↦
            let same_order : q.order ≡ s.order = omega (arith, ge, next.least k s has lt) in
            let at : l ≡ k = are.orders l k q s next.has has same_order in
            let one : q ≡ s = one_snapshot disk r k q s (subst (λ i. HasSnapshot r (whole disk r) i q) at next.has) has in
            let told : bytes_eq pair.0 name ≡ true = (bytes_eq-Decides pair.0 name).1 (called ∙ ap (λ (x : Snapshot). x.name) one ∙ is) in
            absurd (false≢true (sym other ∙ told))
      ]
    ]

  pub none_named : (v : Volume) (pairs : List (Name × Tree)) → Holds r (whole disk r) v pairs
      → ((k : ℕ) (s : Snapshot) → HasSnapshot r (whole disk r) k s → s.name ≢ name) → named name pairs ≡ None
  none_named v pairs holds none = none_above pairs 0 holds.kept none

  pub one_named : (v : Volume) (pairs : List (Name × Tree)) → Holds r (whole disk r) v pairs
      → (k : ℕ) (s : Snapshot) → HasSnapshot r (whole disk r) k s → s.name ≡ name → IsNamedSnapshot r disk name pairs k
  one_named v pairs holds k s has is =
      let each = holds.sound.snapshots.each k has.block has.there in
      let one : each.0 ≡ s = one_snapshot disk r k each.0 s each.1 has in
      let first : 1 ≤ s.order = subst (λ (x : Snapshot). 1 ≤ x.order) one each.2.is.first in
      let found = one_above holds.sound.snapshots k s has is pairs 0 holds.kept (omega (arith, first)) in
      record { tree = found.0; listed = found.1; frozen = found.2 }

-- what a slot's pointer leads to, where it has the name
pub finds : (disk : Blocks) (r : Root) (name : Name) (v : Volume) (pairs : List (Name × Tree)) → Holds r (whole disk r) v pairs
    → (k : ℕ) (p : Pointer) (found : Option FoundSnapshot) → slot r (suc k) ≡ p → IsSome found → IfSome found (λ f. f.slot ≡ k + 1)
    → IfSome found (λ f. SpellsSnapshot r.geometry.layout disk p (snapshot_found name f)) → FindsSnapshot r disk name pairs found
finds disk r name v pairs holds k p None there some at spells = absurd (false≢true some)
finds disk r name v pairs holds k p (Some f) there some at spells =
    let same : suc k ≡ f.slot = omega (arith, at) in
    let has_it : HasSnapshot r (whole disk r) f.slot (snapshot_found name f) =
    subst (λ i. HasSnapshot r (whole disk r) i (snapshot_found name f)) same (has disk r (suc k) p (snapshot_found name f) there spells) in
    (has_it, one_named disk r name v pairs holds f.slot (snapshot_found name f) has_it refl)
