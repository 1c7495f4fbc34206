-- The snapshots of a root in the order of their order numbers.
use Rattle.std.proofs.Common.{◌≡◌, inl, inr, ℕ, suc, ◌+◌, ◌<◌, ◌≤◌, List, [], ◌∷◌, Option, Some, None, refl, ap, sym, subst, ◌∙◌, arith}
use Rattle.std.specs.Prelude.{IfNone, IfSome, map, slice_index_or}
use Rattle.std.proofs.lemmas.Bool.{cases_eq, cases_lt, cond_below, cond_above}
use Rattle.layout.specs.Places.{Blocks}
use Rattle.layout.specs.Root.{IsRoot}
use Rattle.layout.specs.SnapRoot.{Snapshot}
use Rattle.layout.specs.declared.pointer.Pointer.TheVariants.{Hole, Block}
use Rattle.layout.specs.declared.root.Root.{Root}
use Rattle.layout.specs.declared.version.TheConstants.{SNAPSHOT_SLOTS}
use Rattle.model.specs.Paths.{Name}
use Rattle.model.specs.Trees.{Tree}
use Rattle.images.specs.Roots.{slot, whole}
use Rattle.images.specs.Snapshots.{AreKeptAbove, AreSnapshots, HasSnapshot}
use Rattle.loading.specs.Snapshots.{IsSnapshotAt}
use Rattle.snapshots.specs.Found.{SpellsSnapshot}
use Rattle.snapshots.specs.Listed.{IsLeastAbove, IsOver, LeastOf}
use Rattle.snapshots.specs.declared.listing.Next.{Next}
use Rattle.loading.proofs.SnapshotLaws.{at_slot}
use Rattle.snapshots.proofs.SlotLaws.{has, in_slot, one_snapshot, spells}

-- the last slot's snapshot is the least
least_one : (disk : Blocks) (r : Root) (above n : ℕ) (b : Next) → IsOver r.geometry.layout disk (slice_index_or r.snapshots n Hole) above b
    → ((j : ℕ) (s : Snapshot) → j < n → SpellsSnapshot r.geometry.layout disk (slice_index_or r.snapshots j Hole) s → above < s.order → b.order ≤ s.order)
    → ((s : Snapshot) → SpellsSnapshot r.geometry.layout disk (slice_index_or r.snapshots n Hole) s → s.order ≡ b.order) → IsLeastAbove disk r above (n + 1) (Some b)
least_one disk r above n b over least same = (
  (n, omega arith, over),
  λ j s lt spelled up. elim (cases_eq j n) [
    | inl here ↦ (let is = same s (subst (λ i. SpellsSnapshot r.geometry.layout disk (slice_index_or r.snapshots i Hole) s) here spelled) in omega (arith, is))
    | inr other ↦ least j s (omega arith) spelled up
  ],
)

-- the least one so far is
least_still : (disk : Blocks) (r : Root) (above n : ℕ) (a : Next) → IsLeastAbove disk r above n (Some a)
    → ((s : Snapshot) → SpellsSnapshot r.geometry.layout disk (slice_index_or r.snapshots n Hole) s → a.order ≤ s.order) → IsLeastAbove disk r above (n + 1) (Some a)
least_still disk r above n a least high = (
  (least.0.0, omega (arith, least.0.1), least.0.2),
  λ j s lt spelled up. elim (cases_eq j n) [
    | inl here ↦ high s (subst (λ i. SpellsSnapshot r.geometry.layout disk (slice_index_or r.snapshots i Hole) s) here spelled)
    | inr other ↦ least.1 j s (omega arith) spelled up
  ],
)

-- one slot more is looked at
pub least_more : (disk : Blocks) (r : Root) (above n : ℕ) (next one : Option Next) → IsLeastAbove disk r above n next
    → IfSome one (IsOver r.geometry.layout disk (slice_index_or r.snapshots n Hole) above)
    → IfNone one ((s : Snapshot) → SpellsSnapshot r.geometry.layout disk (slice_index_or r.snapshots n Hole) s → s.order ≤ above)
    → ((next one : Next) → IsOver r.geometry.layout disk (slice_index_or r.snapshots n Hole) above one → (s : Snapshot) → SpellsSnapshot r.geometry.layout disk (slice_index_or r.snapshots n Hole) s → s.order ≡ one.order)
    → IsLeastAbove disk r above (n + 1) (LeastOf next one)
least_more disk r above n None None least some none same = λ j s lt spelled. elim (cases_eq j n) [
  | inl here ↦ none s (subst (λ i. SpellsSnapshot r.geometry.layout disk (slice_index_or r.snapshots i Hole) s) here spelled)
  | inr other ↦ least j s (omega arith) spelled
]
least_more disk r above n None (Some b) least some none same = (
  (n, omega arith, some),
  λ j s lt spelled up. elim (cases_eq j n) [
    | inl here ↦ (let is = same b b some s (subst (λ i. SpellsSnapshot r.geometry.layout disk (slice_index_or r.snapshots i Hole) s) here spelled) in omega (arith, is))
    | inr other ↦ (let low = least j s (omega arith) spelled in absurd (omega (arith, low, up)))
  ],
)
least_more disk r above n (Some a) None least some none same = (
  (least.0.0, omega (arith, least.0.1), least.0.2),
  λ j s lt spelled up. elim (cases_eq j n) [
    | inl here ↦ (let low = none s (subst (λ i. SpellsSnapshot r.geometry.layout disk (slice_index_or r.snapshots i Hole) s) here spelled) in absurd (omega (arith, low, up)))
    | inr other ↦ least.1 j s (omega arith) spelled up
  ],
)
least_more disk r above n (Some a) (Some b) least some none same = elim (cases_lt b.order a.order) [
  | inl nearer ↦ subst (IsLeastAbove disk r above (n + 1)) (cond_below b.order a.order (Some b) (Some a) nearer) (least_one disk r above n b some (λ j s lt spelled up.
      let low = least.1 j s lt spelled up in omega (arith, low, nearer)) (λ s spelled. same a b some s spelled))
  | inr farther ↦ subst (IsLeastAbove disk r above (n + 1)) (cond_above b.order a.order (Some b) (Some a) (Some a) farther refl) (least_still disk r above n a least (λ s spelled.
      let is = same a b some s spelled in omega (arith, is, farther)))
]

pub same_order : (disk : Blocks) (r : Root) (n above : ℕ) (one : Next) → IsOver r.geometry.layout disk (slice_index_or r.snapshots n Hole) above one → (s : Snapshot)
    → SpellsSnapshot r.geometry.layout disk (slice_index_or r.snapshots n Hole) s → s.order ≡ one.order
same_order disk r n above one over s spelled =
    let first : HasSnapshot r (whole disk r) (suc n) over.snapshot = has disk r (suc n) (slice_index_or r.snapshots n Hole) over.snapshot refl over.spells in
    let second : HasSnapshot r (whole disk r) (suc n) s = has disk r (suc n) (slice_index_or r.snapshots n Hole) s refl spelled in
    ap (λ (x : Snapshot). x.order) (one_snapshot disk r (suc n) s over.snapshot second first) ∙ over.order

-- the least one's block is a snapshot's root
pub next_at : (disk : Blocks) (r : Root) (above : ℕ) (next : Next) → AreSnapshots r (whole disk r) → IsLeastAbove disk r above SNAPSHOT_SLOTS (Some next) → IsSnapshotAt r.geometry r.generation disk (Block next.place)
next_at disk r above next are ((j, lt, over), least) =
    subst (IsSnapshotAt r.geometry r.generation disk) over.there (at_slot disk r j (slice_index_or r.snapshots j Hole) are refl)

-- ---- the names

abbrev pub names_of : List (Name × Tree) → List Name
names_of pairs = map (λ (pair : Name × Tree). pair.0) pairs

module _ (disk : Blocks) (r : Root) (root : IsRoot r) (are : AreSnapshots r (whole disk r)) (above : ℕ) where
  -- where nothing is above, nothing is left to list
  pub none_left : (rest : List (Name × Tree)) → IsLeastAbove disk r above SNAPSHOT_SLOTS None → AreKeptAbove r (whole disk r) above rest → rest ≡ []
  none_left [] least kept = refl
  none_left (pair ∷ rest) least (k, s, next, is, frozen, more) =
      let at = in_slot r k next.has.block next.has.there in
      let low = least at.0 s (omega (arith, at.2, root.slots)) (subst (λ i. SpellsSnapshot r.geometry.layout disk (slot r i) s) at.1 (spells disk r k s next.has)) in
      absurd (omega (arith, low, next.above_it))

  -- the next one to list is the least above
  pub next_listed : (rest : List (Name × Tree)) (next : Next) (name : Name) → IsLeastAbove disk r above SNAPSHOT_SLOTS (Some next) → AreKeptAbove r (whole disk r) above rest
      → ((s : Snapshot) → SpellsSnapshot r.geometry.layout disk (Block next.place) s → name ≡ s.name)
      → (more : List (Name × Tree)) × AreKeptAbove r (whole disk r) next.order more × (names_of rest ≡ name ∷ names_of more)
  next_listed [] next name ((j, lt, over), least) kept named =
      let there : HasSnapshot r (whole disk r) (suc j) over.snapshot = has disk r (suc j) (slice_index_or r.snapshots j Hole) over.snapshot refl over.spells in
      let low = kept (suc j) over.snapshot there in
      absurd (omega (arith, low, over.order, over.above_it))
  next_listed (pair ∷ rest) next name ((j, lt, over), least) (k, s, is_next, is, frozen, more) named =
      let there : HasSnapshot r (whole disk r) (suc j) over.snapshot = has disk r (suc j) (slice_index_or r.snapshots j Hole) over.snapshot refl over.spells in
      let at = in_slot r k is_next.has.block is_next.has.there in
      let low = least at.0 s (omega (arith, at.2, root.slots)) (subst (λ i. SpellsSnapshot r.geometry.layout disk (slot r i) s) at.1 (spells disk r k s is_next.has)) is_next.above_it in
      let high = is_next.least (suc j) over.snapshot there (omega (arith, over.order, over.above_it)) in
      let order : s.order ≡ over.snapshot.order = omega (arith, low, high, over.order) in
      let slot_is : k ≡ suc j = are.orders k (suc j) s over.snapshot is_next.has there order in
      let one : s ≡ over.snapshot = one_snapshot disk r (suc j) s over.snapshot (subst (λ i. HasSnapshot r (whole disk r) i s) slot_is is_next.has) there in
      let spelled : SpellsSnapshot r.geometry.layout disk (Block next.place) over.snapshot = subst (λ p. SpellsSnapshot r.geometry.layout disk p over.snapshot) over.there over.spells in
      let called : pair.0 ≡ name = is ∙ ap (λ (x : Snapshot). x.name) one ∙ sym (named over.snapshot spelled) in (
        rest,
        subst (λ (o : ℕ). AreKeptAbove r (whole disk r) o rest) (order ∙ over.order) more,
        ap (λ (n : Name). n ∷ names_of rest) called,
      )
