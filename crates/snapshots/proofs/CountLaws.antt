-- How many snapshots are kept: as many as slots are in use.
use Rattle.std.proofs.Common.{◌≡◌, ◌≢◌, inl, inr, ℕ, zero, suc, ◌+◌, ◌<◌, ◌≤◌, List, [], ◌∷◌, length, Option, Some, None, refl, ap, sym, subst, ◌∙◌, arith}
use Rattle.std.specs.Prelude.{nat_lt, if◌then◌else◌, slice_index_or}
use Rattle.std.proofs.lemmas.Bool.{cases_eq, cases_lt, cond_below, cond_above}
use Rattle.layout.specs.Places.{Blocks}
use Rattle.layout.specs.Root.{IsRoot}
use Rattle.layout.specs.SnapRoot.{Snapshot, snapshot_in}
use Rattle.layout.specs.declared.trees.Layout.{Layout}
use Rattle.layout.specs.declared.pointer.Pointer.{Pointer}
use Rattle.layout.specs.declared.pointer.Pointer.TheVariants.{Hole, Block}
use Rattle.layout.specs.declared.root.Root.{Root}
use Rattle.layout.specs.declared.version.TheConstants.{SNAPSHOT_SLOTS}
use Rattle.model.specs.Paths.{Name}
use Rattle.model.specs.Trees.{Tree}
use Rattle.images.specs.Roots.{slot, whole}
use Rattle.images.specs.Snapshots.{AreKept, AreKeptAbove, AreSnapshots, HasSnapshot}
use Rattle.snapshots.specs.Found.{SpellsSnapshot}
use Rattle.snapshots.proofs.SlotLaws.{has, in_slot, spells}

-- ---- sums of ones

sum_to : (ℕ → ℕ) → ℕ → ℕ
sum_to f zero = 0
sum_to f (suc n) = sum_to f n + f n

sum_same : (f g : ℕ → ℕ) (n : ℕ) → ((i : ℕ) → i < n → f i ≡ g i) → sum_to f n ≡ sum_to g n
unfolding sum_to
sum_same f g zero same = refl
sum_same f g (suc n) same =
    let before = sum_same f g n (λ i lt. same i (omega arith)) in
    let here = same n (omega arith) in
    omega (arith, before, here)

-- one more in one place
sum_one : (f g : ℕ → ℕ) (n j : ℕ) → j < n → f j ≡ g j + 1 → ((i : ℕ) → i ≢ j → f i ≡ g i) → sum_to f n ≡ sum_to g n + 1
unfolding sum_to
sum_one f g zero j lt more same = absurd (omega (arith, lt))
sum_one f g (suc n) j lt more same = elim (cases_eq n j) [
  | inl is ↦
      let before = sum_same f g n (λ i low. same i (omega (arith, low, is))) in
      let here : f n ≡ g n + 1 = subst (λ i. f i ≡ g i + 1) (sym is) more in
      omega (arith, before, here)
  | inr other ↦
      let before = sum_one f g n j (omega (arith, lt, other)) more same in
      let here = same n other in
      omega (arith, before, here)
]

sum_none : (f : ℕ → ℕ) (n : ℕ) → ((i : ℕ) → i < n → f i ≡ 0) → sum_to f n ≡ 0
unfolding sum_to
sum_none f zero none = refl
sum_none f (suc n) none =
    let before = sum_none f n (λ i lt. none i (omega arith)) in
    let here = none n (omega arith) in
    omega (arith, before, here)

sum_all : (f : ℕ → ℕ) (n : ℕ) → ((i : ℕ) → i < n → f i ≡ 1) → sum_to f n ≡ n
unfolding sum_to
sum_all f zero all = refl
sum_all f (suc n) all =
    let before = sum_all f n (λ i lt. all i (omega arith)) in
    let here = all n (omega arith) in
    omega (arith, before, here)

sum_most : (f : ℕ → ℕ) (n : ℕ) → ((i : ℕ) → f i ≤ 1) → sum_to f n ≤ n
unfolding sum_to
sum_most f zero most = omega arith
sum_most f (suc n) most =
    let before = sum_most f n most in
    let here = most n in
    omega (arith, before, here)

sum_fewer : (f : ℕ → ℕ) (n j : ℕ) → ((i : ℕ) → f i ≤ 1) → j < n → f j ≡ 0 → sum_to f n < n
unfolding sum_to
sum_fewer f zero j most lt none = absurd (omega (arith, lt))
sum_fewer f (suc n) j most lt none = elim (cases_eq n j) [
  | inl is ↦
      let before = sum_most f n most in
      let here : f n ≡ 0 = ap f is ∙ none in
      omega (arith, before, here)
  | inr other ↦
      let before = sum_fewer f n j most (omega (arith, lt, other)) none in
      let here = most n in
      omega (arith, before, here)
]

-- ---- the slots in use

order_of : Option Snapshot → ℕ
order_of None = 0
order_of (Some s) = s.order

order_in : Layout → Blocks → Pointer → ℕ
order_in layout disk Hole = 0
order_in layout disk (Block b) = order_of (snapshot_in layout (disk b))

-- the order number in a pointer's block is that of the snapshot
order_is : (layout : Layout) (disk : Blocks) (p : Pointer) (s : Snapshot) → SpellsSnapshot layout disk p s → order_in layout disk p ≡ s.order
unfolding order_in order_of
order_is layout disk Hole s spelled = absurd spelled
order_is layout disk (Block b) s spelled = ap order_of spelled

-- and there is one where it isn't 0
order_some : (layout : Layout) (disk : Blocks) (p : Pointer) → 0 < order_in layout disk p → (s : Snapshot) × SpellsSnapshot layout disk p s
unfolding order_in order_of
order_some layout disk Hole some = absurd (omega (arith, some))
order_some layout disk (Block b) some = found (snapshot_in layout (disk b)) refl some
  where
    found : (o : Option Snapshot) → snapshot_in layout (disk b) ≡ o → 0 < order_of o → (s : Snapshot) × (snapshot_in layout (disk b) ≡ Some s)
    found None is up = absurd (omega (arith, up))
    found (Some s) is up = (s, is)

module _ (disk : Blocks) (r : Root) (root : IsRoot r) (are : AreSnapshots r (whole disk r)) where
  at : ℕ → Pointer
  at i = slice_index_or r.snapshots i Hole

  one_above : ℕ → ℕ → ℕ
  one_above above i = if nat_lt above (order_in r.geometry.layout disk (at i)) then 1 else 0

  is_above : (above i : ℕ) → above < order_in r.geometry.layout disk (at i) → one_above above i ≡ 1
  unfolding one_above
  is_above above i lt = sym (cond_below above (order_in r.geometry.layout disk (at i)) 1 0 lt)

  not_above : (above i : ℕ) → order_in r.geometry.layout disk (at i) ≤ above → one_above above i ≡ 0
  unfolding one_above
  not_above above i le = sym (cond_above above (order_in r.geometry.layout disk (at i)) 1 0 0 le refl)

  at_most : (above i : ℕ) → one_above above i ≤ 1
  at_most above i = elim (cases_lt above (order_in r.geometry.layout disk (at i))) [
    | inl lt ↦ (let is = is_above above i lt in omega (arith, is))
    | inr le ↦ (let is = not_above above i le in omega (arith, is))
  ]

  -- what a slot has
  there : (i : ℕ) → 0 < order_in r.geometry.layout disk (at i) → (s : Snapshot) × HasSnapshot r (whole disk r) (suc i) s × (order_in r.geometry.layout disk (at i) ≡ s.order)
  unfolding at
  there i some =
      let found = order_some r.geometry.layout disk (at i) some in
      (found.0, has disk r (suc i) (at i) found.0 refl found.1, order_is r.geometry.layout disk (at i) found.0 found.1)

  order_at : (i : ℕ) (s : Snapshot) → HasSnapshot r (whole disk r) (suc i) s → order_in r.geometry.layout disk (at i) ≡ s.order
  unfolding at
  order_at i s here = order_is r.geometry.layout disk (at i) s (spells disk r (suc i) s here)

  kept_count : (above : ℕ) (pairs : List (Name × Tree)) → AreKeptAbove r (whole disk r) above pairs → length pairs ≡ sum_to (one_above above) SNAPSHOT_SLOTS
  kept_count above [] kept = sym (sum_none (one_above above) SNAPSHOT_SLOTS (λ i lt. not_above above i (elim (cases_lt above (order_in r.geometry.layout disk (at i))) [
    | inr le ↦ le
    | inl up ↦
        let one = there i (omega (arith, up)) in
        let low = kept (suc i) one.0 one.1 in
        absurd (omega (arith, up, low, one.2))
  ])))
  kept_count above (pair ∷ pairs) (k, s, next, is, frozen, rest) =
      let slot_is = in_slot r k next.has.block next.has.there in
      let j = slot_is.0 in
      let here : HasSnapshot r (whole disk r) (suc j) s = subst (λ i. HasSnapshot r (whole disk r) i s) slot_is.1 next.has in
      let order : order_in r.geometry.layout disk (at j) ≡ s.order = order_at j s here in
      let one : one_above above j ≡ one_above s.order j + 1 =
      (let up = is_above above j (omega (arith, order, next.above_it)) in let none = not_above s.order j (omega (arith, order)) in omega (arith, up, none)) in
      let others : (i : ℕ) → i ≢ j → one_above above i ≡ one_above s.order i = λ i other. elim (cases_lt s.order (order_in r.geometry.layout disk (at i))) [
        | inl up ↦ is_above above i (omega (arith, up, next.above_it)) ∙ sym (is_above s.order i up)
        | inr le ↦ elim (cases_lt above (order_in r.geometry.layout disk (at i))) [
          | inr low ↦ not_above above i low ∙ sym (not_above s.order i le)
          | inl up ↦
              let found = there i (omega (arith, up)) in
              let least = next.least (suc i) found.0 found.1 (omega (arith, up, found.2)) in
              let same : found.0.order ≡ s.order = omega (arith, least, le, found.2) in
              let slots = are.orders (suc i) (suc j) found.0 s found.1 here same in
              absurd (other (omega (arith, slots)))
        ]
      ] in
      let more = sum_one (one_above above) (one_above s.order) SNAPSHOT_SLOTS j (omega (arith, slot_is.2, root.slots)) one others in
      let less = kept_count s.order pairs rest in
      omega (arith, more, less)

  -- where a slot is free there is room
  pub room_left : (pairs : List (Name × Tree)) (k : ℕ) → AreKept r (whole disk r) pairs → 1 ≤ k → k ≤ SNAPSHOT_SLOTS → slot r k ≡ Hole → length pairs < SNAPSHOT_SLOTS
  unfolding at order_in
  room_left pairs zero kept low high none = absurd (omega (arith, low))
  room_left pairs (suc j) kept low high none =
      let all = kept_count 0 pairs kept in
      let zero_there : order_in r.geometry.layout disk (at j) ≡ 0 = ap (order_in r.geometry.layout disk) none in
      let fewer = sum_fewer (one_above 0) SNAPSHOT_SLOTS j (at_most 0) (omega (arith, high)) (not_above 0 j (omega (arith, zero_there))) in
      omega (arith, all, fewer)

  -- and where none is there is none
  pub none_free : (pairs : List (Name × Tree)) → AreKept r (whole disk r) pairs → ((k : ℕ) → 1 ≤ k → k ≤ SNAPSHOT_SLOTS → slot r k ≡ Hole → ⊥) → SNAPSHOT_SLOTS ≤ length pairs
  unfolding at
  none_free pairs kept none =
      let all = kept_count 0 pairs kept in
      let each = sum_all (one_above 0) SNAPSHOT_SLOTS (λ i lt. is_above 0 i (in_use i (omega (arith, lt)))) in
      omega (arith, all, each)
    where
      in_use : (i : ℕ) → i < SNAPSHOT_SLOTS → 0 < order_in r.geometry.layout disk (at i)
      in_use i lt = used (slot r (suc i)) refl
        where
          used : (p : Pointer) → slot r (suc i) ≡ p → 0 < order_in r.geometry.layout disk (at i)
          used Hole is = absurd (none (suc i) (omega arith) (omega (arith, lt)) is)
          used (Block b) is =
              let one = are.each (suc i) b is in
              let order = order_at i one.0 one.1 in
              omega (arith, order, one.2.is.first)
