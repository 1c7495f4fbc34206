-- Maps of places: keys within a range, groups, and what one more pointer changes, at each fan-out.
use Rattle.std.proofs.Common.{◌≡◌, ◌≢◌, inl, inr, ℕ, zero, suc, ◌+◌, ◌-◌, ◌*◌, ◌/◌, ◌%◌, ◌<◌, ◌≤◌, Bool, true, false, List, replicate, refl, sym, ap, subst, ◌∙◌, arith}
use Rattle.std.specs.Prelude.{Some, None, slice_index_or, nat_lt, if◌then◌else◌}
use Rattle.std.specs.BTreeMap.{Updates, get, is_at}
use Rattle.std.specs.Int.{div_ceil}
use Rattle.std.specs.Ordering.{nat_cmp}
use Rattle.std.proofs.lemmas.Bool.{cases_lt, cases_eq, cond_above, cond_below}
use Rattle.std.proofs.lemmas.Grind.{common_steps}
use Rattle.layout.specs.Trees.{fan_out}
use Rattle.layout.specs.declared.trees.Layout.{Layout}
use Rattle.layout.specs.declared.pointer.Pointer.{Pointer}
use Rattle.layout.specs.declared.pointer.Pointer.TheVariants.{Hole}
use Rattle.layout.proofs.FanLaws.{up_low, up_from, up_below, up_within, up_is, up_back, pointer_back, pointer_low}
use Rattle.blocktree.proofs.FanLemmas.{together, up_in, part_low, part_high, part_within, part_past, from_in, down_low}
use Rattle.blocktree.specs.PlaceMaps.{place_at, pointer_in}
use Rattle.blocktree.specs.declared.place_map.PlaceMap.{PlaceMap}

-- another key isn't found
other_key : (a q : ℕ) → q ≢ a → is_at (nat_cmp a) q ≡ false
other_key a q other = grind (arith, common_steps)

-- ---- groups

-- holes alone
pub no_node : (n r : ℕ) → slice_index_or (replicate n Hole) r Hole ≡ Hole
no_node zero r = refl
no_node (suc n) zero = refl
no_node (suc n) (suc r) = no_node n r

-- a map of a layout
at_layout : (p : PlaceMap) (l : Layout) (i : ℕ) → p.layout ≡ l → place_at p i ≡ pointer_in (get nat_cmp p.groups (i / fan_out l)) (i % fan_out l)
unfolding place_at
at_layout p l i same = ap (λ (m : Layout). pointer_in (get nat_cmp p.groups (i / fan_out m)) (i % fan_out m)) same

-- node i, where its group is held, and where it isn't
pub in_group : (p : PlaceMap) (i j : ℕ) (group : List Pointer) → get nat_cmp p.groups j ≡ Some group → i / fan_out p.layout ≡ j → place_at p i ≡ slice_index_or group (i % fan_out p.layout) Hole
in_group p i j group is at = at_layout p p.layout i refl ∙ ap (λ g. pointer_in (get nat_cmp p.groups g) (i % fan_out p.layout)) at ∙ ap (λ o. pointer_in o (i % fan_out p.layout)) is

pub in_none : (p : PlaceMap) (i j : ℕ) → get nat_cmp p.groups j ≡ None → i / fan_out p.layout ≡ j → place_at p i ≡ Hole
in_none p i j is at = at_layout p p.layout i refl ∙ ap (λ g. pointer_in (get nat_cmp p.groups g) (i % fan_out p.layout)) at ∙ ap (λ o. pointer_in o (i % fan_out p.layout)) is

-- one group changes, at one pointer
module _ (old new : PlaceMap) (i : ℕ) (group : List Pointer) (same : new.layout ≡ old.layout) (updates : Updates nat_cmp old.groups new.groups (i / fan_out old.layout) (Some group)) where
  pub put_there : (p : Pointer) → slice_index_or group (i % fan_out old.layout) Hole ≡ p → place_at new i ≡ p
  put_there p is = at_layout new old.layout i same ∙ ap (λ o. pointer_in o (i % fan_out old.layout)) updates.1 ∙ is

  pub put_others : ((k : ℕ) → k ≢ i % fan_out old.layout → slice_index_or group k Hole ≡ pointer_in (get nat_cmp old.groups (i / fan_out old.layout)) k) → (k : ℕ) → k ≢ i → place_at new k ≡ place_at old k
  put_others rest k other = at_layout new old.layout k same ∙ elim (cases_eq (k / fan_out old.layout) (i / fan_out old.layout)) [
    | inl up ↦
        ap (λ g. pointer_in (get nat_cmp new.groups g) (k % fan_out old.layout)) up ∙ ap (λ o. pointer_in o (k % fan_out old.layout)) updates.1
        ∙ rest (k % fan_out old.layout) (λ e. other (together old.layout k i up e))
        ∙ sym (ap (λ g. pointer_in (get nat_cmp old.groups g) (k % fan_out old.layout)) up) ∙ sym (at_layout old old.layout k refl)
    | inr apart ↦
        ap (λ o. pointer_in o (k % fan_out old.layout)) (updates.2 (k / fan_out old.layout) (other_key (i / fan_out old.layout) (k / fan_out old.layout) apart))
        ∙ sym (at_layout old old.layout k refl)
  ]

-- one group changes whole
module _ (old new : PlaceMap) (j : ℕ) (group : List Pointer) (same : new.layout ≡ old.layout) (updates : Updates nat_cmp old.groups new.groups j (Some group)) where
  pub group_there : (r : ℕ) → r < fan_out old.layout → place_at new (fan_out old.layout * j + r) ≡ slice_index_or group r Hole
  group_there r lt =
      let i = fan_out old.layout * j + r in
      at_layout new old.layout i same ∙ ap (λ g. pointer_in (get nat_cmp new.groups g) (i % fan_out old.layout)) (up_back old.layout j r lt)
      ∙ ap (λ o. pointer_in o (i % fan_out old.layout)) updates.1 ∙ ap (λ k. slice_index_or group k Hole) (pointer_back old.layout j r lt)

  pub group_others : (i : ℕ) → i / fan_out old.layout ≢ j → place_at new i ≡ place_at old i
  group_others i apart =
      at_layout new old.layout i same ∙ ap (λ o. pointer_in o (i % fan_out old.layout)) (updates.2 (i / fan_out old.layout) (other_key j (i / fan_out old.layout) apart))
      ∙ sym (at_layout old old.layout i refl)

-- the first group that is held from that of a node on
module _ (p : PlaceMap) (from j : ℕ) (group : List Pointer) (is : get nat_cmp p.groups j ≡ Some group) (none : (g : ℕ) → from / fan_out p.layout ≤ g → g < j → get nat_cmp p.groups g ≡ None) where
  pub node_in : (r : ℕ) → r < fan_out p.layout → place_at p (fan_out p.layout * j + r) ≡ slice_index_or group r Hole
  node_in r lt =
      in_group p (fan_out p.layout * j + r) j group is (up_back p.layout j r lt) ∙ ap (λ k. slice_index_or group k Hole) (pointer_back p.layout j r lt)

  pub holes_in : (end : ℕ) → end ≤ fan_out p.layout → ((k : ℕ) → from - fan_out p.layout * j ≤ k → k < end → slice_index_or group k Hole ≡ Hole) → (i : ℕ) → from ≤ i → i < fan_out p.layout * j + end → place_at p i ≡ Hole
  holes_in end most holes i low high = elim (cases_lt (i / fan_out p.layout) j) [
    | inl lt ↦ in_none p i (i / fan_out p.layout) (none (i / fan_out p.layout) (up_low p.layout from i low) lt) refl
    | inr ge ↦
        let up : i / fan_out p.layout ≡ j = up_in p.layout i j end ge high most in
        in_group p i j group is up ∙ holes (i % fan_out p.layout) (part_low p.layout from i j up low) (part_high p.layout i j end up high)
  ]

-- no group is held from that of a node on and before that of another
pub holes_past : (p : PlaceMap) (from to : ℕ) → ((g : ℕ) → from / fan_out p.layout ≤ g → g < div_ceil to (fan_out p.layout) → get nat_cmp p.groups g ≡ None) → (i : ℕ) → from ≤ i → i < to → place_at p i ≡ Hole
holes_past p from to none i low high = in_none p i (i / fan_out p.layout) (none (i / fan_out p.layout) (up_low p.layout from i low) (up_within p.layout i to high)) refl

-- the same where a number is known to be the fan-out
pub found_in : (p : PlaceMap) (fan from j r : ℕ) (group : List Pointer) (place : Pointer) → fan ≡ fan_out p.layout → get nat_cmp p.groups j ≡ Some group
    → ((g : ℕ) → from / fan ≤ g → g < j → get nat_cmp p.groups g ≡ None) → r < fan → slice_index_or group r Hole ≡ place → place_at p (fan * j + r) ≡ place
found_in p fan from j r group place value is =
    subst (λ (f : ℕ). ((g : ℕ) → from / f ≤ g → g < j → get nat_cmp p.groups g ≡ None) → r < f → slice_index_or group r Hole ≡ place → place_at p (f * j + r) ≡ place) (sym value)
    (λ none lt at. node_in p from j group is none r lt ∙ at)

pub gap_in : (p : PlaceMap) (fan from j end : ℕ) (group : List Pointer) → fan ≡ fan_out p.layout → get nat_cmp p.groups j ≡ Some group
    → ((g : ℕ) → from / fan ≤ g → g < j → get nat_cmp p.groups g ≡ None) → end ≤ fan → ((k : ℕ) → from - fan * j ≤ k → k < end → slice_index_or group k Hole ≡ Hole)
    → (i : ℕ) → from ≤ i → i < fan * j + end → place_at p i ≡ Hole
gap_in p fan from j end group value is =
    subst (λ (f : ℕ). ((g : ℕ) → from / f ≤ g → g < j → get nat_cmp p.groups g ≡ None) → end ≤ f → ((k : ℕ) → from - f * j ≤ k → k < end → slice_index_or group k Hole ≡ Hole)
    → (i : ℕ) → from ≤ i → i < f * j + end → place_at p i ≡ Hole) (sym value)
    (λ none most holes. holes_in p from j group is none end most holes)

pub gap_past : (p : PlaceMap) (fan from to : ℕ) → fan ≡ fan_out p.layout → ((g : ℕ) → from / fan ≤ g → g < div_ceil to fan → get nat_cmp p.groups g ≡ None) → (i : ℕ) → from ≤ i → i < to → place_at p i ≡ Hole
gap_past p fan from to value =
    subst (λ (f : ℕ). ((g : ℕ) → from / f ≤ g → g < div_ceil to f → get nat_cmp p.groups g ≡ None) → (i : ℕ) → from ≤ i → i < to → place_at p i ≡ Hole) (sym value) (holes_past p from to)

pub low_in : (p : PlaceMap) (fan from j : ℕ) → fan ≡ fan_out p.layout → from / fan ≤ j → from ≤ fan * j + fan
low_in p fan from j value = subst (λ (f : ℕ). from / f ≤ j → from ≤ f * j + f) (sym value) (from_in p.layout from j)

-- pointers put where a number is the group's and a number is the pointer's in it
pub there_put : (old new : PlaceMap) (fan i : ℕ) (group : List Pointer) (p : Pointer) → fan ≡ fan_out old.layout → new.layout ≡ old.layout → Updates nat_cmp old.groups new.groups (i / fan) (Some group)
    → slice_index_or group (i % fan) Hole ≡ p → place_at new i ≡ p
there_put old new fan i group p value same =
    subst (λ (f : ℕ). Updates nat_cmp old.groups new.groups (i / f) (Some group) → slice_index_or group (i % f) Hole ≡ p → place_at new i ≡ p) (sym value)
    (λ updates. put_there old new i group same updates p)

pub others_put : (old new : PlaceMap) (fan i : ℕ) (group : List Pointer) → fan ≡ fan_out old.layout → new.layout ≡ old.layout → Updates nat_cmp old.groups new.groups (i / fan) (Some group)
    → ((k : ℕ) → k ≢ i % fan → slice_index_or group k Hole ≡ pointer_in (get nat_cmp old.groups (i / fan)) k) → (k : ℕ) → k ≢ i → place_at new k ≡ place_at old k
others_put old new fan i group value same =
    subst (λ (f : ℕ). Updates nat_cmp old.groups new.groups (i / f) (Some group)
    → ((k : ℕ) → k ≢ i % f → slice_index_or group k Hole ≡ pointer_in (get nat_cmp old.groups (i / f)) k) → (k : ℕ) → k ≢ i → place_at new k ≡ place_at old k) (sym value)
    (λ updates. put_others old new i group same updates)

-- ---- the first nodes

-- those of the groups before one
pub record AreFirst (all first : PlaceMap) (count from : ℕ) : Type 0 where
  pub layout : first.layout ≡ all.layout
  pub below : (i : ℕ) → i < fan_out all.layout * from → place_at first i ≡ (if nat_lt i count then place_at all i else Hole)
  pub behind : (i : ℕ) → fan_out all.layout * from ≤ i → place_at first i ≡ Hole

hole_anyway : (b : Bool) (p : Pointer) → p ≡ Hole → Hole ≡ (if b then p else Hole)
hole_anyway true p is = sym is
hole_anyway false p is = refl

-- one group more
module _ (all old new : PlaceMap) (count from j : ℕ) (group part : List Pointer) (is : get nat_cmp all.groups j ≡ Some group) (low : from ≤ j)
    (none : (g : ℕ) → from ≤ g → g < j → get nat_cmp all.groups g ≡ None) (same : new.layout ≡ old.layout) (updates : Updates nat_cmp old.groups new.groups j (Some part))
    (below : (r : ℕ) → r < count - fan_out all.layout * j → r < 1024 → slice_index_or part r Hole ≡ slice_index_or group r Hole)
    (behind : (r : ℕ) → count - fan_out all.layout * j ≤ r → slice_index_or part r Hole ≡ Hole)
    (so_far : AreFirst all old count from) where
  apart : (i : ℕ) → i / fan_out all.layout ≢ j → place_at new i ≡ place_at old i
  apart i other =
      at_layout new all.layout i (same ∙ so_far.layout)
      ∙ ap (λ o. pointer_in o (i % fan_out all.layout)) (updates.2 (i / fan_out all.layout) (other_key j (i / fan_out all.layout) other))
      ∙ sym (at_layout old all.layout i so_far.layout)

  here : (i : ℕ) → i / fan_out all.layout ≡ j → place_at new i ≡ (if nat_lt i count then place_at all i else Hole)
  here i at =
      at_layout new all.layout i (same ∙ so_far.layout) ∙ ap (λ g. pointer_in (get nat_cmp new.groups g) (i % fan_out all.layout)) at
      ∙ ap (λ o. pointer_in o (i % fan_out all.layout)) updates.1 ∙ elim (cases_lt i count) [
        | inl lt ↦
            below (i % fan_out all.layout) (part_within all.layout i j count at lt) (pointer_low all.layout i)
            ∙ sym (in_group all i j group is at) ∙ cond_below i count (place_at all i) Hole lt
        | inr ge ↦ behind (i % fan_out all.layout) (part_past all.layout i j count at ge) ∙ cond_above i count (place_at all i) Hole Hole ge refl
      ]

  gap : (i : ℕ) → fan_out all.layout * from ≤ i → i < fan_out all.layout * j → place_at new i ≡ (if nat_lt i count then place_at all i else Hole)
  gap i least less =
      apart i (λ e. omega (arith, e, up_below all.layout i j less)) ∙ so_far.behind i least
      ∙ hole_anyway (nat_lt i count) (place_at all i)
      (in_none all i (i / fan_out all.layout) (none (i / fan_out all.layout) (up_from all.layout from i least) (up_below all.layout i j less)) refl)

  pub first_more : AreFirst all new count (j + 1)
  first_more = record {
    layout = same ∙ so_far.layout;
    below = λ i lt. elim (cases_lt i (fan_out all.layout * from)) [
      | inl done ↦ apart i (λ e. omega (arith, e, up_below all.layout i from done, low)) ∙ so_far.below i done
      | inr least ↦ elim (cases_lt i (fan_out all.layout * j)) [
        | inl less ↦ gap i least less
        | inr ge ↦ here i (up_is all.layout i j ge lt)
      ]
    ];
    behind = λ i le.
        let past : j + 1 ≤ i / fan_out all.layout = up_from all.layout (j + 1) i le in
        apart i (λ e. omega (arith, e, past)) ∙ so_far.behind i (down_low all.layout from i (omega (arith, past, low)));
  }

pub first_all : (all first : PlaceMap) (count from : ℕ) → AreFirst all first count from → ((g : ℕ) → from ≤ g → g < div_ceil count (fan_out all.layout) → get nat_cmp all.groups g ≡ None)
    → (i : ℕ) → place_at first i ≡ (if nat_lt i count then place_at all i else Hole)
first_all all first count from so_far none i = elim (cases_lt i (fan_out all.layout * from)) [
  | inl done ↦ so_far.below i done
  | inr least ↦ so_far.behind i least ∙ elim (cases_lt i count) [
    | inl lt ↦
        sym (in_none all i (i / fan_out all.layout) (none (i / fan_out all.layout) (up_from all.layout from i least) (up_within all.layout i count lt)) refl)
        ∙ cond_below i count (place_at all i) Hole lt
    | inr ge ↦ cond_above i count (place_at all i) Hole Hole ge refl
  ]
]

-- what holds of one pointer, and of the others as they were, holds of all
pub changed_all : (P : ℕ → Pointer → Type 0) (old new : PlaceMap) (i : ℕ) (p : Pointer) → place_at new i ≡ p → ((j : ℕ) → j ≢ i → place_at new j ≡ place_at old j) → P i p
    → ((j : ℕ) → j ≢ i → P j (place_at old j)) → (j : ℕ) → P j (place_at new j)
changed_all P old new i p there others here rest j = elim (cases_eq j i) [
  | inl e ↦ subst (λ (k : ℕ). P k (place_at new k)) (sym e) (subst (P i) (sym there) here)
  | inr n ↦ subst (P j) (sym (others j n)) (rest j n)
]
