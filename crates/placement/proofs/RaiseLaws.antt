-- One height more of a file's nodes.
use Rattle.std.proofs.Common.{◌≡◌, inl, inr, ℕ, zero, suc, ◌+◌, ◌-◌, ◌*◌, ◌<◌, ◌≤◌, List, [], ◌∷◌, ◌++◌, length, length-append, refl, ap, sym, subst, ◌∙◌, arith, Result, Err}
use Rattle.std.specs.Int.{div_ceil}
use Rattle.std.specs.Result.{IsErrAnd}
use Rattle.std.proofs.lemmas.Bool.{cases_lt, cases_eq}
use Rattle.std.proofs.lemmas.Option.{slice_get_past}
use Rattle.std.specs.List.{slice_get}
use Rattle.layout.specs.Places.{Blocks}
use Rattle.layout.specs.Pointer.{PointsBelow}
use Rattle.layout.specs.Trees.{fan_out}
use Rattle.layout.specs.declared.trees.Layout.{Layout}
use Rattle.layout.specs.declared.pointer.Pointer.{Pointer}
use Rattle.layout.specs.declared.pointer.Pointer.TheVariants.{Hole}
use Rattle.images.specs.Sums.{sum_below}
use Rattle.blocktree.specs.Names.{nodes_at}
use Rattle.blocktree.specs.PlaceMaps.{EndBefore, place_at}
use Rattle.blocktree.specs.declared.place_map.PlaceMap.{PlaceMap}
use Rattle.conspoint.specs.Groups.{group, ArePlaced, Follows, IsGroup}
use Rattle.conspoint.specs.Space.{StoresNone}
use Rattle.conspoint.specs.Steps.{Places, PlacesOver}
use Rattle.conspoint.specs.declared.draft.Draft.{Draft}
use Rattle.conspoint.specs.declared.error.PlanError.{PlanError}
use Rattle.conspoint.proofs.GroupLemmas.{follows_none, same_follows, same_group, same_none}
use Rattle.conspoint.proofs.StepLemmas.{over_each, over_of, places_err}
use Rattle.placement.specs.declared.nodes.Nodes.{Nodes}
use Rattle.placement.specs.Layouts.{StandOver}
use Rattle.placement.specs.Nodes.{AllUnder, AreAlike, AreFull, ArePlacedAt, AreWithin, HaveLayout, IsEmptyGroup, StaysUnder, height_of, in_group, node, under}
use Rattle.placement.specs.Steps.{PlacesHeights, raise_stores}
use Rattle.placement.proofs.FanLemmas.{group_is, group_none, group_same, groups_past, hole_either, none_group, under_high, under_low}
use Rattle.placement.proofs.PlacedLaws.{last_at, node_last, node_over, node_pushed, old_at, placed_at}

-- what counts the groups over some nodes counts those of the same nodes, read otherwise
over_as : {T : Type 0} {n : ℕ} {settled settled2 nodes nodes2 : ℕ → ℕ → Pointer} {a b : Draft} {r : Result T PlanError} → ((j i : ℕ) → i < 1024 → settled2 j i ≡ settled j i) → ((j i : ℕ) → i < 1024 → nodes2 j i ≡ nodes j i)
    → PlacesOver n settled2 nodes2 a b r → PlacesOver n settled nodes a b r
over_as {settled = settled} {settled2 = settled2} {nodes = nodes} {nodes2 = nodes2} same same_nodes step =
    over_of (λ w counts. over_each step w (λ j lt none. same_none (settled j) (settled2 j) (nodes j) (nodes2 j) (same j) (same_nodes j) (counts j lt none)))

pub over_err : {T U : Type 0} {n : ℕ} {settled nodes : ℕ → ℕ → Pointer} {a b : Draft} {e : PlanError} (q : Result U PlanError) → IsErrAnd q (λ f. f ≡ e) → PlacesOver {T = T} n settled nodes a b (Err e) → PlacesOver n settled nodes a b q
over_err q is step = over_of (λ w counts. places_err q is (over_each step w counts))

-- these are the settled nodes over a height, and at it as far as there are any over it
pub record AreOver (settled : Nodes) (m : ℕ) (over old : PlaceMap) : Type 0 where
  pub above : (j : ℕ) → place_at over j ≡ node settled (suc m) j
  pub below : (j i : ℕ) → group old j i ≡ under settled m j i

pub over_settled : (settled : Nodes) (over old : PlaceMap) (m : ℕ) → m + 1 < height_of settled → old.layout ≡ settled.layout → ((j : ℕ) → place_at over j ≡ node settled (m + 1) j) → ((k : ℕ) → place_at old k ≡ node settled m k) → AreOver settled m over old
over_settled settled over old m lt same above is = record {
  above = λ j. (let next : m + 1 ≡ suc m = omega arith in above j ∙ ap (λ (k : ℕ). node settled k j) next);
  below = λ j i. group_is settled old m same is j i ∙ sym (under_low settled m j i (omega (arith, lt)));
}

pub over_none : (settled : Nodes) (none : PlaceMap) (m : ℕ) → height_of settled ≤ suc m → ((k : ℕ) → place_at none k ≡ Hole) → AreOver settled m none none
over_none settled none m ge is = record {
  above = λ j. is j ∙ sym (node_over settled (suc m) j ge);
  below = λ j i. hole_either i (fan_out none.layout) (place_at none (fan_out none.layout * j + i)) (is (fan_out none.layout * j + i)) ∙ sym (under_high settled m j i ge);
}

module _ {settled : Nodes} {m : ℕ} {over old : PlaceMap} (are : AreOver settled m over old) where
  pub raised_step : {T : Type 0} {n : ℕ} {nodes : ℕ → ℕ → Pointer} {a b : Draft} {r : Result T PlanError} → PlacesOver n (group old) nodes a b r → PlacesOver n (under settled m) nodes a b r
  raised_step step = over_as (λ j i lt. are.below j i) (λ j i lt. refl) step

  pub raised_group : (e : Blocks) (j : ℕ) (nodes : ℕ → Pointer) (p : Pointer) → IsGroup e (place_at over j) (group old j) nodes p → IsGroup e (node settled (suc m) j) (under settled m j) nodes p
  raised_group e j nodes p is =
      same_group e (node settled (suc m) j) p (under settled m j) (group old j) nodes nodes (λ i lt. are.below j i) (λ i lt. refl)
      (subst (λ (q : Pointer). IsGroup e q (group old j) nodes p) (are.above j) is)

  pub raised_follows : (j : ℕ) (nodes : ℕ → Pointer) (p : Pointer) → Follows (place_at over j) (group old j) nodes p → Follows (node settled (suc m) j) (under settled m j) nodes p
  raised_follows j nodes p is =
      same_follows (node settled (suc m) j) p (under settled m j) (group old j) nodes nodes (λ i lt. are.below j i) (λ i lt. refl)
      (subst (λ (q : Pointer). Follows q (group old j) nodes p) (are.above j) is)

  pub raised_placed : (a b : Draft) (nodes : PlaceMap) → AreWithin a.map.count settled → ArePlaced a b over nodes → ArePlacedAt a b (node settled (suc m)) nodes
  raised_placed a b nodes within placed =
      placed_at a b (node settled (suc m)) over nodes (λ j. subst (PointsBelow a.map.count) (sym (are.above j)) (within (suc m) j)) (λ j x is. sym (are.above j) ∙ is) placed

-- ---- one height more

pub height_pushed : (old new : Nodes) (p : PlaceMap) → new.heights.items ≡ old.heights.items ++ p ∷ [] → height_of new ≡ height_of old + 1
height_pushed old new p is = ap (λ (xs : List PlaceMap). length xs) is ∙ length-append old.heights.items (p ∷ [])

-- past as many nodes as a file has there, none is in the heights
pub end_pushed : (l : Layout) (old new : Nodes) (p : PlaceMap) (count h groups : ℕ) → new.heights.items ≡ old.heights.items ++ p ∷ [] → height_of old ≡ h → groups ≡ nodes_at l count h → EndBefore groups p
    → ((m i : ℕ) → nodes_at l count m ≤ i → node old m i ≡ Hole) → (m i : ℕ) → nodes_at l count m ≤ i → node new m i ≡ Hole
end_pushed l old new p count h groups is height all end so_far m i past = elim (cases_lt m h) [
  | inl low ↦ node_pushed old new p m i is (omega (arith, low, height)) ∙ so_far m i past
  | inr high ↦ elim (cases_eq m h) [
    | inl e ↦
        let there : groups ≤ i = subst (λ (n : ℕ). n ≤ i) (ap (λ (k : ℕ). nodes_at l count k) e ∙ sym all) past in
        node_last old new p m i is (omega (arith, e, height)) ∙ end i there
    | inr other ↦ node_over new m i (omega (arith, height_pushed old new p is, height, high, other))
  ]
]

-- all stay on the disk
pub within_pushed : (blocks : ℕ) (old new : Nodes) (p : PlaceMap) → new.heights.items ≡ old.heights.items ++ p ∷ [] → AreWithin blocks old → ((i : ℕ) → PointsBelow blocks (place_at p i)) → AreWithin blocks new
within_pushed blocks old new p is was last m i = elim (cases_lt m (height_of old)) [
  | inl low ↦ subst (PointsBelow blocks) (sym (node_pushed old new p m i is low)) (was m i)
  | inr high ↦ elim (cases_eq m (height_of old)) [
    | inl e ↦ subst (PointsBelow blocks) (sym (node_last old new p m i is e)) (last i)
    | inr other ↦ subst (PointsBelow blocks) (sym (node_over new m i (omega (arith, height_pushed old new p is, high, other)))) tt
  ]
]

-- each is of the layout
pub alike_pushed : (old new : Nodes) (p : PlaceMap) → new.heights.items ≡ old.heights.items ++ p ∷ [] → new.layout ≡ old.layout → p.layout ≡ old.layout → AreAlike old → AreAlike new
alike_pushed old new p is same last so_far m =
    subst (λ (l : Layout). HaveLayout l (slice_get new.heights.items m)) (sym same) (subst (λ (xs : List PlaceMap). HaveLayout old.layout (slice_get xs m)) (sym is) (elim (cases_lt m (height_of old)) [
      | inl low ↦ subst (HaveLayout old.layout) (sym (old_at old.heights.items p m low)) (so_far m)
      | inr high ↦ elim (cases_eq m (height_of old)) [
        | inl e ↦ subst (HaveLayout old.layout) (sym (last_at old.heights.items p m e)) last
        | inr other ↦ subst (HaveLayout old.layout) (sym (slice_get_past (old.heights.items ++ p ∷ []) m (omega (arith, length-append old.heights.items (p ∷ []), high, other)))) tt
      ]
    ]))

-- a group of one of the lower heights
pub group_pushed : (old new : Nodes) (p : PlaceMap) (m j i : ℕ) → new.heights.items ≡ old.heights.items ++ p ∷ [] → new.layout ≡ old.layout → m < height_of old → in_group new m j i ≡ in_group old m j i
group_pushed old new p m j i is same low = group_same new old m j same (λ k lt. node_pushed old new p m (fan_out old.layout * j + k) is low) i

-- past the nodes of a height all groups are empty
pub group_past : (n : Nodes) (m groups j : ℕ) → ((i : ℕ) → fan_out n.layout * groups ≤ i → node n m i ≡ Hole) → groups ≤ j → (i : ℕ) → in_group n m j i ≡ Hole
group_past n m groups j past ge = group_none n m j (λ i lt. past (fan_out n.layout * j + i) (groups_past n.layout groups j i ge))

-- the nodes of one height stand over those of the height below
module _ (e : Blocks) (settled old new : Nodes) (p : PlaceMap) (m groups : ℕ) (is : new.heights.items ≡ old.heights.items ++ p ∷ []) (same : new.layout ≡ old.layout) (height : height_of old ≡ suc m)
    (so_far : StandOver e settled old) (end : EndBefore groups p) (past : (i : ℕ) → fan_out old.layout * groups ≤ i → node old m i ≡ Hole)
    (over : (j : ℕ) → j < groups → IsGroup e (node settled (suc m) j) (under settled m j) (in_group old m j) (place_at p j)) where
  last_over : (j : ℕ) → IsGroup e (node settled (suc m) j) (under settled m j) (in_group new m j) (node new (suc m) j)
  last_over j =
      let low : m < height_of old = omega (arith, height) in
      let top : suc m ≡ height_of old = sym height in
      elim (cases_lt j groups) [
        | inl lt ↦ subst (IsGroup e (node settled (suc m) j) (under settled m j) (in_group new m j)) (sym (node_last old new p (suc m) j is top))
            (same_group e (node settled (suc m) j) (place_at p j) (under settled m j) (under settled m j) (in_group new m j) (in_group old m j) (λ i small. refl)
            (λ i small. sym (group_pushed old new p m j i is same low)) (over j lt))
        | inr ge ↦ IsGroup.none (node_last old new p (suc m) j is top ∙ end j ge)
            (λ i small. group_pushed old new p m j i is same low ∙ group_past old m groups j past ge i)
      ]

  pub over_pushed : StandOver e settled new
  over_pushed k j lt = elim (cases_lt (suc k) (height_of old)) [
    | inl low ↦
        let below : k < height_of old = omega (arith, low) in
        subst (IsGroup e (node settled (suc k) j) (under settled k j) (in_group new k j)) (sym (node_pushed old new p (suc k) j is low))
        (same_group e (node settled (suc k) j) (node old (suc k) j) (under settled k j) (under settled k j) (in_group new k j) (in_group old k j) (λ i small. refl)
        (λ i small. sym (group_pushed old new p k j i is same below)) (so_far k j low))
    | inr high ↦
        let here : m ≡ k = omega (arith, high, lt, height, height_pushed old new p is) in
        subst (λ (x : ℕ). IsGroup e (node settled (suc x) j) (under settled x j) (in_group new x j) (node new (suc x) j)) here (last_over j)
  ]

-- ---- nodes over blocks that stay

-- this is the settled node where all blocks under it are, as high up, and none where none of these is stored
pub record IsStill (settled : Nodes) (lowest : PlaceMap) (h j : ℕ) (p : Pointer) : Type 0 where
  pub same : h < height_of settled → AllUnder settled.layout (λ i. place_at lowest i ≡ node settled 0 i) h j → p ≡ node settled h j
  pub holes : AllUnder settled.layout (λ i. place_at lowest i ≡ Hole) h j → p ≡ Hole

module _ (settled n : Nodes) (lowest : PlaceMap) where
  -- the blocks themselves
  pub still_first : (j : ℕ) → node n 0 j ≡ place_at lowest j → IsStill settled lowest 0 j (node n 0 j)
  unfolding AllUnder
  still_first j is = record { same = λ deep all. is ∙ all; holes = λ all. is ∙ all }

  module _ (m j : ℕ) (alike : n.layout ≡ settled.layout)
      (so_far : (i : ℕ) → i < fan_out settled.layout → IsStill settled lowest m (fan_out settled.layout * j + i) (node n m (fan_out settled.layout * j + i))) where
    under_is : suc m < height_of settled → AllUnder settled.layout (λ i. place_at lowest i ≡ node settled 0 i) (suc m) j → (i : ℕ) → in_group n m j i ≡ in_group settled m j i
    unfolding AllUnder
    under_is deep all = group_same n settled m j alike (λ i lt. (so_far i lt).same (omega (arith, deep)) (all i lt))

    under_none : AllUnder settled.layout (λ i. place_at lowest i ≡ Hole) (suc m) j → IsEmptyGroup n m j
    unfolding AllUnder
    under_none all = subst (λ (l : Layout). (i : ℕ) → i < fan_out l → node n m (fan_out l * j + i) ≡ Hole) (sym alike) (λ i lt. (so_far i lt).holes (all i lt))

    -- no block is stored over such nodes
    pub none_over : StaysUnder settled lowest (suc m) j → StoresNone (under settled m j) (in_group n m j)
    none_over (inl same) = inl (λ i lt. under_is same.0 same.1 i ∙ sym (under_low settled m j i same.0))
    none_over (inr holes) = inr (λ i lt. group_none n m j (under_none holes) i)

    pub still_over : (over : Pointer) → AreFull settled → Follows (node settled (suc m) j) (under settled m j) (in_group n m j) over → IsStill settled lowest (suc m) j over
    still_over over full follows = record {
      same = λ deep all. elim (follows.same (λ i lt. under_is deep all i ∙ sym (under_low settled m j i deep))) [
        | inl is ↦ is
        | inr holes ↦ follows.none holes ∙ sym (full m j (none_group settled m j (λ i lt. sym (under_is deep all i) ∙ holes i lt)))
      ];
      holes = λ all. follows.none (λ i lt. group_none n m j (under_none all) i);
    }

-- one height more
pub still_pushed : (settled old new : Nodes) (lowest p : PlaceMap) (m h groups : ℕ) → new.heights.items ≡ old.heights.items ++ p ∷ [] → old.layout ≡ settled.layout → height_of old ≡ h → suc m ≡ h → AreFull settled → EndBefore groups p
    → ((i : ℕ) → fan_out old.layout * groups ≤ i → node old m i ≡ Hole)
    → ((j : ℕ) → j < groups → Follows (node settled (suc m) j) (under settled m j) (in_group old m j) (place_at p j))
    → ((k j : ℕ) → k < h → IsStill settled lowest k j (node old k j)) → (k j : ℕ) → k < h + 1 → IsStill settled lowest k j (node new k j)
still_pushed settled old new lowest p m h groups is alike height top full end past follows so_far k j lt = elim (cases_lt k h) [
  | inl low ↦ subst (IsStill settled lowest k j) (sym (node_pushed old new p k j is (omega (arith, low, height)))) (so_far k j low)
  | inr high ↦
      let here : k ≡ suc m = omega (arith, high, lt, top) in
      let each : Follows (node settled (suc m) j) (under settled m j) (in_group old m j) (place_at p j) = elim (cases_lt j groups) [
        | inl some ↦ follows j some
        | inr none ↦ follows_none (node settled (suc m) j) (place_at p j) (under settled m j) (in_group old m j) (end j none) (λ i small. group_past old m groups j past none i)
      ] in
      let last = still_over settled old lowest m j alike (λ i small. so_far m (fan_out settled.layout * j + i) (omega (arith, top))) (place_at p j) full each in
      subst (λ (x : ℕ). IsStill settled lowest x j (node new x j)) (sym here)
      (subst (IsStill settled lowest (suc m) j) (sym (node_last old new p (suc m) j is (omega (arith, height, top)))) last)
]

-- ---- what is placed

-- one for each
pub ones : (n : ℕ) → sum_below (λ j. 1) n ≡ n
unfolding sum_below
ones zero = refl
ones (suc n) = omega (arith, ones n)

-- each node may be one that is stored
pub placed_heights : {T : Type 0} {a b : Draft} {r : Result T PlanError} (blocks level : ℕ) (settled : Nodes) (lowest : PlaceMap) → PlacesHeights blocks level settled lowest a b r
    → Places (sum_below (raise_stores settled.layout blocks (λ h j. 1)) level) a b r
placed_heights blocks level settled lowest step = step (λ h j. 1) (λ h j some low lt none. absurd (omega (arith, none)))

pub heights_as : {T : Type 0} {a b : Draft} {r : Result T PlanError} (count n level l : ℕ) (settled : Nodes) (lowest : PlaceMap) → n ≡ count → l ≡ level → PlacesHeights n l settled lowest a b r → PlacesHeights count level settled lowest a b r
heights_as {a = a} {b = b} {r = r} count n level l settled lowest size is step =
    subst (λ (k : ℕ). PlacesHeights k level settled lowest a b r) size (subst (λ (k : ℕ). PlacesHeights n k settled lowest a b r) is step)

raise_is : (l : Layout) (blocks m : ℕ) (w : ℕ → ℕ → ℕ) → raise_stores l blocks w (suc m) ≡ sum_below (w (suc m)) (nodes_at l blocks (suc m))
unfolding raise_stores
raise_is l blocks m w = refl

pub nodes_next : (l : Layout) (count h groups : ℕ) → 1 ≤ h → groups ≡ nodes_at l count (h - 1) → div_ceil groups (fan_out l) ≡ nodes_at l count h
unfolding nodes_at
nodes_next l count zero groups some is = absurd (omega (arith, some))
nodes_next l count (suc h) groups some is =
    let at : suc h - 1 ≡ h = omega arith in
    ap (λ (n : ℕ). div_ceil n (fan_out l)) (is ∙ ap (nodes_at l count) at)

-- the nodes of one height are placed over those of the height below
pub raise_step : {T : Type 0} {r : Result T PlanError} (count m groups : ℕ) (w : ℕ → ℕ → ℕ) (settled n : Nodes) (lowest below : PlaceMap) (a b : Draft) → n.layout ≡ settled.layout → below.layout ≡ n.layout → groups ≡ nodes_at settled.layout count (suc m)
    → ((i : ℕ) → place_at below i ≡ node n m i) → ((j : ℕ) → IsStill settled lowest m j (node n m j)) → ((j : ℕ) → j < nodes_at settled.layout count (suc m) → w (suc m) j ≡ 0 → StaysUnder settled lowest (suc m) j)
    → PlacesOver groups (under settled m) (group below) a b r → Places (raise_stores settled.layout count w (suc m)) a b r
raise_step {r = r} count m groups w settled n lowest below a b alike layout all same still counts step =
    let there = over_as {settled = under settled m} {nodes = in_group n m} (λ j i lt. refl) (λ j i lt. group_is n below m layout same j i) step in
    let at : sum_below (w (suc m)) groups ≡ raise_stores settled.layout count w (suc m) = ap (sum_below (w (suc m))) all ∙ sym (raise_is settled.layout count m w) in
    subst (λ (k : ℕ). Places k a b r) at (over_each there (w (suc m)) (λ j lt none.
    none_over settled n lowest m j alike (λ i small. still (fan_out settled.layout * j + i)) (counts j (subst (λ (k : ℕ). j < k) all lt) none)))
