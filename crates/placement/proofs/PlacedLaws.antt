-- Nodes that were placed, at any index, and the nodes of a file that they are.
use Rattle.std.proofs.Common.{◌≡◌, ◌⊎◌, inl, inr, ℕ, ◌+◌, ◌<◌, ◌≤◌, List, [], ◌∷◌, ◌++◌, length, get_or, length-append, refl, ap, sym, subst, ◌∙◌, arith}
use Rattle.std.proofs.lemmas.Bool.{cases_lt, cases_eq, cond_below, cond_above}
use Rattle.std.proofs.lemmas.List.{get_or_append_left}
use Rattle.std.proofs.lemmas.Option.{slice_get_past, slice_get-get_or}
use Rattle.std.proofs.Math.Seq.{get_or-append_seam}
use Rattle.std.specs.List.{slice_get}
use Rattle.std.specs.Prelude.{min, nat_lt, if◌then◌else◌, Option, Some}
use Rattle.layout.specs.Pointer.{PointsBelow}
use Rattle.layout.specs.declared.geometry.TheConstants.{MOST_BLOCKS}
use Rattle.layout.specs.declared.pointer.Pointer.{Pointer}
use Rattle.layout.specs.declared.pointer.Pointer.TheVariants.{Hole, Block}
use Rattle.layout.proofs.PointerLaws.{hole_block}
use Rattle.blocktree.specs.PlaceMaps.{AreBelow, place_at}
use Rattle.blocktree.specs.declared.place_map.PlaceMap.{PlaceMap}
use Rattle.conspoint.specs.declared.draft.Draft.{Draft}
use Rattle.conspoint.specs.Drafts.{Grows, WasTaken}
use Rattle.conspoint.specs.Groups.{ArePlaced}
use Rattle.conspoint.proofs.DraftLemmas.{taken_earlier, taken_later}
use Rattle.placement.specs.declared.nodes.Nodes.{Nodes}
use Rattle.placement.specs.Nodes.{node, height_of, place_of, ArePlacedAt, ArePlacedIn, ArePlacedOver}

-- pointers within a disk are so within a larger one
wider_one : (n m : ℕ) (p : Pointer) → n ≤ m → PointsBelow n p → PointsBelow m p
wider_one n m Hole le below = tt
wider_one n m (Block b) le below = (below.0, omega (arith, below.1))

pub wider : (n m : ℕ) (p : PlaceMap) → n ≤ m → AreBelow n p → AreBelow m p
wider n m p le all i = wider_one n m (place_at p i) le (all i)

-- the block that a pointer within a disk leads to stands there
pub node_below : (blocks : ℕ) (p : Pointer) (node : ℕ) → p ≡ Block node → PointsBelow blocks p → node < blocks
node_below blocks p node is below = let at : PointsBelow blocks (Block node) = subst (PointsBelow blocks) is below in at.1

-- a pointer within the largest disk that leads to a block of this one
narrower : (n : ℕ) (p : Pointer) → PointsBelow MOST_BLOCKS p → ((b : ℕ) → p ≡ Block b → b < n) → PointsBelow n p
narrower n Hole below low = tt
narrower n (Block b) below low = (below.0, low b refl)

-- ---- the nodes at one height

-- over the highest there is none
pub node_over : (n : Nodes) (m i : ℕ) → height_of n ≤ m → node n m i ≡ Hole
node_over n m i le = ap (λ (o : Option PlaceMap). place_of o i) (slice_get_past n.heights.items m le)

-- a node that leads to a block is at one of the heights
pub node_height : (n : Nodes) (m i b : ℕ) → node n m i ≡ Block b → m < height_of n
node_height n m i b is = elim (cases_lt m (height_of n)) [
  | inl lt ↦ lt
  | inr ge ↦ hole_block (sym (node_over n m i ge) ∙ is)
]

pub old_at : (xs : List PlaceMap) (p : PlaceMap) (m : ℕ) → m < length xs → slice_get (xs ++ p ∷ []) m ≡ slice_get xs m
old_at xs p m lt =
    slice_get-get_or (xs ++ p ∷ []) m p (omega (arith, length-append xs (p ∷ []), lt))
    ∙ ap (λ (q : PlaceMap). Some q) (get_or_append_left xs (p ∷ []) p m lt) ∙ sym (slice_get-get_or xs m p lt)

pub last_at : (xs : List PlaceMap) (p : PlaceMap) (m : ℕ) → m ≡ length xs → slice_get (xs ++ p ∷ []) m ≡ Some p
last_at xs p m is =
    slice_get-get_or (xs ++ p ∷ []) m p (omega (arith, length-append xs (p ∷ []), is))
    ∙ ap (λ (q : PlaceMap). Some q) (ap (λ (k : ℕ). get_or (xs ++ p ∷ []) k p) is ∙ get_or-append_seam xs p [] p)

-- with one height more
pub node_pushed : (old new : Nodes) (p : PlaceMap) (m i : ℕ) → new.heights.items ≡ old.heights.items ++ p ∷ [] → m < height_of old → node new m i ≡ node old m i
node_pushed old new p m i is lt =
    ap (λ (xs : List PlaceMap). place_of (slice_get xs m) i) is ∙ ap (λ (o : Option PlaceMap). place_of o i) (old_at old.heights.items p m lt)

pub node_last : (old new : Nodes) (p : PlaceMap) (m i : ℕ) → new.heights.items ≡ old.heights.items ++ p ∷ [] → m ≡ height_of old → node new m i ≡ place_at p i
node_last old new p m i is last =
    ap (λ (xs : List PlaceMap). place_of (slice_get xs m) i) is ∙ ap (λ (o : Option PlaceMap). place_of o i) (last_at old.heights.items p m last)

-- ---- one height

-- as many are kept of the same pointers, read otherwise
pub kept_as : (old settled : ℕ → Pointer) (kept : PlaceMap) (k n : ℕ) → k ≡ n → ((i : ℕ) → old i ≡ settled i) → ((i : ℕ) → place_at kept i ≡ (if nat_lt i k then old i else Hole))
    → (i : ℕ) → place_at kept i ≡ (if nat_lt i n then settled i else Hole)
kept_as old settled kept k n same is each i =
    each i ∙ ap (λ (m : ℕ). if nat_lt i m then old i else Hole) same ∙ ap (λ (p : Pointer). if nat_lt i n then p else Hole) (is i)

-- those of the first pointers that are kept
pub kept_same : (settled : ℕ → Pointer) (kept : PlaceMap) (k : ℕ) → ((i : ℕ) → place_at kept i ≡ (if nat_lt i k then settled i else Hole)) → (i b : ℕ) → place_at kept i ≡ Block b → settled i ≡ Block b
kept_same settled kept k each i b is = elim (cases_lt i k) [
  | inl lt ↦ cond_below i k (settled i) Hole lt ∙ sym (each i) ∙ is
  | inr ge ↦ hole_block (cond_above i k (settled i) Hole Hole ge refl ∙ sym (each i) ∙ is)
]

-- and they stay on the disk
kept_one : (n : ℕ) (p q : Pointer) → p ≡ q → PointsBelow n q → PointsBelow n p
kept_one n p q is below = subst (PointsBelow n) (sym is) below

pub kept_below : (n : ℕ) (settled : ℕ → Pointer) (kept : PlaceMap) (k : ℕ) → ((i : ℕ) → place_at kept i ≡ (if nat_lt i k then settled i else Hole)) → ((i : ℕ) → PointsBelow n (settled i)) → AreBelow n kept
kept_below n settled kept k each within i = elim (cases_lt i k) [
  | inl lt ↦ kept_one n (place_at kept i) (settled i) (each i ∙ sym (cond_below i k (settled i) Hole lt)) (within i)
  | inr ge ↦ kept_one n (place_at kept i) Hole (each i ∙ sym (cond_above i k (settled i) Hole Hole ge refl)) tt
]

-- and past these all are holes
pub kept_end : (settled : ℕ → Pointer) (kept : PlaceMap) (k n : ℕ) → k ≤ n → ((i : ℕ) → place_at kept i ≡ (if nat_lt i k then settled i else Hole)) → (i : ℕ) → n ≤ i → place_at kept i ≡ Hole
kept_end settled kept k n le each i past = each i ∙ sym (cond_above i k (settled i) Hole Hole (omega (arith, le, past)) refl)

-- of the first n it doesn't matter whether more would be kept
pub kept_first : (settled : ℕ → Pointer) (kept : PlaceMap) (k n i : ℕ) → ((i : ℕ) → place_at kept i ≡ (if nat_lt i (min k n) then settled i else Hole)) → i < n → place_at kept i ≡ (if nat_lt i k then settled i else Hole)
kept_first settled kept k n i each lt = elim (cases_lt i k) [
  | inl low ↦ each i ∙ sym (cond_below i (min k n) (settled i) Hole (omega (arith, low, lt))) ∙ cond_below i k (settled i) Hole low
  | inr high ↦ each i ∙ sym (cond_above i (min k n) (settled i) Hole Hole (omega (arith, high)) refl) ∙ cond_above i k (settled i) Hole Hole high refl
]

-- pointers were placed over others, each of which is a hole or as these have it
module _ (old new : Draft) (settled : ℕ → Pointer) (kept nodes : PlaceMap) (within : AreBelow old.map.count kept)
    (same : (i b : ℕ) → place_at kept i ≡ Block b → settled i ≡ Block b) (placed : ArePlaced old new kept nodes) where
  came : (i b : ℕ) → place_at nodes i ≡ Block b → (place_at kept i ≡ Block b) ⊎ WasTaken old new b
  came i b is = elim (placed.from i b is) [
    | inl was ↦ inl (sym was ∙ is)
    | inr taken ↦ inr taken
  ]

  low : (i b : ℕ) → place_at nodes i ≡ Block b → b < old.map.count
  low i b is = elim (came i b is) [
    | inl was ↦ node_below old.map.count (place_at kept i) b was (within i)
    | inr taken ↦ taken.within
  ]

  ordered : (i j b : ℕ) → i < j → place_at nodes i ≡ Block b → place_at nodes j ≡ Block b → (settled i ≡ Block b) ⊎ (settled j ≡ Block b)
  ordered i j b less is_i is_j = elim (placed.apart i j b less is_i is_j) [
    | inl was ↦ inl (same i b (sym was ∙ is_i))
    | inr was ↦ inr (same j b (sym was ∙ is_j))
  ]

  two : (i j b : ℕ) → place_at nodes i ≡ Block b → place_at nodes j ≡ Block b → ((settled i ≡ Block b) ⊎ (settled j ≡ Block b)) ⊎ (i ≡ j)
  two i j b is_i is_j = elim (cases_lt i j) [
    | inl less ↦ inl (ordered i j b less is_i is_j)
    | inr ge ↦ elim (cases_eq i j) [
      | inl e ↦ inr e
      | inr other ↦ elim (ordered j i b (omega arith) is_j is_i) [ inl at_j ↦ inl (inr at_j) | inr at_i ↦ inl (inl at_i) ]
    ]
  ]

  pub placed_at : ArePlacedAt old new settled nodes
  placed_at = record {
    within = λ i. narrower old.map.count (place_at nodes i) (placed.within i) (low i);
    from = λ i b is. elim (came i b is) [ inl was ↦ inl (same i b was) | inr taken ↦ inr taken ];
    apart = two;
  }

-- ---- all heights

-- nothing is placed at no height
pub none_placed : (a b : Draft) (settled placed : Nodes) (n : ℕ) → ArePlacedIn n n a b settled placed
none_placed a b settled placed n = record {
  within = λ m i le lt. absurd (omega (arith, le, lt));
  from = λ m i x le lt. absurd (omega (arith, le, lt));
  apart = λ m i k j x le lt. absurd (omega (arith, le, lt));
}

-- the nodes at one height are placed
pub one_placed : (a b : Draft) (settled placed : Nodes) (h : ℕ) (p : PlaceMap) → ArePlacedAt a b (node settled h) p → ((i : ℕ) → node placed h i ≡ place_at p i) → ArePlacedIn h (h + 1) a b settled placed
one_placed a b settled placed h p at is = record {
  within = λ m i le lt. (let e : h ≡ m = omega (arith, le, lt) in subst (λ (k : ℕ). PointsBelow a.map.count (node placed k i)) e (subst (PointsBelow a.map.count) (sym (is i)) (at.within i)));
  from = λ m i x le lt there.
      let e : h ≡ m = omega (arith, le, lt) in
      let here : node placed h i ≡ Block x = ap (λ (k : ℕ). node placed k i) e ∙ there in
      elim (at.from i x (sym (is i) ∙ here)) [
        | inl was ↦ inl (ap (λ (k : ℕ). node settled k i) (sym e) ∙ was)
        | inr taken ↦ inr taken
      ];
  apart = λ m i k j x le lt le2 lt2 is_i is_j.
      let e : h ≡ m = omega (arith, le, lt) in
      let f : h ≡ k = omega (arith, le2, lt2) in
      let here : node placed h i ≡ Block x = ap (λ (k : ℕ). node placed k i) e ∙ is_i in
      let there : node placed h j ≡ Block x = ap (λ (k : ℕ). node placed k j) f ∙ is_j in
      elim (at.apart i j x (sym (is i) ∙ here) (sym (is j) ∙ there)) [
        | inl either ↦ elim either [
          | inl was ↦ inl (inl (ap (λ (k : ℕ). node settled k i) (sym e) ∙ was))
          | inr was ↦ inl (inr (ap (λ (k : ℕ). node settled k j) (sym f) ∙ was))
        ]
        | inr same ↦ inr (sym e ∙ f, same)
      ];
}

-- the same nodes at these heights
pub placed_same : (a b : Draft) (settled old new : Nodes) (least past : ℕ) → ((m i : ℕ) → least ≤ m → m < past → node new m i ≡ node old m i) → ArePlacedIn least past a b settled old → ArePlacedIn least past a b settled new
placed_same a b settled old new least past same so_far = record {
  within = λ m i le lt. subst (PointsBelow a.map.count) (sym (same m i le lt)) (so_far.within m i le lt);
  from = λ m i x le lt is. so_far.from m i x le lt (sym (same m i le lt) ∙ is);
  apart = λ m i k j x le lt le2 lt2 is_i is_j. so_far.apart m i k j x le lt le2 lt2 (sym (same m i le lt) ∙ is_i) (sym (same k j le2 lt2) ∙ is_j);
}

-- first those at some heights were placed, and then those at the heights over them
module _ (a b c : Draft) (settled placed : Nodes) (least mid past : ℕ) (first : Grows a b) (second : Grows b c) (lower : ArePlacedIn least mid a b settled placed) (upper : ArePlacedIn mid past b c settled placed) where
  came_both : (m i x : ℕ) → least ≤ m → m < past → node placed m i ≡ Block x → (node settled m i ≡ Block x) ⊎ WasTaken a c x
  came_both m i x le lt is = elim (cases_lt m mid) [
    | inl low ↦ elim (lower.from m i x le low is) [ inl was ↦ inl was | inr taken ↦ inr (taken_later a b c x taken second) ]
    | inr high ↦ elim (upper.from m i x high lt is) [ inl was ↦ inl was | inr taken ↦ inr (taken_earlier a b c x first taken) ]
  ]

  between : (m i k j x : ℕ) → least ≤ m → m < mid → mid ≤ k → k < past → node placed m i ≡ Block x → node placed k j ≡ Block x → (node settled m i ≡ Block x) ⊎ (node settled k j ≡ Block x)
  between m i k j x le low high lt is_i is_j = elim (lower.from m i x le low is_i) [
    | inl was ↦ inl was
    | inr early ↦ elim (upper.from k j x high lt is_j) [
      | inl was ↦ inr was
      | inr late ↦ absurd (omega (arith, early.to, late.from))
    ]
  ]

  apart_both : (m i k j x : ℕ) → least ≤ m → m < past → least ≤ k → k < past → node placed m i ≡ Block x → node placed k j ≡ Block x
      → ((node settled m i ≡ Block x) ⊎ (node settled k j ≡ Block x)) ⊎ ((m ≡ k) × (i ≡ j))
  apart_both m i k j x le lt le2 lt2 is_i is_j = elim (cases_lt m mid) [
    | inl low ↦ elim (cases_lt k mid) [
      | inl low2 ↦ lower.apart m i k j x le low le2 low2 is_i is_j
      | inr high2 ↦ inl (between m i k j x le low high2 lt2 is_i is_j)
    ]
    | inr high ↦ elim (cases_lt k mid) [
      | inl low2 ↦ elim (between k j m i x le2 low2 high lt is_j is_i) [ inl was ↦ inl (inr was) | inr was ↦ inl (inl was) ]
      | inr high2 ↦ upper.apart m i k j x high lt high2 lt2 is_i is_j
    ]
  ]

  pub placed_both : ArePlacedIn least past a c settled placed
  placed_both = record {
    within = λ m i le lt. elim (cases_lt m mid) [
      | inl low ↦ lower.within m i le low
      | inr high ↦ subst (λ (n : ℕ). PointsBelow n (node placed m i)) first.count (upper.within m i high lt)
    ];
    from = came_both;
    apart = apart_both;
  }

-- over the highest there is no node to place
pub placed_over : (a b : Draft) (settled placed : Nodes) (past : ℕ) → height_of placed ≤ past → ArePlacedIn 0 past a b settled placed → ArePlacedOver a b settled placed
placed_over a b settled placed past all in_all = record {
  within = λ m i. elim (cases_lt m past) [
    | inl lt ↦ in_all.within m i (omega arith) lt
    | inr ge ↦ subst (PointsBelow a.map.count) (sym (node_over placed m i (omega (arith, all, ge)))) tt
  ];
  from = λ m i x is. in_all.from m i x (omega arith) (omega (arith, all, node_height placed m i x is)) is;
  apart = λ m i k j x is_i is_j. in_all.apart m i k j x (omega arith) (omega (arith, all, node_height placed m i x is_i)) (omega arith) (omega (arith, all, node_height placed k j x is_j)) is_i is_j;
}

-- a file without nodes
pub none_laid : (d : Draft) (settled n : Nodes) → height_of n ≤ 0 → ArePlacedOver d d settled n
none_laid d settled n none = placed_over d d settled n 0 none (none_placed d d settled n 0)

-- the lowest nodes stay on the disk, and those that are placed over them
pub all_within : (blocks level : ℕ) (a b : Draft) (settled n : Nodes) (lowest : PlaceMap) → blocks ≡ a.map.count → height_of n ≡ level → AreBelow a.map.count lowest → ((i : ℕ) → node n 0 i ≡ place_at lowest i)
    → ArePlacedIn 1 level a b settled n → (m i : ℕ) → PointsBelow blocks (node n m i)
all_within blocks level a b settled n lowest same heights within is placed m i = subst (λ (k : ℕ). PointsBelow k (node n m i)) (sym same) (elim (cases_eq m 0) [
  | inl e ↦ subst (λ (k : ℕ). PointsBelow a.map.count (node n k i)) (sym e) (subst (PointsBelow a.map.count) (sym (is i)) (within i))
  | inr some ↦ elim (cases_lt m level) [
    | inl low ↦ placed.within m i (omega arith) low
    | inr high ↦ subst (PointsBelow a.map.count) (sym (node_over n m i (omega (arith, heights, high)))) tt
  ]
])
