-- One node more is placed.
use Rattle.std.proofs.Common.{◌≡◌, ◌≢◌, ◌⊎◌, inl, inr, ℕ, ◌+◌, ◌*◌, ◌<◌, ◌≤◌, List, refl, ap, sym, subst, ◌∙◌, arith}
use Rattle.std.proofs.lemmas.Bool.{cases_lt, cases_eq, cond_below, cond_above}
use Rattle.layout.specs.Pointer.{PointsBelow}
use Rattle.layout.specs.Places.{Blocks}
use Rattle.layout.specs.Trees.{fan_out}
use Rattle.layout.specs.declared.geometry.TheConstants.{MOST_BLOCKS}
use Rattle.layout.specs.declared.pointer.Pointer.{Pointer}
use Rattle.layout.specs.declared.pointer.Pointer.TheVariants.{Hole, Block}
use Rattle.layout.proofs.PointerLaws.{hole_block}
use Rattle.blocktree.specs.PlaceMaps.{AreBelow, place_at}
use Rattle.blocktree.specs.declared.place_map.PlaceMap.{PlaceMap}
use Rattle.conspoint.specs.declared.draft.Draft.{Draft}
use Rattle.conspoint.specs.Drafts.{Grows, WasTaken}
use Rattle.conspoint.specs.Space.{StoresNone}
use Rattle.conspoint.specs.Groups.{pointer_at, group, IsGroup, Follows, ComesFrom, ArePlaced}
use Rattle.conspoint.proofs.DraftLemmas.{taken_later, taken_earlier}

-- ---- the nodes of a group

-- pointers that are these nodes, and holes behind them
pub group_read : (nodes : PlaceMap) (j : ℕ) (all : List Pointer) → ((r : ℕ) → r < fan_out nodes.layout → pointer_at all r ≡ place_at nodes (fan_out nodes.layout * j + r))
    → ((r : ℕ) → fan_out nodes.layout ≤ r → pointer_at all r ≡ Hole) → (r : ℕ) → pointer_at all r ≡ group nodes j r
group_read nodes j all under behind r = elim (cases_lt r (fan_out nodes.layout)) [
  | inl lt ↦ under r lt ∙ cond_below r (fan_out nodes.layout) (place_at nodes (fan_out nodes.layout * j + r)) Hole lt
  | inr ge ↦ behind r ge ∙ cond_above r (fan_out nodes.layout) (place_at nodes (fan_out nodes.layout * j + r)) Hole Hole ge refl
]

pub group_below : (blocks : ℕ) (nodes : PlaceMap) (j r : ℕ) → AreBelow blocks nodes → PointsBelow blocks (group nodes j r)
group_below blocks nodes j r within = elim (cases_lt r (fan_out nodes.layout)) [
  | inl lt ↦ subst (PointsBelow blocks) (cond_below r (fan_out nodes.layout) (place_at nodes (fan_out nodes.layout * j + r)) Hole lt) (within (fan_out nodes.layout * j + r))
  | inr ge ↦ subst (PointsBelow blocks) (cond_above r (fan_out nodes.layout) (place_at nodes (fan_out nodes.layout * j + r)) Hole Hole ge refl) tt
]

pub group_hole : (nodes : PlaceMap) (j r : ℕ) → (r < fan_out nodes.layout → place_at nodes (fan_out nodes.layout * j + r) ≡ Hole) → group nodes j r ≡ Hole
group_hole nodes j r none = elim (cases_lt r (fan_out nodes.layout)) [
  | inl lt ↦ sym (cond_below r (fan_out nodes.layout) (place_at nodes (fan_out nodes.layout * j + r)) Hole lt) ∙ none lt
  | inr ge ↦ sym (cond_above r (fan_out nodes.layout) (place_at nodes (fan_out nodes.layout * j + r)) Hole Hole ge refl)
]

-- ---- one more is placed

module _ (a b c : Draft) (settled old new : PlaceMap) (j : ℕ) (p : Pointer) (before : Grows a b) (now : Grows b c) (so_far : ArePlaced a b settled old) (there : place_at new j ≡ p)
    (others : (i : ℕ) → i ≢ j → place_at new i ≡ place_at old i) (from : ComesFrom b c (place_at settled j) p) (within : PointsBelow MOST_BLOCKS p) where
  here : (i : ℕ) → i ≡ j → place_at new i ≡ p
  here i e = ap (place_at new) e ∙ there

  -- where the new one leads
  new_from : (i x : ℕ) → i ≡ j → place_at new i ≡ Block x → (place_at new i ≡ place_at settled i) ⊎ WasTaken b c x
  new_from i x e is = elim (from x (sym (here i e) ∙ is)) [
    | inl same ↦ inl (here i e ∙ same ∙ ap (place_at settled) (sym e))
    | inr taken ↦ inr taken
  ]

  old_from : (i x : ℕ) → i ≢ j → place_at new i ≡ Block x → (place_at new i ≡ place_at settled i) ⊎ WasTaken a b x
  old_from i x n is = elim (so_far.from i x (sym (others i n) ∙ is)) [
    | inl same ↦ inl (others i n ∙ same)
    | inr taken ↦ inr taken
  ]

  pub placed_more : ArePlaced a c settled new
  placed_more = record {
    within = λ i. elim (cases_eq i j) [
      | inl e ↦ subst (PointsBelow MOST_BLOCKS) (sym (here i e)) within
      | inr n ↦ subst (PointsBelow MOST_BLOCKS) (sym (others i n)) (so_far.within i)
    ];
    from = λ i x is. elim (cases_eq i j) [
      | inl e ↦ elim (new_from i x e is) [ inl same ↦ inl same | inr taken ↦ inr (taken_earlier a b c x before taken) ]
      | inr n ↦ elim (old_from i x n is) [ inl same ↦ inl same | inr taken ↦ inr (taken_later a b c x taken now) ]
    ];
    apart = λ i k x less is_i is_k. elim (cases_eq i j) [
      | inl e ↦
          let n : k ≢ j = λ f. omega (arith, e, f, less) in
          elim (old_from k x n is_k) [
            | inl same ↦ inr same
            | inr early ↦ elim (new_from i x e is_i) [ inl same ↦ inl same | inr late ↦ absurd (omega (arith, early.to, late.from)) ]
          ]
      | inr n ↦ elim (cases_eq k j) [
        | inl e ↦ elim (old_from i x n is_i) [
          | inl same ↦ inl same
          | inr early ↦ elim (new_from k x e is_k) [ inl same ↦ inr same | inr late ↦ absurd (omega (arith, early.to, late.from)) ]
        ]
        | inr m ↦ elim (so_far.apart i k x less (sym (others i n) ∙ is_i) (sym (others k m) ∙ is_k)) [
          | inl same ↦ inl (others i n ∙ same)
          | inr same ↦ inr (others k m ∙ same)
        ]
      ]
    ];
  }

-- nothing is placed yet
pub placed_none : (d : Draft) (settled nodes : PlaceMap) → ((i : ℕ) → place_at nodes i ≡ Hole) → ArePlaced d d settled nodes
placed_none d settled nodes holes = record {
  within = λ i. subst (PointsBelow MOST_BLOCKS) (sym (holes i)) tt;
  from = λ i x is. hole_block (sym (holes i) ∙ is);
  apart = λ i k x less is_i is_k. hole_block (sym (holes i) ∙ is_i);
}

-- all stand where they stood
pub placed_same : (d : Draft) (settled : PlaceMap) → AreBelow MOST_BLOCKS settled → ArePlaced d d settled settled
placed_same d settled within = record { within = within; from = λ i x is. inl refl; apart = λ i k x less is_i is_k. inl refl }

-- the same group, read otherwise
pub same_group : (e : Blocks) (settled over : Pointer) (old old2 new new2 : ℕ → Pointer) → ((i : ℕ) → i < 1024 → old2 i ≡ old i) → ((i : ℕ) → i < 1024 → new2 i ≡ new i)
    → IsGroup e settled old2 new2 over → IsGroup e settled old new over
same_group e settled over old old2 new new2 olds news (IsGroup.keeps is same) = IsGroup.keeps is (λ i lt. sym (news i lt) ∙ same i lt ∙ olds i lt)
same_group e settled over old old2 new new2 olds news (IsGroup.spells block is size under (i, low, there)) =
    IsGroup.spells block is size (λ i lt. under i lt ∙ news i lt) (i, low, λ none. there (news i low ∙ none))
same_group e settled over old old2 new new2 olds news (IsGroup.none is under) = IsGroup.none is (λ i lt. sym (news i lt) ∙ under i lt)

-- over holes there is none
pub follows_none : (settled over : Pointer) (old new : ℕ → Pointer) → over ≡ Hole → ((i : ℕ) → i < 1024 → new i ≡ Hole) → Follows settled old new over
follows_none settled over old new is holes = record { none = λ all. is; same = λ all. inr holes }

-- a node moved, and a node is no hole
pub follows_moved : (settled over : Pointer) (old new : ℕ → Pointer) → (((i : ℕ) → i < 1024 → new i ≡ Hole) → ⊥) → (((i : ℕ) → i < 1024 → new i ≡ old i) → (over ≡ settled)) → Follows settled old new over
follows_moved settled over old new some same = record { none = λ all. absurd (some all); same = λ all. inl (same all) }

pub same_follows : (settled over : Pointer) (old old2 new new2 : ℕ → Pointer) → ((i : ℕ) → i < 1024 → old2 i ≡ old i) → ((i : ℕ) → i < 1024 → new2 i ≡ new i) → Follows settled old2 new2 over → Follows settled old new over
same_follows settled over old old2 new new2 olds news follows = record {
  none = λ all. follows.none (λ i lt. news i lt ∙ all i lt);
  same = λ all. elim (follows.same (λ i lt. news i lt ∙ all i lt ∙ sym (olds i lt))) [
    | inl is ↦ inl is
    | inr holes ↦ inr (λ i lt. sym (news i lt) ∙ holes i lt)
  ];
}

-- where nothing is stored over a group, nothing is over the same nodes read otherwise
pub same_none : (old old2 new new2 : ℕ → Pointer) → ((i : ℕ) → i < 1024 → old2 i ≡ old i) → ((i : ℕ) → i < 1024 → new2 i ≡ new i) → StoresNone old new → StoresNone old2 new2
same_none old old2 new new2 olds news none = elim none [
  | inl same ↦ inl (λ i lt. news i lt ∙ same i lt ∙ sym (olds i lt))
  | inr holes ↦ inr (λ i lt. news i lt ∙ holes i lt)
]

-- what holds of each group so far, of those without nodes behind them, and of one, holds of each up to that one
pub groups_more : (P : ℕ → Pointer → Type 0) (old new : PlaceMap) (from j : ℕ) (p : Pointer) → place_at new j ≡ p → ((i : ℕ) → i ≢ j → place_at new i ≡ place_at old i)
    → ((i : ℕ) → i < from → P i (place_at old i)) → ((i : ℕ) → from ≤ i → i < j → P i (place_at old i)) → P j p → (i : ℕ) → i < j + 1 → P i (place_at new i)
groups_more P old new from j p there others so_far between last i lt = elim (cases_eq i j) [
  | inl e ↦ subst (λ (k : ℕ). P k (place_at new k)) (sym e) (subst (P j) (sym there) last)
  | inr n ↦ subst (P i) (sym (others i n)) (elim (cases_lt i from) [
    | inl done ↦ so_far i done
    | inr more ↦ between i more (omega (arith, lt, n))
  ])
]
