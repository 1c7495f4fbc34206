-- Nodes that were placed, with one that was given out later as the first.
use Rattle.std.proofs.Common.{◌≡◌, ◌≢◌, ◌⊎◌, inl, inr, ℕ, ◌≤◌, ap, sym, subst, ◌∙◌, arith}
use Rattle.std.proofs.lemmas.Bool.{cases_eq}
use Rattle.layout.specs.Pointer.{PointsBelow}
use Rattle.layout.specs.declared.pointer.Pointer.{Pointer}
use Rattle.layout.specs.declared.pointer.Pointer.TheVariants.{Block}
use Rattle.blocktree.specs.PlaceMaps.{place_at}
use Rattle.blocktree.specs.declared.place_map.PlaceMap.{PlaceMap}
use Rattle.conspoint.specs.declared.draft.Draft.{Draft}
use Rattle.conspoint.specs.Drafts.{Grows, WasTaken}
use Rattle.conspoint.proofs.DraftLemmas.{taken_earlier, taken_later}
use Rattle.placement.specs.Nodes.{ArePlacedAt}
use Rattle.layout.proofs.PointerLaws.{block_same}

module _ (a b c : Draft) (settled : ℕ → Pointer) (nodes all : PlaceMap) (first : ℕ) (before : Grows a b) (now : Grows b c) (blocks : ArePlacedAt a b settled nodes) (taken : WasTaken b c first) (low : 2 ≤ first)
    (here : place_at all 0 ≡ Block first) (others : (i : ℕ) → i ≢ 0 → place_at all i ≡ place_at nodes i) where
  is_first : (i x : ℕ) → i ≡ 0 → place_at all i ≡ Block x → first ≡ x
  is_first i x none is = block_same first x (sym here ∙ ap (place_at all) (sym none) ∙ is)

  came_first : (i x : ℕ) → place_at all i ≡ Block x → (settled i ≡ Block x) ⊎ WasTaken a c x
  came_first i x is = elim (cases_eq i 0) [
    | inl none ↦ inr (subst (WasTaken a c) (is_first i x none is) (taken_earlier a b c first before taken))
    | inr some ↦ elim (blocks.from i x (sym (others i some) ∙ is)) [ inl was ↦ inl was | inr given ↦ inr (taken_later a b c x given now) ]
  ]

  with_other : (j x : ℕ) → j ≢ 0 → place_at all j ≡ Block x → first ≡ x → settled j ≡ Block x
  with_other j x some is e = elim (blocks.from j x (sym (others j some) ∙ is)) [ inl was ↦ was | inr early ↦ absurd (omega (arith, early.to, taken.from, e)) ]

  two_first : (i j x : ℕ) → place_at all i ≡ Block x → place_at all j ≡ Block x → ((settled i ≡ Block x) ⊎ (settled j ≡ Block x)) ⊎ (i ≡ j)
  two_first i j x is_i is_j = elim (cases_eq i 0) [
    | inl i_none ↦ elim (cases_eq j 0) [
      | inl j_none ↦ inr (i_none ∙ sym j_none)
      | inr some ↦ inl (inr (with_other j x some is_j (is_first i x i_none is_i)))
    ]
    | inr i_some ↦ elim (cases_eq j 0) [
      | inl j_none ↦ inl (inl (with_other i x i_some is_i (is_first j x j_none is_j)))
      | inr j_some ↦ blocks.apart i j x (sym (others i i_some) ∙ is_i) (sym (others j j_some) ∙ is_j)
    ]
  ]

  within_first : (i : ℕ) → PointsBelow a.map.count (place_at all i)
  within_first i = elim (cases_eq i 0) [
    | inl none ↦ subst (PointsBelow a.map.count) (sym (ap (place_at all) none ∙ here)) (low, omega (arith, taken.within, before.count))
    | inr some ↦ subst (PointsBelow a.map.count) (sym (others i some)) (blocks.within i)
  ]

  pub first_placed : ArePlacedAt a c settled all
  first_placed = record { within = within_first; from = came_first; apart = two_first }
