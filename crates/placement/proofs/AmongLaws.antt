-- Numbers in a list, and the blocks that stand at such nodes.
use Rattle.std.proofs.Common.{◌≡◌, ◌⊎◌, ◌↔◌, inl, inr, ℕ, zero, suc, ◌+◌, ◌<◌, ◌≤◌, List, [], ◌∷◌, ◌++◌, length, slice_index, refl, sym, ◌∙◌, ap, arith}
use Rattle.std.proofs.lemmas.Bool.{cases_eq, cases_lt}
use Rattle.std.proofs.lemmas.List.{get_or_push, get_or_append_left, length_push}
use Rattle.layout.specs.declared.pointer.Pointer.{Pointer}
use Rattle.layout.specs.declared.pointer.Pointer.TheVariants.{Block}
use Rattle.blocktree.specs.PlaceMaps.{place_at}
use Rattle.blocktree.specs.declared.place_map.PlaceMap.{PlaceMap}
use Rattle.placement.specs.Nodes.{AreBetween, HasLeftAmong, HasLeftIn, IsAmong}

pub between_more : (start end i : ℕ) (is : List ℕ) → AreBetween start end is → start ≤ i → i < end → AreBetween start end (is ++ i ∷ [])
between_more start end i is all low high k lt = elim (cases_lt k (length is)) [
  | inl before ↦ rw (get_or_append_left is (i ∷ []) 0 k before) (all k before)
  | inr more ↦
      let last : length is ≡ k = omega (arith, more, lt, length_push is i) in
      rw (get_or_push is i 0 k last) (low, high)
]

pub among_more : (i j : ℕ) (is : List ℕ) → IsAmong is j → IsAmong (is ++ i ∷ []) j
among_more i j is at = (at.0, omega (arith, at.1, length_push is i), get_or_append_left is (i ∷ []) 0 at.0 at.1 ∙ at.2)

pub among_last : (i : ℕ) (is : List ℕ) → IsAmong (is ++ i ∷ []) i
among_last i is = (length is, omega (arith, length_push is i), get_or_push is i 0 (length is) refl)

-- whether a number is among the first so many
is_among : (i n : ℕ) (is : List ℕ) → n ≤ length is → IsAmong is i ⊎ ((k : ℕ) → k < n → slice_index is k ≡ i → ⊥)
is_among i zero is few = inr (λ k lt. absurd (omega (arith, lt)))
is_among i (suc n) is few = elim (cases_eq (slice_index is n) i) [
  | inl e ↦ inl (n, omega (arith, few), e)
  | inr other ↦ elim (is_among i n is (omega (arith, few))) [
    | inl at ↦ inl at
    | inr none ↦ inr (λ k lt e. elim (cases_eq k n) [
      | inl same ↦ other (ap (slice_index is) (sym same) ∙ e)
      | inr apart ↦ none k (omega (arith, lt, apart)) e
    ])
  ]
]

-- a block stands at one of the first so many of these nodes, and not at the same of those
abbrev pub HasLeftBefore : ℕ → List ℕ → PlaceMap → (ℕ → Pointer) → ℕ → Type 0
HasLeftBefore n is from to b = (k : ℕ) × (k < n) × (place_at from (slice_index is k) ≡ Block b) × (to (slice_index is k) ≡ Block b → ⊥)

pub before_none : (b : ℕ) (is : List ℕ) (from : PlaceMap) (to : ℕ → Pointer) (A : Type 0) → A ↔ (A ⊎ HasLeftBefore 0 is from to b)
before_none b is from to A = (λ a. inl a, λ either. elim either [ inl a ↦ a | inr left ↦ absurd (omega (arith, left.1)) ])

pub before_more : (n b : ℕ) (is : List ℕ) (from : PlaceMap) (to : ℕ → Pointer) (A B C : Type 0) → B ↔ (A ⊎ HasLeftBefore n is from to b)
    → C ↔ (B ⊎ ((place_at from (slice_index is n) ≡ Block b) × (to (slice_index is n) ≡ Block b → ⊥))) → C ↔ (A ⊎ HasLeftBefore (n + 1) is from to b)
before_more n b is from to A B C first second = (forth, back)
  where
    forth : C → A ⊎ HasLeftBefore (n + 1) is from to b
    forth has = elim (second.0 has) [
      | inl was ↦ elim (first.0 was) [ inl a ↦ inl a | inr left ↦ inr (left.0, omega (arith, left.1), left.2, left.3) ]
      | inr left ↦ inr (n, omega arith, left.0, left.1)
    ]

    back : A ⊎ HasLeftBefore (n + 1) is from to b → C
    back (inl a) = second.1 (inl (first.1 (inl a)))
    back (inr left) = elim (cases_eq left.0 n) [
      | inl e ↦ second.1 (inr (ap (λ k. place_at from (slice_index is k)) (sym e) ∙ left.2, λ there. left.3 (ap (λ k. to (slice_index is k)) e ∙ there)))
      | inr other ↦ second.1 (inl (first.1 (inr (left.0, omega (arith, left.1, other), left.2, left.3))))
    ]

pub before_all : (n b : ℕ) (is : List ℕ) (from : PlaceMap) (to : ℕ → Pointer) (A B : Type 0) → length is ≤ n → n ≤ length is → B ↔ (A ⊎ HasLeftBefore n is from to b) → B ↔ (A ⊎ HasLeftAmong is from to b)
before_all n b is from to A B low high first = (
  λ has. elim (first.0 has) [ inl a ↦ inl a | inr left ↦ inr (left.0, omega (arith, left.1, high), left.2, left.3) ],
  λ either. elim either [ inl a ↦ first.1 (inl a) | inr left ↦ first.1 (inr (left.0, omega (arith, left.1, low), left.2, left.3)) ],
)

-- where no other node of a range may have left
pub left_among : (start end b : ℕ) (is : List ℕ) (from : PlaceMap) (to : ℕ → Pointer) (B C : Type 0) → AreBetween start end is
    → ((i : ℕ) → start ≤ i → i < end → (IsAmong is i → ⊥) → place_at from i ≡ to i) → C ↔ (B ⊎ HasLeftAmong is from to b) → C ↔ (B ⊎ HasLeftIn start end from to b)
left_among start end b is from to B C within kept is_so = (forth, back)
  where
    forth : C → B ⊎ HasLeftIn start end from to b
    forth has = elim (is_so.0 has) [
      | inl was ↦ inl was
      | inr left ↦ inr (slice_index is left.0, (within left.0 left.1).0, (within left.0 left.1).1, left.2, left.3)
    ]

    back : B ⊎ HasLeftIn start end from to b → C
    back (inl was) = is_so.1 (inl was)
    back (inr left) = elim (is_among left.0 (length is) is (omega arith)) [
      | inl at ↦ is_so.1 (inr (at.0, at.1, ap (place_at from) at.2 ∙ left.3, λ there. left.4 (sym (ap to at.2) ∙ there)))
      | inr none ↦ absurd (left.4 (sym (kept left.0 left.1 left.2 (λ at. none at.0 at.1 at.2)) ∙ left.3))
    ]
