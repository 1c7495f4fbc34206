-- Trees that are changed one after the other.
use Rattle.std.proofs.Common.{◌≡◌, ◌≢◌, ◌∙◌, ℕ, ◌+◌, ◌<◌, ◌≤◌, List, length, get_or, set, arith, ap, sym, subst, refl, inl, inr, get_or-set_same, length-set}
use Rattle.std.specs.Prelude.{Some, slice_get, Contains}
use Rattle.std.proofs.Math.Nat.{eq-or-lt_of_le}
use Rattle.std.proofs.lemmas.Option.{get_or_from_slice_get, slice_get-get_or, slice_get_cases, slice_get_read, slice_get_within}
use Rattle.model.proofs.OptionLaws.{some_same}
use Rattle.model.proofs.ListLaws.{get_others}

-- an element that is written
pub get_set : {X : Type 0} (xs : List X) (i : ℕ) (x : X) → i < length xs → slice_get (set xs i x) i ≡ Some x
get_set xs i x lt = slice_get-get_or (set xs i x) i x (omega (arith, lt, length-set xs i x)) ∙ ap (λ (y : _). Some y) (get_or-set_same xs i x x lt)

-- an element that is read, and one that a list contains
pub get_at : {X : Type 0} (xs : List X) (i : ℕ) (x : X) → i < length xs → x ≡ get_or xs i x → slice_get xs i ≡ Some x
get_at xs i x lt is = slice_get_read xs (length xs) i x refl lt is

pub contained : {X : Type 0} (xs : List X) (x : X) → Contains xs x → (i : ℕ) × (slice_get xs i ≡ Some x)
contained xs x has = (has.0, get_at xs has.0 x has.1 (sym has.2))

pub contains : {X : Type 0} (xs : List X) (i : ℕ) (x : X) → slice_get xs i ≡ Some x → Contains xs x
contains xs i x is = (i, slice_get_within xs i x is, get_or_from_slice_get xs i x x is)

-- a list that long has an element there
pub some_at : {X : Type 0} (xs : List X) (i : ℕ) → i < length xs → (x : X) × (slice_get xs i ≡ Some x)
some_at xs i lt = elim (slice_get_cases xs i).1 [
  | inl one ↦ (one.0, one.2)
  | inr none ↦ absurd (omega (arith, lt, none.0))
]

-- the elements before place k were changed so, the others not
pub record Each {X : Type 0} (P : ℕ → X → X → Type 0) (k : ℕ) (old new : List X) : Type 0 where
  pub length_is : length new ≡ length old
  pub below : (i : ℕ) (x y : X) → slice_get old i ≡ Some x → slice_get new i ≡ Some y → i < k → P i x y
  pub rest : (i : ℕ) → k ≤ i → slice_get new i ≡ slice_get old i

module _ {X : Type 0} (P : ℕ → X → X → Type 0) where
  pub each_none : (xs : List X) → Each P 0 xs xs
  each_none xs = record { length_is = refl; below = λ i x y was is low. absurd (omega (arith, low)); rest = λ i le. refl }

  -- one more, as it was
  pub each_same : (k : ℕ) (old new : List X) (x : X) → Each P k old new → slice_get new k ≡ Some x → P k x x → Each P (k + 1) old new
  each_same k old new x each at here = record {
    length_is = each.length_is;
    below = λ i v w was is low. let most : i ≤ k = omega (arith, low) in elim (eq-or-lt_of_le most) [
      | inl same ↦
          let v_is : v ≡ x = some_same (sym was ∙ ap (slice_get old) same ∙ sym (each.rest k (omega arith)) ∙ at) in
          let w_is : w ≡ x = some_same (sym is ∙ ap (slice_get new) same ∙ at) in
          subst (λ (n : ℕ). P n v w) (sym same) (subst (λ (z : X). P k z w) (sym v_is) (subst (P k x) (sym w_is) here))
      | inr lt ↦ each.below i v w was is lt
    ];
    rest = λ i le. each.rest i (omega (arith, le));
  }

  -- one more, changed
  pub each_set : (k : ℕ) (old new : List X) (x y : X) → Each P k old new → k < length new → slice_get new k ≡ Some x → P k x y → Each P (k + 1) old (set new k y)
  each_set k old new x y each lt at here = record {
    length_is = length-set new k y ∙ each.length_is;
    below = λ i v w was is low. let most : i ≤ k = omega (arith, low) in elim (eq-or-lt_of_le most) [
      | inl same ↦
          let v_is : v ≡ x = some_same (sym was ∙ ap (slice_get old) same ∙ sym (each.rest k (omega arith)) ∙ at) in
          let w_is : w ≡ y = some_same (sym is ∙ ap (slice_get (set new k y)) same ∙ get_set new k y lt) in
          subst (λ (n : ℕ). P n v w) (sym same) (subst (λ (z : X). P k z w) (sym v_is) (subst (P k x) (sym w_is) here))
      | inr less ↦
          let ne : i ≢ k = λ same. omega (arith, same, less) in
          each.below i v w was (sym (get_others new k i y ne) ∙ is) less
    ];
    rest = λ i le.
        let ne : i ≢ k = λ same. omega (arith, same, le) in
        get_others new k i y ne ∙ each.rest i (omega (arith, le));
  }

  -- all of them
  pub each_all : (k : ℕ) (old new : List X) → Each P k old new → length old ≤ k → (i : ℕ) (x y : X) → slice_get old i ≡ Some x → slice_get new i ≡ Some y → P i x y
  each_all k old new each all i x y was is = each.below i x y was is (omega (arith, all, slice_get_within old i x was))
