-- Lists of which an element is set, or that have one more.
use Rattle.std.proofs.Common.{◌≡◌, ◌≢◌, ◌⊎◌, inl, inr, ℕ, zero, suc, List, [], ◌∷◌, ◌++◌, length, take, drop, set, Some, refl, sym, ap, ◌∙◌}
use Rattle.std.specs.Prelude.{slice_get}
use Rattle.std.proofs.Math.Seq.{take-append_seam}
use Rattle.model.proofs.OptionLaws.{none_some, some_same}

module _ {X : Type 0} where
  -- where one is set the others stay
  pub get_others : (xs : List X) (i j : ℕ) (x : X) → j ≢ i → slice_get (set xs i x) j ≡ slice_get xs j
  get_others [] i j x other = refl
  get_others (z ∷ xs) zero zero x other = absurd (other refl)
  get_others (z ∷ xs) zero (suc j) x other = refl
  get_others (z ∷ xs) (suc i) zero x other = refl
  get_others (z ∷ xs) (suc i) (suc j) x other = get_others xs i j x (λ e. other (ap suc e))

  -- one more is the last
  pub get_last : (xs : List X) (x : X) → slice_get (xs ++ x ∷ []) (length xs) ≡ Some x
  get_last [] x = refl
  get_last (y ∷ xs) x = get_last xs x

  -- what is there was there, or is the last
  pub get_pushed : (xs : List X) (x : X) (i : ℕ) (y : X) → slice_get (xs ++ x ∷ []) i ≡ Some y → (slice_get xs i ≡ Some y) ⊎ ((i ≡ length xs) × (y ≡ x))
  get_pushed [] x zero y is = inr (refl, sym (some_same is))
  get_pushed [] x (suc i) y is = none_some is
  get_pushed (z ∷ xs) x zero y is = inl is
  get_pushed (z ∷ xs) x (suc i) y is = elim (get_pushed xs x i y is) [ inl old ↦ inl old | inr new ↦ inr (ap (λ (k : ℕ). suc k) new.0, new.1) ]

-- the front of a list, where it was written whole
pub whole_again : (out items : List ℕ) (len : ℕ) → length out ≡ len → take len (out ++ drop (length out) items) ≡ out
whole_again out items len long = ap (λ n. take n (out ++ drop (length out) items)) (sym long) ∙ take-append_seam out (drop (length out) items)
