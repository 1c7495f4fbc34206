-- What is told of a file's stored blocks and holes is told in one way.
use Rattle.std.proofs.Common.{◌≡◌, inl, inr, ℕ, ◌<◌, Bool, Option, Some, None, refl, sym, ◌∙◌, ap, arith}
use Rattle.std.specs.Prelude.{not}
use Rattle.std.proofs.lemmas.Bool.{cases_order, false≢true}
use Rattle.model.specs.Holes.{IsFirst, FindsFirst, FindsHole, TellsExtent}
use Rattle.model.specs.declared.reply.Extent.{Extent}
use Rattle.model.proofs.CountLemmas.{counts_once, number_apart}

module _ (test : ℕ → Bool) (size offset : ℕ) where
  not_before : (p q : ℕ) → IsFirst test size offset p → IsFirst test size offset q → p < q → ⊥
  not_before p q one other less = false≢true (sym (other.before p one.from less) ∙ one.passes)

  first_place_once : (p q : ℕ) → IsFirst test size offset p → IsFirst test size offset q → p ≡ q
  first_place_once p q one other =
      elim (cases_order p q) [
        | inl same ↦ same
        | inr (inl less) ↦ absurd (not_before p q one other less)
        | inr (inr more) ↦ absurd (not_before q p other one more)
      ]

  none_or_one : (p : ℕ) → IsFirst test size offset p → FindsFirst test size offset None → ⊥
  none_or_one p one none = false≢true (sym (none p one.from one.within) ∙ one.passes)

  pub first_once : (o r : Option ℕ) → FindsFirst test size offset o → FindsFirst test size offset r → o ≡ r
  first_once (Some p) (Some q) one other = ap (λ k. Some k) (first_place_once p q one other)
  first_once (Some p) None one none = absurd (none_or_one p one none)
  first_once None (Some q) none one = absurd (none_or_one q one none)
  first_once None None one other = refl

module _ (stored : ℕ → Bool) (size offset : ℕ) where
  hole_place_once : (p q : ℕ) → FindsHole stored size offset (Some p) → FindsHole stored size offset (Some q) → p ≡ q
  hole_place_once p q (inl one) (inl other) = first_place_once (λ k. not (stored k)) size offset p q one other
  hole_place_once p q (inl one) (inr end) = absurd (none_or_one (λ k. not (stored k)) size offset p one end.2)
  hole_place_once p q (inr end) (inl one) = absurd (none_or_one (λ k. not (stored k)) size offset q one end.2)
  hole_place_once p q (inr end) (inr other) = end.1 ∙ sym other.1

  hole_below : (p : ℕ) → FindsHole stored size offset (Some p) → offset < size
  hole_below p (inl one) = let from = one.from in let within = one.within in omega arith
  hole_below p (inr end) = end.0

  pub hole_once : (o r : Option ℕ) → FindsHole stored size offset o → FindsHole stored size offset r → o ≡ r
  hole_once (Some p) (Some q) one other = ap (λ k. Some k) (hole_place_once p q one other)
  hole_once (Some p) None one past = absurd (let below = hole_below p one in omega (arith, below, past))
  hole_once None (Some q) past one = absurd (let below = hole_below q one in omega (arith, below, past))
  hole_once None None one other = refl

pub extent_once : (stored : ℕ → Bool) (size offset : ℕ) (a b : Extent) → TellsExtent stored size offset a → TellsExtent stored size offset b → a ≡ b
extent_once stored size offset a b one other =
    let blocks = counts_once _ number_apart a.blocks b.blocks one.blocks other.blocks in
    let next_data = first_once stored size offset a.data b.data one.next_data other.next_data in
    let next_hole = hole_once stored size offset a.hole b.hole one.next_hole other.next_hole in
    λ i. record { blocks = blocks i; «data» = next_data i; hole = next_hole i }
