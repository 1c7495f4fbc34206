-- Counts: of equal properties, along a bijection, and with one thing more or less.
use Rattle.std.proofs.Common.{◌≡◌, ◌≢◌, ◌⊎◌, inl, inr, ◌↔◌, ℕ, zero, suc, refl, sym, ap, subst, ◌∙◌, arith}
use Rattle.std.proofs.lemmas.Bool.{cases_order}
use Rattle.model.specs.Counting.{Counts}

pub same_count : {A : Type 0} (P Q : A → Type 0) (count : ℕ) → ((a : A) → P a ↔ Q a) → Counts P count → Counts Q count
same_count P Q zero both none = λ a is. none a ((both a).1 is)
same_count P Q (suc count) both (a, here, rest) =
    (a, (both a).0 here, same_count (λ b. P b × (b ≢ a)) (λ b. Q b × (b ≢ a)) count (λ b. ((λ is. ((both b).0 is.0, is.1)), (λ is. ((both b).1 is.0, is.1)))) rest)

-- what has P and what has Q stand for one another
pub count_along : {A B : Type 0} (P : A → Type 0) (Q : B → Type 0) (f : A → B) (g : B → A) (count : ℕ) → ((a : A) → P a → Q (f a) × (g (f a) ≡ a)) → ((b : B) → Q b → P (g b) × (f (g b) ≡ b)) → Counts P count → Counts Q count
count_along P Q f g zero there back none = λ b is. none (g b) (back b is).0
count_along P Q f g (suc count) there back (a, here, rest) = (
  f a,
  (there a here).0,
  count_along (λ b. P b × (b ≢ a)) (λ b. Q b × (b ≢ f a)) f g count
      (λ c is. (((there c is.0).0, λ e. is.1 (sym (there c is.0).1 ∙ ap g e ∙ (there a here).1)), (there c is.0).1))
      (λ d is. (((back d is.0).0, λ e. is.1 (sym (back d is.0).1 ∙ ap f e)), (back d is.0).1)) rest,
)

pub one_more : {A : Type 0} (P Q : A → Type 0) (a : A) (count : ℕ) → Q a → ((b : A) → P b ↔ (Q b × (b ≢ a))) → Counts P count → Counts Q (suc count)
one_more P Q a count here others counts = (a, here, same_count P (λ b. Q b × (b ≢ a)) count others counts)

-- where things are told apart, one may be left out of the count
pub one_less : {A : Type 0} (P : A → Type 0) (a : A) (count : ℕ) → ((b c : A) → (b ≡ c) ⊎ (b ≢ c)) → P a → Counts P count → (rest : ℕ) × (count ≡ suc rest) × Counts (λ b. P b × (b ≢ a)) rest
one_less P a zero apart here none = absurd (none a here)
one_less P a (suc count) apart here (b, there, rest) =
    elim (apart a b) [
      | inl same ↦ (count, refl, subst (λ c. Counts (λ d. P d × (d ≢ c)) count) (sym same) rest)
      | inr other ↦
          let less = one_less (λ c. P c × (c ≢ b)) a count apart (here, other) rest in (
            count,
            refl,
            subst (λ k. Counts (λ c. P c × (c ≢ a)) k) (sym less.1)
                (b, (there, λ e. other (sym e)), same_count (λ c. (P c × (c ≢ b)) × (c ≢ a)) (λ c. (P c × (c ≢ a)) × (c ≢ b)) less.0 (λ c. ((λ is. ((is.0.0, is.1), is.0.1)), (λ is. ((is.0.0, is.1), is.0.1)))) less.2),
          )
    ]

-- numbers are told apart
pub number_apart : (x y : ℕ) → (x ≡ y) ⊎ (x ≢ y)
number_apart x y =
    elim (cases_order x y) [
      | inl e ↦ inl e
      | inr other ↦ elim other [ inl lt ↦ inr (λ e. omega (arith, lt, e)) | inr lt ↦ inr (λ e. omega (arith, lt, e)) ]
    ]

-- where things are told apart, they are counted in one way
pub counts_once : {A : Type 0} (P : A → Type 0) → ((b c : A) → (b ≡ c) ⊎ (b ≢ c)) → (m n : ℕ) → Counts P m → Counts P n → m ≡ n
counts_once P apart zero zero one other = refl
counts_once P apart zero (suc n) none (a, here, rest) = absurd (none a here)
counts_once P apart (suc m) n (a, here, rest) other =
    let less = one_less P a n apart here other in
    ap (λ k. suc k) (counts_once (λ b. P b × (b ≢ a)) apart m less.0 rest less.2) ∙ sym less.1
