-- Counts of numbers below a bound.
use Rattle.std.proofs.Common.{◌≡◌, ◌≢◌, ◌<◌, ◌≤◌, ◌+◌, inl, inr, ℕ, zero, suc, Bool, true, false, refl, sym, ap, ◌∙◌, arith}
use Rattle.std.proofs.lemmas.Bool.{cases_Bool, cases_eq}
use Rattle.descriptors.specs.Counts.{count_below, one_if}

pub count_same : (p q : ℕ → Bool) (m : ℕ) → ((n : ℕ) → n < m → p n ≡ q n) → count_below p m ≡ count_below q m
unfolding count_below
count_same p q zero same = refl
count_same p q (suc m) same =
    let below = count_same p q m (λ n lt. same n (omega (arith, lt))) in
    let here = same m (omega arith) in
    ap (λ (k : ℕ). k + one_if (p m)) below ∙ ap (λ (b : Bool). count_below q m + one_if b) here

pub count_more : (p q : ℕ → Bool) (k m : ℕ) → k < m → ((n : ℕ) → n ≢ k → p n ≡ q n) → p k ≡ false → q k ≡ true → count_below q m ≡ count_below p m + 1
unfolding count_below
count_more p q k zero below others out into = absurd (omega (arith, below))
count_more p q k (suc m) below others out into =
    elim (cases_eq k m) [
      | inl here ↦
          let rest : count_below q m ≡ count_below p m = count_same q p m (λ n lt. sym (others n (omega (arith, lt, here)))) in
          let was : one_if (p m) ≡ 0 = ap (λ (b : Bool). one_if b) (ap p (sym here) ∙ out) in
          let now : one_if (q m) ≡ 1 = ap (λ (b : Bool). one_if b) (ap q (sym here) ∙ into) in
          omega (arith, rest, was, now)
      | inr other ↦
          let rest : count_below q m ≡ count_below p m + 1 = count_more p q k m (omega (arith, below, other)) others out into in
          let same : one_if (p m) ≡ one_if (q m) = ap (λ (b : Bool). one_if b) (others m (λ e. other (sym e))) in
          omega (arith, rest, same)
    ]

one_at_most : (b : Bool) → one_if b ≤ 1
one_at_most true = omega arith
one_at_most false = omega arith

pub count_within : (p : ℕ → Bool) (m : ℕ) → count_below p m ≤ m
unfolding count_below
count_within p zero = omega arith
count_within p (suc m) = omega (arith, count_within p m, one_at_most (p m))

pub count_none : (p : ℕ → Bool) (m : ℕ) → ((n : ℕ) → n < m → p n ≡ false) → count_below p m ≡ 0
unfolding count_below
count_none p zero none = refl
count_none p (suc m) none =
    let below = count_none p m (λ n lt. none n (omega (arith, lt))) in
    let here : one_if (p m) ≡ 0 = ap (λ (b : Bool). one_if b) (none m (omega arith)) in
    omega (arith, below, here)

pub count_all : (p : ℕ → Bool) (m : ℕ) → ((n : ℕ) → n < m → p n ≡ true) → count_below p m ≡ m
unfolding count_below
count_all p zero all = refl
count_all p (suc m) all =
    let below = count_all p m (λ n lt. all n (omega (arith, lt))) in
    let here : one_if (p m) ≡ 1 = ap (λ (b : Bool). one_if b) (all m (omega arith)) in
    omega (arith, below, here)

-- where one passes, the count isn't 0, and where one doesn't, it isn't the bound
pub count_some : (p : ℕ → Bool) (k m : ℕ) → k < m → p k ≡ true → 0 < count_below p m
unfolding count_below
count_some p k zero below passes = absurd (omega (arith, below))
count_some p k (suc m) below passes =
    elim (cases_eq k m) [
      | inl here ↦ let one : one_if (p m) ≡ 1 = ap (λ (b : Bool). one_if b) (ap p (sym here) ∙ passes) in omega (arith, one)
      | inr other ↦ omega (arith, count_some p k m (omega (arith, below, other)) passes)
    ]

pub count_less : (p : ℕ → Bool) (k m : ℕ) → k < m → p k ≡ false → count_below p m < m
unfolding count_below
count_less p k zero below fails = absurd (omega (arith, below))
count_less p k (suc m) below fails =
    elim (cases_eq k m) [
      | inl here ↦
          let none : one_if (p m) ≡ 0 = ap (λ (b : Bool). one_if b) (ap p (sym here) ∙ fails) in
          omega (arith, none, count_within p m)
      | inr other ↦ omega (arith, count_less p k m (omega (arith, below, other)) fails, one_at_most (p m))
    ]

pub count_full : (p : ℕ → Bool) (k m : ℕ) → m ≤ count_below p m → k < m → p k ≡ true
count_full p k m full below =
    elim (cases_Bool (p k)) [
      | inl passes ↦ passes
      | inr fails ↦ absurd (omega (arith, full, count_less p k m below fails))
    ]

pub count_found : (p : ℕ → Bool) (m : ℕ) → 0 < count_below p m → (k : ℕ) × (k < m) × (p k ≡ true)
unfolding count_below
count_found p zero some = absurd (omega (arith, some))
count_found p (suc m) some =
    elim (cases_Bool (p m)) [
      | inl passes ↦ (m, omega arith, passes)
      | inr fails ↦
          let none : one_if (p m) ≡ 0 = ap (λ (b : Bool). one_if b) fails in
          let found = count_found p m (omega (arith, some, none)) in
          (found.0, omega (arith, found.1), found.2)
    ]

one_larger : (b c : Bool) → (b ≡ true → c ≡ true) → one_if b ≤ one_if c
one_larger true c grows = let one : one_if c ≡ 1 = ap (λ (d : Bool). one_if d) (grows refl) in omega (arith, one)
one_larger false c grows = omega arith

count_larger : (p q : ℕ → Bool) (m : ℕ) → ((n : ℕ) → p n ≡ true → q n ≡ true) → count_below p m ≤ count_below q m
unfolding count_below
count_larger p q zero grows = omega arith
count_larger p q (suc m) grows = omega (arith, count_larger p q m grows, one_larger (p m) (q m) (grows m))

-- what passes more, and one number more, counts more
pub count_grows : (p q : ℕ → Bool) (k m : ℕ) → k < m → ((n : ℕ) → p n ≡ true → q n ≡ true) → p k ≡ false → q k ≡ true → count_below p m + 1 ≤ count_below q m
unfolding count_below
count_grows p q k zero below grows out into = absurd (omega (arith, below))
count_grows p q k (suc m) below grows out into =
    elim (cases_eq k m) [
      | inl here ↦
          let was : one_if (p m) ≡ 0 = ap (λ (b : Bool). one_if b) (ap p (sym here) ∙ out) in
          let now : one_if (q m) ≡ 1 = ap (λ (b : Bool). one_if b) (ap q (sym here) ∙ into) in
          omega (arith, count_larger p q m grows, was, now)
      | inr other ↦ omega (arith, count_grows p q k m (omega (arith, below, other)) grows out into, one_larger (p m) (q m) (grows m))
    ]
