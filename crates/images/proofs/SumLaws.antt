-- Sums of numbers.
use Rattle.std.proofs.Common.{◌≡◌, ℕ, zero, suc, ◌+◌, ◌-◌, ◌*◌, ◌<◌, ◌≤◌, inl, inr, true, false, refl, ap, sym, subst, ◌∙◌, arith}
use Rattle.std.specs.Prelude.{min, nat_lt, ◌==◌, if◌then◌else◌}
use Rattle.std.proofs.lemmas.Bool.{cases_lt, cases_eq, cond_above, cond_below}
use Rattle.std.proofs.lemmas.Bool.Decides.{nat_tests}
use Rattle.images.specs.Sums.{sum_below}

-- up to a later number the sum is as great, or greater
pub sums_rise : (f : ℕ → ℕ) (a b : ℕ) → a ≤ b → sum_below f a ≤ sum_below f b
unfolding sum_below
sums_rise f a zero le =
    let is : a ≡ 0 = omega arith in
    subst (λ (n : ℕ). sum_below f n ≤ sum_below f 0) (sym is) (omega arith)
sums_rise f a (suc b) le = elim (cases_lt a (suc b)) [
  | inl lt ↦ (let below = sums_rise f a b (omega arith) in omega (arith, below))
  | inr ge ↦ (let is : a ≡ suc b = omega arith in subst (λ (n : ℕ). sum_below f n ≤ sum_below f (suc b)) (sym is) (omega arith))
]

-- one is added
pub one_more : (f : ℕ → ℕ) (n : ℕ) → sum_below f (n + 1) ≡ sum_below f n + f n
unfolding sum_below
one_more f n = let next : n + 1 ≡ suc n = omega arith in rw next refl

pub sum_of_none : (f : ℕ → ℕ) → sum_below f 0 ≡ 0
unfolding sum_below
sum_of_none f = refl

-- what comes at a number is in each later sum
pub is_in_sum : (f : ℕ → ℕ) (i n : ℕ) → i < n → sum_below f i + f i ≤ sum_below f n
is_in_sum f i n lt =
    let more = sums_rise f (i + 1) n (omega arith) in
    omega (arith, more, one_more f i)

-- where none is counted from one number up to another, the sums are the same
pub gap_counts : (f : ℕ → ℕ) (a b : ℕ) → a ≤ b → ((i : ℕ) → a ≤ i → i < b → f i ≡ 0) → sum_below f b ≡ sum_below f a
unfolding sum_below
gap_counts f a zero le none = (let is : 0 ≡ a = omega (arith, le) in ap (sum_below f) is)
gap_counts f a (suc b) le none = elim (cases_lt a (suc b)) [
  | inl lt ↦ omega (arith, gap_counts f a b (omega (arith, lt)) (λ i low high. none i low (omega (arith, high))), none b (omega (arith, lt)) (omega arith))
  | inr ge ↦ (let is : suc b ≡ a = omega (arith, le, ge) in ap (sum_below f) is)
]

-- where each is no more, neither is the sum
pub sums_each : (f g : ℕ → ℕ) (n : ℕ) → ((i : ℕ) → f i ≤ g i) → sum_below f n ≤ sum_below g n
unfolding sum_below
sums_each f g zero each = omega arith
sums_each f g (suc n) each = omega (arith, sums_each f g n each, each n)

-- the same at each number below
pub same_sum : (f g : ℕ → ℕ) (m : ℕ) → ((k : ℕ) → k < m → f k ≡ g k) → sum_below f m ≡ sum_below g m
unfolding sum_below
same_sum f g zero same = refl
same_sum f g (suc m) same = omega (arith, same_sum f g m (λ k lt. same k (omega (arith, lt))), same m (omega arith))

-- where two functions differ at one number alone, so do their sums
pub change_at : (f g : ℕ → ℕ) (n m : ℕ) → n < m → ((k : ℕ) → (k ≡ n → ⊥) → f k ≡ g k) → sum_below f m + g n ≡ sum_below g m + f n
unfolding sum_below
change_at f g n zero lt same = absurd (omega (arith, lt))
change_at f g n (suc m) lt same = elim (cases_eq m n) [
  | inl is ↦
      let below = same_sum f g m (λ k less. same k (λ e. omega (arith, less, e, is))) in
      let here : f m ≡ f n = ap f is in
      let there : g m ≡ g n = ap g is in
      omega (arith, below, here, there)
  | inr other ↦ omega (arith, change_at f g n m (omega (arith, lt, other)) same, same m other)
]

pub sum_append : (f : ℕ → ℕ) (p q : ℕ) → sum_below f (p + q) ≡ sum_below f p + sum_below (λ k. f (p + k)) q
unfolding sum_below
sum_append f p zero = let same : p + 0 ≡ p = omega arith in rw same (omega arith)
sum_append f p (suc q) = let next : p + suc q ≡ suc (p + q) = omega arith in rw next (omega (arith, sum_append f p q))

-- of groups of m numbers, one for each with something in it: no more than there is in all
pub groups_most : (f : ℕ → ℕ) (m a : ℕ) → sum_below (λ i. min 1 (sum_below (λ k. f (m * i + k)) m)) a ≤ sum_below f (m * a)
unfolding sum_below
groups_most f m zero = omega arith
groups_most f m (suc a) =
    let next : m * suc a ≡ m * a + m = grind arith in
    let parts = sum_append f (m * a) m in
    let whole : sum_below f (m * suc a) ≡ sum_below f (m * a) + sum_below (λ k. f (m * a + k)) m = ap (sum_below f) next ∙ parts in
    omega (arith, groups_most f m a, whole)

sum_of_ones : (f : ℕ → ℕ) (m : ℕ) → ((k : ℕ) → k < m → f k ≡ 1) → sum_below f m ≡ m
unfolding sum_below
sum_of_ones f zero ones = refl
sum_of_ones f (suc m) ones = omega (arith, sum_of_ones f m (λ k lt. ones k (omega (arith, lt))), ones m (omega arith))

-- ---- ones that lead to ones

-- g with nothing at y
abbrev without : ℕ → (ℕ → ℕ) → ℕ → ℕ
without y g n = if n == y then 0 else g n

without_here : (y : ℕ) (g : ℕ → ℕ) → without y g y ≡ 0
without_here y g = let yes : (y == y) ≡ true = grind (arith, nat_tests) in rw yes refl

without_other : (y : ℕ) (g : ℕ → ℕ) (n : ℕ) → (n ≡ y → ⊥) → without y g n ≡ g n
without_other y g n not = let no : (n == y) ≡ false = grind (arith, nat_tests, not) in rw no refl

module _ (f : ℕ → ℕ) (b : ℕ) (R : ℕ → ℕ → Type 0) (one : (x : ℕ) → f x ≤ 1) (alone : (x z y : ℕ) → R x y → R z y → x ≡ z) where
  -- where each one below a leads to one below b, and no two to the same, there are no fewer there
  pub lead_to : (g : ℕ → ℕ) (a : ℕ) → ((x : ℕ) → x < a → f x ≡ 1 → (y : ℕ) × (y < b) × (g y ≡ 1) × R x y) → sum_below f a ≤ sum_below g b
  unfolding sum_below
  lead_to g zero leads = omega arith
  lead_to g (suc a) leads = elim (cases_eq (f a) 1) [
    | inr none ↦ omega (arith, lead_to g a (λ x lt. leads x (omega (arith, lt))), one a, none)
    | inl is ↦
        let found = leads a (omega arith) is in
        let y = found.0 in
        let rest = lead_to (without y g) a (λ x lt here.
        let other = leads x (omega (arith, lt)) here in
        let apart : other.0 ≡ y → ⊥ = λ same. omega (arith, lt, alone x a y (subst (λ (n : ℕ). R x n) same other.3) found.3) in
        (other.0, other.1, without_other y g other.0 apart ∙ other.2, other.3)) in
        let change = change_at g (without y g) y b found.1 (λ k not. sym (without_other y g k not)) in
        omega (arith, rest, change, without_here y g, found.2, is)
  ]

-- f from one number on, before another, and then ones
abbrev later : (ℕ → ℕ) → ℕ → ℕ → ℕ → ℕ
later f low n x = if nat_lt x n then (if nat_lt x low then 0 else f x) else 1

later_one : (f : ℕ → ℕ) (low n x : ℕ) → f x ≤ 1 → later f low n x ≤ 1
later_one f low n x one = elim (cases_lt x n) [
  | inr past ↦ (let no : nat_lt x n ≡ false = grind (arith, nat_tests) in rw no (omega arith))
  | inl lt ↦ (let yes : nat_lt x n ≡ true = grind (arith, nat_tests) in elim (cases_lt x low) [
    | inl early ↦ (let is : nat_lt x low ≡ true = grind (arith, nat_tests) in rw (yes, is) (omega arith))
    | inr late ↦ (let is : nat_lt x low ≡ false = grind (arith, nat_tests) in rw (yes, is) one)
  ])
]

from_low : (f : ℕ → ℕ) (low m : ℕ) → sum_below f m ≤ sum_below (λ x. if nat_lt x low then 0 else f x) m + sum_below f low
unfolding sum_below
from_low f low zero = omega arith
from_low f low (suc m) = elim (cases_lt m low) [
  | inl early ↦ (let rise = sums_rise f (suc m) low (omega arith) in omega (arith, rise))
  | inr late ↦ (let is : nat_lt m low ≡ false = grind (arith, nat_tests) in rw is (omega (arith, from_low f low m)))
]

-- Ones below n, from a number on, and so many more lead to ones below n, no two to the same.
pub leads_back : (f g : ℕ → ℕ) (low n more : ℕ) (R : ℕ → ℕ → Type 0) → ((x : ℕ) → f x ≤ 1) → ((x z y : ℕ) → R x y → R z y → x ≡ z)
    → ((x : ℕ) → x < n → low ≤ x → f x ≡ 1 → (y : ℕ) × (y < n) × (g y ≡ 1) × R x y)
    → ((k : ℕ) → k < more → (y : ℕ) × (y < n) × (g y ≡ 1) × R (n + k) y)
    → sum_below f n + more ≤ sum_below g n + sum_below f low
leads_back f g low n more R one alone leads beyond =
    let all = lead_to (later f low n) n R (λ x. later_one f low n x (one x)) alone g (n + more) found in
    let parts = sum_append (later f low n) n more in
    let here = same_sum (later f low n) (λ x. if nat_lt x low then 0 else f x) n (λ x lt. sym (cond_below x n (if nat_lt x low then 0 else f x) 1 lt)) in
    let ones = sum_of_ones (λ k. later f low n (n + k)) more (λ k lt. sym (cond_above (n + k) n (if nat_lt (n + k) low then 0 else f (n + k)) 1 1 (omega arith) refl)) in
    omega (arith, all, parts, here, ones, from_low f low n)
  where
    found : (x : ℕ) → x < n + more → later f low n x ≡ 1 → (y : ℕ) × (y < n) × (g y ≡ 1) × R x y
    found x lt is = elim (cases_lt x n) [
      | inr past ↦
          let at : n + (x - n) ≡ x = omega arith in
          subst (λ (x : ℕ). (y : ℕ) × (y < n) × (g y ≡ 1) × R x y) at (beyond (x - n) (omega arith))
      | inl before ↦ elim (cases_lt x low) [
        | inl early ↦
            let inner = cond_below x low 0 (f x) early in
            let outer = cond_below x n (if nat_lt x low then 0 else f x) 1 before in
            absurd (omega (arith, inner, outer, is))
        | inr late ↦
            let inner = cond_above x low 0 (f x) (f x) late refl in
            let outer = cond_below x n (if nat_lt x low then 0 else f x) 1 before in
            leads x before late (omega (arith, inner, outer, is))
      ]
    ]
