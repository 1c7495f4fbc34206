-- How many numbers below a bound pass a test.
use Rattle.std.specs.Prelude.{ℕ, zero, suc, ◌+◌, if◌then◌else◌, Bool}

-- 1 where a test passes
abbrev pub one_if : Bool → ℕ
one_if b = if b then 1 else 0

-- how many numbers below a bound pass a test
unfoldable pub count_below : (ℕ → Bool) → ℕ → ℕ
count_below p zero = 0
count_below p (suc n) = count_below p n + one_if (p n)
