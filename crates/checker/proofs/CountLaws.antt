-- Free entries, counted one by one.
use Rattle.std.proofs.Common.{◌≡◌, ℕ, ◌+◌, ◌==◌, if◌then◌else◌, ap, sym, ◌∙◌}
use Rattle.images.specs.Sums.{sum_below}
use Rattle.images.proofs.SumLaws.{one_more}

-- a count of free entries with one more
pub count_more : (entry : ℕ → ℕ) (n count more : ℕ) → count ≡ sum_below (λ i. if entry i == 0 then 1 else 0) n
    → more ≡ count + (if entry n == 0 then 1 else 0) → more ≡ sum_below (λ i. if entry i == 0 then 1 else 0) (n + 1)
count_more entry n count more is one =
    one ∙ ap (λ c. c + (if entry n == 0 then 1 else 0)) is ∙ sym (one_more (λ i. if entry i == 0 then 1 else 0) n)
