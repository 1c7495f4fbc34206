-- What a kernel says of eight entries, carried along a list.
use Rattle.std.proofs.Common.{◌≡◌, ◌≢◌, ◌==◌, inl, inr, ℕ, ◌+◌, ◌-◌, ◌≤◌, ◌<◌, Bool, false, not, List, length, take, drop, take-add, get_or, replicate, eqb, eqb-true, ap, subst, ◌∙◌, arith}
use Rattle.std.proofs.lemmas.Bool.{cases_lt}
use Rattle.std.proofs.lemmas.List.Sums.{sum_by-append}
use Rattle.std.proofs.lemmas.Simd.{length-zip2, get_or-zip2, get_or-replicate, get_or-put_chunk_at, run_in_chunk_fails, run_in_chunk_stops}
use Rattle.std.specs.Prelude.{count_by, cond}
use Rattle.std.specs.List.{prefix_len}
use lib.Lanes.{chunk, zip2, put_chunk}

pub count_more : {X : Type 0} (p : X → Bool) (xs : List X) (at n : ℕ) → count_by p (take (at + n) xs) ≡ count_by p (take at xs) + count_by p (chunk at n xs)
count_more p xs at n = ap (count_by p) (take-add at n xs) ∙ sum_by-append (λ x. cond (p x) 1 0) (take at xs) (take n (drop at xs))

not_zero : (xs : List ℕ) (k : ℕ) → eqb (get_or xs k 0) 0 ≡ false → get_or xs k 0 ≢ 0
not_zero xs k is same = let t : eqb 0 0 ≡ false = subst (λ n. eqb n 0 ≡ false) same is in cc

-- none of eight is zero
pub none_more : (xs : List ℕ) (from at r : ℕ) → at + 8 ≤ length xs → r ≡ prefix_len (λ e. not (e == 0)) (chunk at 8 xs) → 8 ≤ r
    → ((k : ℕ) → from ≤ k → k < at → get_or xs k 0 ≢ 0) → (k : ℕ) → from ≤ k → k < at + 8 → get_or xs k 0 ≢ 0
none_more xs from at r room counted all before k low high = elim (cases_lt k at) [
  | inl lt ↦ before k low lt
  | inr ge ↦ not_zero xs k (run_in_chunk_fails (λ e. eqb e 0) xs at 8 r 0 room counted k ge (omega (arith, high, all)))
]

-- one of eight is zero, and those before it aren't
pub found_zero : (xs : List ℕ) (at r : ℕ) → at + 8 ≤ length xs → r ≡ prefix_len (λ e. not (e == 0)) (chunk at 8 xs) → r < 8 → get_or xs (at + r) 0 ≡ 0
found_zero xs at r room counted low = eqb-true (get_or xs (at + r) 0) 0 (run_in_chunk_stops (λ e. eqb e 0) xs at 8 r 0 room counted low)

pub none_before : (xs : List ℕ) (from at r : ℕ) → at + 8 ≤ length xs → r ≡ prefix_len (λ e. not (e == 0)) (chunk at 8 xs)
    → ((k : ℕ) → from ≤ k → k < at → get_or xs k 0 ≢ 0) → (k : ℕ) → from ≤ k → k < at + r → get_or xs k 0 ≢ 0
none_before xs from at r room counted before k low high = elim (cases_lt k at) [
  | inl lt ↦ before k low lt
  | inr ge ↦ not_zero xs k (run_in_chunk_fails (λ e. eqb e 0) xs at 8 r 0 room counted k ge high)
]

-- one operation on eight entries and a splat
module _ (f : ℕ → ℕ → ℕ) (v : List ℕ) (y : ℕ) (long : length v ≡ 8) where
  pub splat_lane : (j : ℕ) → j < 8 → get_or (zip2 f v (replicate 8 y)) j 0 ≡ f (get_or v j 0) y
  splat_lane j lt = get_or-zip2 f v (replicate 8 y) j 0 0 0 (omega (arith, lt, long)) lt ∙ ap (f (get_or v j 0)) (get_or-replicate 8 j y 0 lt)

  pub splat_long : length (zip2 f v (replicate 8 y)) ≡ 8
  splat_long = length-zip2 f v (replicate 8 y) long ∙ long

-- eight entries are put into a list
pub put_inside : (xs lanes : List ℕ) (at : ℕ) (is : ℕ → ℕ) → at + 8 ≤ length xs → length lanes ≡ 8 → ((j : ℕ) → j < 8 → get_or lanes j 0 ≡ is (at + j))
    → (k : ℕ) → at ≤ k → k < at + 8 → get_or (put_chunk at xs lanes) k 0 ≡ is k
put_inside xs lanes at is room long lane k low high =
    let same : at + (k - at) ≡ k = omega (arith, low) in
    let lt : k - at < 8 = omega (arith, low, high) in
    subst (λ n. get_or (put_chunk at xs lanes) n 0 ≡ is n) same
    (get_or-put_chunk_at at xs lanes (k - at) 0 (omega (arith, lt, long)) (omega (arith, long, room)) ∙ lane (k - at) lt)
