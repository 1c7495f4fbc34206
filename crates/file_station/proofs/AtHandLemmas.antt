-- The block that is at hand.
use Rattle.std.proofs.Common.{true, Result, Ok, Err, ◌≡◌, ℕ, ◌+◌, ◌*◌, ◌≤◌, List, ◌++◌, length, take, drop, arith, length-take, length-drop, ap, sym, ◌∙◌}
use Rattle.std.proofs.lemmas.List.{same_lists, places}
use Rattle.std.proofs.Math.Seq.{take-append_seam}
use Rattle.std.specs.Prelude.{OnOk, is_ok}
use Rattle.station.specs.Images.{sectors_of}

-- a part of a beginning
within_first : (n d count : ℕ) (xs : List ℕ) → d + n ≤ count → take n (drop d (take count xs)) ≡ take n (drop d xs)
within_first n d count xs within =
    same_lists _ _ (simp (length-take, length-drop) (omega (arith, within))) (λ j e h. grind (arith, places))

-- a part of an end
within_last : (n d at : ℕ) (xs : List ℕ) → take n (drop d (drop at xs)) ≡ take n (drop (at + d) xs)
within_last n d at xs = same_lists _ _ (simp (length-take, length-drop) (omega arith)) (λ j e h. grind (arith, places))

-- a sector of a block whose first bytes were read
pub sector_read : (file bytes : List ℕ) (at count block k : ℕ) → at ≡ 4096 * block → take count bytes ≡ take count (drop at file) → 512 * k + 512 ≤ count
    → take 512 (drop (512 * k) bytes) ≡ sectors_of file (8 * block + k)
sector_read file bytes at count block k is read within =
    let place : at + 512 * k ≡ 512 * (8 * block + k) = omega (arith, is) in
    sym (within_first 512 (512 * k) count bytes within)
    ∙ ap (λ x. take 512 (drop (512 * k) x)) read
    ∙ within_first 512 (512 * k) count (drop at file) within
    ∙ within_last 512 (512 * k) at file
    ∙ ap (λ n. take 512 (drop n file)) place

-- what is true of an Ok
pub when_ok : {T E : Type 0} (r : Result T E) (P : Type 0) → is_ok r ≡ true → OnOk r P → P
when_ok (Ok x) P ok on = on
when_ok (Err e) P ok on = cc

-- the first bytes of what was read over
pub first_read : (out rest file : List ℕ) (at count long : ℕ) → length out ≡ count → long ≡ count → out ≡ take long (drop at file) → take count (out ++ rest) ≡ take count (drop at file)
first_read out rest file at count long whole same is =
    ap (λ n. take n (out ++ rest)) (sym whole) ∙ take-append_seam out rest ∙ is ∙ ap (λ n. take n (drop at file)) same
