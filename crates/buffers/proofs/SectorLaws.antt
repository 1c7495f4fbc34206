-- Blocks as their sectors.
use Rattle.std.proofs.Common.{◌≡◌, inl, inr, ℕ, zero, suc, ◌+◌, ◌*◌, ◌/◌, ◌%◌, ◌<◌, ◌≤◌, Bool, true, false, List, ◌++◌, length, take, drop, refl, ap, sym, ◌∙◌, arith, length-append, length-take, length-drop}
use Rattle.std.specs.Prelude.{slice_index}
use Rattle.std.proofs.lemmas.List.{take-append-drop, take_all, drop-drop, get_or-take, get_or-drop}
use Rattle.std.proofs.lemmas.List.FromFn.{fill_by_all}
use Rattle.station.specs.Images.{Sector, Tells, unreadable}
use Rattle.station.specs.Moments.{IsSector}
use Rattle.layout.specs.Places.{blocks_of}

-- 512 bytes more
part_on : (k n : ℕ) (xs rest : List ℕ) → n ≡ k + 512 → drop n xs ≡ rest → drop k xs ≡ take 512 (drop k xs) ++ rest
part_on k n xs rest is on = sym (take-append-drop 512 (drop k xs)) ∙ ap (λ ys. take 512 (drop k xs) ++ ys) (drop-drop 512 k xs ∙ ap (λ m. drop m xs) (sym is) ∙ on)

eight_parts : (xs : List ℕ) → length xs ≡ 4096
    → xs ≡ take 512 (drop 0 xs) ++ (take 512 (drop 512 xs) ++ (take 512 (drop 1024 xs) ++ (take 512 (drop 1536 xs) ++ (take 512 (drop 2048 xs) ++ (take 512 (drop 2560 xs) ++ (take 512 (drop 3072 xs) ++ take 512 (drop 3584 xs)))))))
eight_parts xs size =
    let last : drop 3584 xs ≡ take 512 (drop 3584 xs) = sym (take_all 512 (drop 3584 xs) (omega (arith, length-drop 3584 xs))) in
    part_on 0 512 xs _ refl (part_on 512 1024 xs _ refl (part_on 1024 1536 xs _ refl (part_on 1536 2048 xs _ refl (part_on 2048 2560 xs _ refl (part_on 2560 3072 xs _ refl (part_on 3072 3584 xs _ refl last))))))

-- eight sectors that hold the parts of a block's bytes, one behind the other, are the block
pub sectors_block : (disk : ℕ → List ℕ) (b : ℕ) (bytes : List ℕ) → length bytes ≡ 4096 → ((i : ℕ) → i < 8 → disk (8 * b + i) ≡ take 512 (drop (512 * i) bytes)) → blocks_of disk b ≡ bytes
unfolding blocks_of
sectors_block disk b bytes size holds =
    let first : disk (8 * b) ≡ take 512 (drop 0 bytes) = ap disk (omega arith) ∙ holds 0 (omega arith) in
    rw (first, holds 1 (omega arith), holds 2 (omega arith), holds 3 (omega arith), holds 4 (omega arith), holds 5 (omega arith), holds 6 (omega arith), holds 7 (omega arith))
    (sym (eight_parts bytes size))

-- a block whose bytes were read sector by sector, all of them whole
pub block_read : (sectors : ℕ → Sector) (place : ℕ) (bytes : List ℕ) → length bytes ≡ 4096 → ((i : ℕ) → i < 8 → length (sectors (8 * place + i)) ≡ 512)
    → ((r : ℕ) → r < 4096 → slice_index bytes r ≡ slice_index (sectors (8 * place + r / 512)) (r % 512)) → bytes ≡ blocks_of sectors place
block_read sectors place bytes size whole are = sym (sectors_block sectors place bytes size (λ i lt.
    let part : List ℕ = take 512 (drop (512 * i) bytes) in
    let long : length part ≡ 512 = length-take 512 (drop (512 * i) bytes) ∙ omega (arith, length-drop (512 * i) bytes, size) in
    fill_by_all (slice_index part) (sectors (8 * place + i)) 512 0 (whole i lt) (λ r low.
    let sector : 8 * place + (512 * i + r) / 512 ≡ 8 * place + i = omega arith in
    let at : (512 * i + r) % 512 ≡ r = omega arith in
    sym (ap (λ n. slice_index (sectors n) ((512 * i + r) % 512)) sector ∙ ap (slice_index (sectors (8 * place + i))) at)
    ∙ sym (are (512 * i + r) (omega arith))
    ∙ sym (get_or-drop (512 * i) bytes r 0) ∙ sym (get_or-take 512 (drop (512 * i) bytes) r 0 low))
    ∙ sym (fill_by_all (slice_index part) part 512 0 long (λ r low. refl))))

-- ---- the sectors of a whole block

eight : (P : ℕ → Type 0) → P 0 → P 1 → P 2 → P 3 → P 4 → P 5 → P 6 → P 7 → (i : ℕ) → i < 8 → P i
eight P a b c d e f g h zero lt = a
eight P a b c d e f g h (suc zero) lt = b
eight P a b c d e f g h (suc (suc zero)) lt = c
eight P a b c d e f g h (suc (suc (suc zero))) lt = d
eight P a b c d e f g h (suc (suc (suc (suc zero)))) lt = e
eight P a b c d e f g h (suc (suc (suc (suc (suc zero))))) lt = f
eight P a b c d e f g h (suc (suc (suc (suc (suc (suc zero)))))) lt = g
eight P a b c d e f g h (suc (suc (suc (suc (suc (suc (suc zero))))))) lt = h
eight P a b c d e f g h (suc (suc (suc (suc (suc (suc (suc (suc i)))))))) lt = absurd (omega (arith, lt))

-- what a read tells of a sector that can't be read
pub told_lost : (is : Bool) (out : List ℕ) (sector : Sector) → is ≡ false → Tells is out sector → sector ≡ unreadable
told_lost false out sector lost told = told
told_lost true out sector lost told = cc

short : (sector : Sector) → IsSector sector → length sector ≤ 512
short sector (inl whole) = omega (arith, whole)
short sector (inr lost) = let none : length sector ≡ 0 = ap length lost in omega (arith, none)

module _ (sectors : ℕ → Sector) (place : ℕ) (are : (i : ℕ) → i < 8 → IsSector (sectors (8 * place + i))) (size : length (blocks_of sectors place) ≡ 4096) where
  abbrev at : ℕ → ℕ
  at i = length (sectors (8 * place + i))

  low : (i : ℕ) → i < 8 → at i ≤ 512
  low i lt = short (sectors (8 * place + i)) (are i lt)

  sum : at 0 + (at 1 + (at 2 + (at 3 + (at 4 + (at 5 + (at 6 + at 7)))))) ≡ 4096
  unfolding blocks_of
  sum =
      let first : at 0 ≡ length (sectors (8 * place)) = ap (λ n. length (sectors n)) (omega arith) in
      let all : length (blocks_of sectors place) ≡ length (sectors (8 * place)) + (at 1 + (at 2 + (at 3 + (at 4 + (at 5 + (at 6 + at 7)))))) = simp length-append refl in
      omega (arith, first, all, size)

  -- a block of 4,096 bytes has eight whole sectors
  pub whole_sectors : (i : ℕ) → i < 8 → length (sectors (8 * place + i)) ≡ 512
  whole_sectors i lt =
      let all = sum in
      let a = low 0 (omega arith) in
      let b = low 1 (omega arith) in
      let c = low 2 (omega arith) in
      let d = low 3 (omega arith) in
      let e = low 4 (omega arith) in
      let f = low 5 (omega arith) in
      let g = low 6 (omega arith) in
      let h = low 7 (omega arith) in
      eight (λ k. at k ≡ 512) (omega (arith, all, a, b, c, d, e, f, g, h)) (omega (arith, all, a, b, c, d, e, f, g, h)) (omega (arith, all, a, b, c, d, e, f, g, h)) (omega (arith, all, a, b, c, d, e, f, g, h))
      (omega (arith, all, a, b, c, d, e, f, g, h)) (omega (arith, all, a, b, c, d, e, f, g, h)) (omega (arith, all, a, b, c, d, e, f, g, h)) (omega (arith, all, a, b, c, d, e, f, g, h)) i lt
