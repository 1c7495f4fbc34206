-- The sectors of a disk's bytes, and those that a write reaches.
use Rattle.std.proofs.Common.{◌≡◌, ◌⊎◌, inl, inr, ℕ, ◌+◌, ◌-◌, ◌*◌, ◌%◌, ◌<◌, ◌≤◌, true, false, List, length, take, drop, ap, ◌∙◌, arith, length-take, length-drop, length-append}
use Rattle.std.proofs.lemmas.Bool.{cases_lt}
use Rattle.std.proofs.lemmas.Bool.Decides.{nat_tests}
use Rattle.std.proofs.lemmas.List.{same_lists, places}
use Rattle.station.specs.Images.{disk_with, nvram_with, reaches, sectors_of}

pub reaches-below : (first : ℕ) (bytes : List ℕ) (n : ℕ) → n < first → reaches first bytes n ≡ false
reaches-below first bytes n lt = grind (arith, nat_tests)

pub reaches-past : (first : ℕ) (bytes : List ℕ) (n : ℕ) → length bytes ≤ 512 * (n - first) → reaches first bytes n ≡ false
reaches-past first bytes n le = grind (arith, nat_tests)

pub reaches-within : (first : ℕ) (bytes : List ℕ) (n : ℕ) → first ≤ n → 512 * (n - first) < length bytes → reaches first bytes n ≡ true
reaches-within first bytes n le lt = grind (arith, nat_tests)

-- where a write reaches a sector
pub cases_reach : (first : ℕ) (bytes : List ℕ) (n : ℕ) → (first ≤ n × (512 * (n - first) < length bytes) × (reaches first bytes n ≡ true)) ⊎ ((n < first ⊎ (first ≤ n × length bytes ≤ 512 * (n - first))) × (reaches first bytes n ≡ false))
cases_reach first bytes n = elim (cases_lt n first) [
  | inl below ↦ inr (inl below, reaches-below first bytes n below)
  | inr from ↦ elim (cases_lt (512 * (n - first)) (length bytes)) [
    | inl within ↦ inl (from, within, reaches-within first bytes n from within)
    | inr past ↦ inr (inr (from, past), reaches-past first bytes n past)
  ]
]

-- a part of a list after others were written over it: before them, behind them, within them
part-below : (size at from : ℕ) (xs ys : List ℕ) → at + length ys ≤ length xs → from + size ≤ at → take size (drop from (nvram_with at ys xs)) ≡ take size (drop from xs)
part-below size at from xs ys fits below = same_lists _ _ (simp (length-take, length-drop, length-append) (omega arith)) (λ k d h. grind (arith, places))

part-past : (size at from : ℕ) (xs ys : List ℕ) → at + length ys ≤ length xs → at + length ys ≤ from → take size (drop from (nvram_with at ys xs)) ≡ take size (drop from xs)
part-past size at from xs ys fits past = same_lists _ _ (simp (length-take, length-drop, length-append) (omega arith)) (λ k d h. grind (arith, places))

part-within : (size at from : ℕ) (xs ys : List ℕ) → at + length ys ≤ length xs → at ≤ from → from + size ≤ at + length ys → take size (drop from (nvram_with at ys xs)) ≡ take size (drop (from - at) ys)
part-within size at from xs ys fits le within = same_lists _ _ (simp (length-take, length-drop, length-append) (omega arith)) (λ k d h. grind (arith, places))

-- the sectors after a write of whole sectors
pub sectors_of-write : (disk bytes : List ℕ) (first n : ℕ) → 512 * first + length bytes ≤ length disk → length bytes % 512 ≡ 0 → sectors_of (nvram_with (512 * first) bytes disk) n ≡ disk_with first bytes (sectors_of disk) n
sectors_of-write disk bytes first n fits whole = elim (cases_reach first bytes n) [
  | inl within ↦ rw within.2 (part-within 512 (512 * first) (512 * n) disk bytes fits (omega arith) (omega arith) ∙ ap (λ k. take 512 (drop k bytes)) (omega arith))
  | inr off ↦ elim off.0 [
    | inl below ↦ rw off.1 (part-below 512 (512 * first) (512 * n) disk bytes fits (omega arith))
    | inr past ↦ rw off.1 (part-past 512 (512 * first) (512 * n) disk bytes fits (omega arith))
  ]
]
