-- Writes to one half of the NVRAM: what they do to that half, and that the other half stays.
use Rattle.std.proofs.Common.{◌≡◌, ◌≢◌, inl, inr, ℕ, ◌+◌, ◌*◌, ◌<◌, ◌≤◌, List, ◌++◌, length, take, drop, sym, ap, ◌∙◌, arith, append_assoc, length-append, take-append-drop, length-take, length-drop}
use Rattle.std.proofs.Math.Nat.{mul-le-mul_left}
use Rattle.std.proofs.lemmas.Bool.{cases_eq}
use Rattle.std.proofs.lemmas.List.{take_at, drop_at, take-append-le, drop-append-le, length-take-le}
use Rattle.std.proofs.Math.Seq.{take-append-add, drop-append-add}
use Rattle.station.specs.Images.{nvram_with}
use Rattle.layout.specs.Log.{half_at}

pub length-nvram_with : (at : ℕ) (bytes nvram : List ℕ) → at + length bytes ≤ length nvram → length (nvram_with at bytes nvram) ≡ length nvram
length-nvram_with at bytes nvram fits =
    omega (arith, length-append (take at nvram ++ bytes) (drop (at + length bytes) nvram), length-append (take at nvram) bytes, length-take at nvram, length-drop (at + length bytes) nvram)

-- bytes written within the second of three parts
within : (before part after bytes : List ℕ) (start at : ℕ) → length before ≡ start → at + length bytes ≤ length part → nvram_with (start + at) bytes (before ++ (part ++ after)) ≡ before ++ (nvram_with at bytes part ++ after)
within before part after bytes start at begins fits =
    let place : start + at ≡ length before + at = omega arith in
    let end : start + at + length bytes ≡ length before + (at + length bytes) = omega arith in
    let front : take (start + at) (before ++ (part ++ after)) ≡ before ++ take at part =
    ap (λ (n : ℕ). take n (before ++ (part ++ after))) place ∙ take-append-add before (part ++ after) at ∙ ap (λ (l : List ℕ). before ++ l) (take-append-le at part after (omega arith)) in
    let back : drop (start + at + length bytes) (before ++ (part ++ after)) ≡ drop (at + length bytes) part ++ after =
    ap (λ (n : ℕ). drop n (before ++ (part ++ after))) end ∙ drop-append-add before (part ++ after) (at + length bytes) ∙ drop-append-le (at + length bytes) part after fits in
    (λ i. (front i ++ bytes) ++ back i) ∙ simp append_assoc

pub length-half_at : (half r : ℕ) (nvram : List ℕ) → length nvram ≡ 2 * half → r < 2 → length (half_at half r nvram) ≡ half
length-half_at half r nvram size low =
    let within_it : half * r ≤ half * 1 = mul-le-mul_left half (omega arith) in
    length-take-le half (drop (half * r) nvram) (omega (arith, length-drop (half * r) nvram))

-- a write to half r of an NVRAM
module _ (half at r : ℕ) (nvram bytes : List ℕ) (size : length nvram ≡ 2 * half) (fits : at + length bytes ≤ half) (low : r < 2) where
  abbrev before : List ℕ
  before = take (half * r) nvram

  abbrev after : List ℕ
  after = drop half (drop (half * r) nvram)

  start_within : half * r ≤ half
  start_within = let least : half * r ≤ half * 1 = mul-le-mul_left half (omega arith) in omega arith

  whole : before ++ (half_at half r nvram ++ after) ≡ nvram
  whole = ap (λ (l : List ℕ). before ++ l) (take-append-drop half (drop (half * r) nvram)) ∙ take-append-drop (half * r) nvram

  begins : length (before) ≡ half * r
  begins = length-take-le (half * r) nvram (omega (arith, start_within))

  sized : length (half_at half r nvram) ≡ half
  sized = length-half_at half r nvram size low

  shape : nvram_with (half * r + at) bytes nvram ≡ before ++ (nvram_with at bytes (half_at half r nvram) ++ after)
  shape =
      ap (λ (l : List ℕ). nvram_with (half * r + at) bytes l) (sym whole)
      ∙ within (before) (half_at half r nvram) (after) bytes (half * r) at begins (omega (arith, sized))

  sized_still : length (nvram_with at bytes (half_at half r nvram)) ≡ half
  sized_still = length-nvram_with at bytes (half_at half r nvram) (omega (arith, sized)) ∙ sized

  pub same_half : half_at half r (nvram_with (half * r + at) bytes nvram) ≡ nvram_with at bytes (half_at half r nvram)
  same_half =
      let part = nvram_with at bytes (half_at half r nvram) in
      ap (λ (l : List ℕ). take half (drop (half * r) l)) shape
      ∙ ap (λ (l : List ℕ). take half l) (drop_at (before) (part ++ after) (half * r) begins)
      ∙ take_at part after half sized_still

  -- the other half is the first part or the third
  other_part : (q : ℕ) (part : List ℕ) → q < 2 → q ≢ r → length part ≡ half
      → half_at half q (before ++ (part ++ after)) ≡ half_at half q (before ++ (half_at half r nvram ++ after))
  other_part q part low_too differ long = elim (cases_eq r 0) [
    | inl zeroth ↦
        let none : half * r ≡ half * 0 = ap (λ (n : ℕ). half * n) zeroth in
        let one : q ≡ 1 = omega arith in
        let place : half * q ≡ half * 1 = ap (λ (n : ℕ). half * n) one in
        ap (λ (l : List ℕ). take half l) (last part long (half * q) (omega (arith, none, place)) ∙ sym (last (half_at half r nvram) sized (half * q) (omega (arith, none, place))))
    | inr other ↦
        let one : r ≡ 1 = omega arith in
        let all : half * r ≡ half * 1 = ap (λ (n : ℕ). half * n) one in
        let none : q ≡ 0 = omega arith in
        let place : half * q ≡ half * 0 = ap (λ (n : ℕ). half * n) none in
        first part (half * q) (omega (arith, place)) (omega (arith, all)) ∙ sym (first (half_at half r nvram) (half * q) (omega (arith, place)) (omega (arith, all)))
  ]
    where
      last : (p : List ℕ) → length p ≡ half → (n : ℕ) → n ≡ half * r + half → drop n (before ++ (p ++ after)) ≡ after
      last p sized_p n is =
          ap (λ (l : List ℕ). drop n l) (sym (append_assoc (before) p (after)))
          ∙ drop_at (before ++ p) (after) n (omega (arith, length-append (before) p, begins, sized_p, is))

      first : (p : List ℕ) (n : ℕ) → n ≡ 0 → half * r ≡ half → take half (drop n (before ++ (p ++ after))) ≡ before
      first p n none all =
          ap (λ (m : ℕ). take half (drop m (before ++ (p ++ after)))) none
          ∙ take_at (before) (p ++ after) half (begins ∙ all)

  pub other_half : (q : ℕ) → q < 2 → q ≢ r → half_at half q (nvram_with (half * r + at) bytes nvram) ≡ half_at half q nvram
  other_half q low_too differ =
      ap (half_at half q) shape ∙ other_part q (nvram_with at bytes (half_at half r nvram)) low_too differ sized_still ∙ ap (half_at half q) whole

  pub size_stays : length (nvram_with (half * r + at) bytes nvram) ≡ 2 * half
  size_stays = length-nvram_with (half * r + at) bytes nvram (omega (arith, start_within)) ∙ size
