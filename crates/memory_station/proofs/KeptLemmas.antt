-- The parts of writes, and what a power cut keeps of them.
use Rattle.std.proofs.Common.{◌≡◌, ◌⊎◌, inl, inr, ℕ, zero, suc, ◌+◌, ◌-◌, ◌*◌, ◌/◌, ◌%◌, ◌<◌, Bool, true, false, List, [], ◌∷◌, ◌++◌, length, take, refl, ap, sym, ◌∙◌, arith, length-take, append-nil, add-zero, take_all, get_or}
use Rattle.std.specs.Prelude.{nat_le, nat_lt, ◌&&◌, ◌==◌, if◌then◌else◌}
use Rattle.std.proofs.lemmas.Bool.{cases_lt, cases_eq}
use Rattle.std.proofs.lemmas.Bool.Decides.{nat_tests}
use Rattle.std.proofs.lemmas.List.{take_more}
use Rattle.station.specs.Images.{Sector, unreadable, part_of, reaches, disk_with}
use Rattle.station.proofs.DiskLemmas.{cases_reach, reaches-below, reaches-past, reaches-within}
use Rattle.memory_station.specs.Device.{IsOneOf, IsLeftOf}
use Rattle.memory_station.specs.Unsynced.{parts_of, written_to, mark_of, marked, after_mark, kept_value}
use Rattle.memory_station.specs.declared.history.SectorWrite.{SectorWrite}
use Rattle.memory_station.specs.declared.cut_outcome.CutOutcome.{CutOutcome}
use Rattle.memory_station.specs.declared.cut_outcome.Mark.{Mark}
use Rattle.memory_station.specs.declared.cut_outcome.Mark.TheVariants.{Dropped, Kept, Lost}

pub written_to-append : (n : ℕ) (ws vs : List SectorWrite) → written_to n (ws ++ vs) ≡ written_to n ws ++ written_to n vs
unfolding written_to
written_to-append n [] vs = refl
written_to-append n (w ∷ ws) vs = elim (w.sector == n) as (λ b. (if b then w.bytes ∷ written_to n (ws ++ vs) else written_to n (ws ++ vs)) ≡ (if b then w.bytes ∷ written_to n ws else written_to n ws) ++ written_to n vs) [
  | true ↦ ap (λ vs'. w.bytes ∷ vs') (written_to-append n ws vs)
  | false ↦ written_to-append n ws vs
]

-- one of the k sectors from first on
abbrev is_part : ℕ → ℕ → ℕ → Bool
is_part first k n = nat_le first n && nat_lt n (first + k)

-- the values that a write's first parts add to a sector
written_to-parts_of : (first : ℕ) (bytes : List ℕ) (n k : ℕ) → written_to n (parts_of first bytes k) ≡ (if is_part first k n then part_of first bytes n ∷ [] else [])
unfolding written_to
written_to-parts_of first bytes n zero =
    let no : is_part first 0 n ≡ false = grind (arith, nat_tests) in rw no refl
written_to-parts_of first bytes n (suc k) = written_to-append n (parts_of first bytes k) _ ∙ (rw (written_to-parts_of first bytes n k) (
    elim (cases_eq n (first + k)) [
      | inl e ↦
          let before : is_part first k n ≡ false = grind (arith, nat_tests) in
          let now : is_part first (suc k) n ≡ true = grind (arith, nat_tests) in
          let same : (first + k == n) ≡ true = grind (arith, nat_tests) in
          let from : n - first ≡ k = omega arith in
          rw (before, now, same, from) refl
      | inr other ↦
          let now : is_part first (suc k) n ≡ is_part first k n = grind (arith, nat_tests) in
          let same : (first + k == n) ≡ false = grind (arith, nat_tests) in
          rw (now, same) (append-nil _)
    ]))

-- the values that a write of whole sectors adds to a sector
pub written_to-write : (first : ℕ) (bytes : List ℕ) (n : ℕ) → length bytes % 512 ≡ 0 → written_to n (parts_of first bytes (length bytes / 512)) ≡ (if reaches first bytes n then part_of first bytes n ∷ [] else [])
written_to-write first bytes n whole = elim (cases_reach first bytes n) [
  | inl within ↦
      let part : is_part first (length bytes / 512) n ≡ true = grind (arith, nat_tests) in
      written_to-parts_of first bytes n (length bytes / 512) ∙ rw (part, within.2) refl
  | inr off ↦
      let part : is_part first (length bytes / 512) n ≡ false = elim off.0 [ inl below ↦ grind (arith, nat_tests) | inr past ↦ grind (arith, nat_tests) ] in
      written_to-parts_of first bytes n (length bytes / 512) ∙ rw (part, off.1) refl
]

-- a write of one sector
reaches-one : (w : SectorWrite) (n : ℕ) → length w.bytes ≡ 512 → reaches w.sector w.bytes n ≡ (w.sector == n)
reaches-one w n whole = elim (cases_eq w.sector n) [
  | inl e ↦
      let same : (w.sector == n) ≡ true = grind (arith, nat_tests) in
      reaches-within w.sector w.bytes n (omega arith) (omega arith) ∙ sym same
  | inr other ↦
      let differ : (w.sector == n) ≡ false = grind (arith, nat_tests) in
      elim (cases_lt n w.sector) [
        | inl below ↦ reaches-below w.sector w.bytes n below ∙ sym differ
        | inr from ↦ reaches-past w.sector w.bytes n (omega arith) ∙ sym differ
      ]
]

-- a disk after a write of one sector
pub disk_with-one : (w : SectorWrite) (disk : ℕ → Sector) (n : ℕ) → length w.bytes ≡ 512 → disk_with w.sector w.bytes disk n ≡ (if w.sector == n then w.bytes else disk n)
disk_with-one w disk n whole = rw (reaches-one w n whole) (elim (cases_eq w.sector n) [
  | inl e ↦
      let same : (w.sector == n) ≡ true = grind (arith, nat_tests) in
      let none : 512 * (n - w.sector) ≡ 0 = omega arith in
      rw (same, none) (take_all 512 w.bytes (omega arith))
  | inr other ↦
      let differ : (w.sector == n) ≡ false = grind (arith, nat_tests) in
      rw differ refl
])

-- one write more
pub kept_value-push : (keep : CutOutcome) (i : ℕ) (ws : List SectorWrite) (w : SectorWrite) (n : ℕ) (value : Sector) → kept_value keep i (ws ++ w ∷ []) n value ≡ after_mark (mark_of keep (i + length ws)) w n (kept_value keep i ws n value)
unfolding kept_value
kept_value-push keep i [] w n value = rw add-zero refl
kept_value-push keep i (x ∷ ws) w n value =
    let e : suc i + length ws ≡ i + suc (length ws) = omega arith in
    rw (← e) (kept_value-push keep (suc i) ws w n (after_mark (mark_of keep i) x n value))

-- what these writes left of a sector is what it held, or one of them, or what can't be read where there is one
abbrev IsKept : Sector → Sector → List Sector → Type 0
IsKept x value written = IsOneOf x (value ∷ written) ⊎ ((x ≡ unreadable) × (0 < length written))

-- the same after a write before them
IsKept-earlier : (x : Sector) (mark : Mark) (bytes value : Sector) (written : List Sector) → IsKept x (marked mark bytes value) written → IsKept x value (bytes ∷ written)
IsKept-earlier x Dropped bytes value written (inl (inl e)) = inl (inl e)
IsKept-earlier x Dropped bytes value written (inl (inr later)) = inl (inr (inr later))
IsKept-earlier x Kept bytes value written (inl one) = inl (inr one)
IsKept-earlier x Lost bytes value written (inl (inl e)) = inr (e, omega arith)
IsKept-earlier x Lost bytes value written (inl (inr later)) = inl (inr (inr later))
IsKept-earlier x Dropped bytes value written (inr lost) = inr (lost.0, omega arith)
IsKept-earlier x Kept bytes value written (inr lost) = inr (lost.0, omega arith)
IsKept-earlier x Lost bytes value written (inr lost) = inr (lost.0, omega arith)

kept_value-kept : (keep : CutOutcome) (i : ℕ) (ws : List SectorWrite) (n : ℕ) (value : Sector) → IsKept (kept_value keep i ws n value) value (written_to n ws)
unfolding kept_value written_to
kept_value-kept keep i [] n value = inl (inl refl)
kept_value-kept keep i (w ∷ ws) n value =
    elim (w.sector == n) as (λ b. IsKept (kept_value keep (suc i) ws n (if b then marked (mark_of keep i) w.bytes value else value)) value (if b then w.bytes ∷ written_to n ws else written_to n ws)) [
      | true ↦ IsKept-earlier _ (mark_of keep i) w.bytes value (written_to n ws) (kept_value-kept keep (suc i) ws n (marked (mark_of keep i) w.bytes value))
      | false ↦ kept_value-kept keep (suc i) ws n value
    ]

-- a cut may leave it
pub kept_value-left : (keep : CutOutcome) (ws : List SectorWrite) (n : ℕ) (value : Sector) → IsLeftOf (kept_value keep 0 ws n value) (value ∷ written_to n ws)
kept_value-left keep ws n value = elim (kept_value-kept keep 0 ws n value) [ inl one ↦ inl one | inr lost ↦ inr (lost.0, omega (arith, lost.1)) ]

-- after the i-th of the writes
pub kept_value-more : (keep : CutOutcome) (ws : List SectorWrite) (i : ℕ) (d : SectorWrite) (n : ℕ) (start disk : Sector) → i < length ws → disk ≡ kept_value keep 0 (take i ws) n start → after_mark (mark_of keep i) (get_or ws i d) n disk ≡ kept_value keep 0 (take (i + 1) ws) n start
kept_value-more keep ws i d n start disk lt before =
    let place : 0 + length (take i ws) ≡ i = simp length-take (omega arith) in
    rw (take_more ws i d lt, kept_value-push keep 0 (take i ws) (get_or ws i d) n start, place, ← before) refl
