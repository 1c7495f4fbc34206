-- Whole sectors written to a disk, and the gates of the halves closed.
use Rattle.std.proofs.Common.{◌≡◌, ◌≢◌, inl, inr, ℕ, ◌+◌, ◌-◌, ◌*◌, ◌<◌, ◌≤◌, true, false, List, [], ◌∷◌, length, take, drop, ap, sym, ◌∙◌, subst, arith, take_all}
use Rattle.std.proofs.lemmas.Bool.{cases_eq, cond-true, cond-false}
use Rattle.std.proofs.lemmas.Bool.Decides.{nat_tests}
use Rattle.station.specs.Images.{Images, part_of, reaches, disk_with, nvram_with, SectorsWritten}
use Rattle.layout.specs.Log.{half_at, IsClosed}
use Rattle.layout.specs.declared.TheConstants.{SLOT_A, SLOT_B}
use Rattle.oplog.proofs.Halves.{same_half, other_half, length-nvram_with}
use Rattle.oplog.proofs.Records.{header_closed}
use Rattle.making.specs.Images.{HasClosedHalves}

reaches_it : (n : ℕ) (bytes : List ℕ) → length bytes ≡ 512 → reaches n bytes n ≡ true
reaches_it n bytes size = grind (arith, nat_tests)

reaches_no_other : (n k : ℕ) (bytes : List ℕ) → length bytes ≡ 512 → k ≢ n → reaches n bytes k ≡ false
reaches_no_other n k bytes size other = grind (arith, nat_tests)

-- a sector that was written
pub written_there : (n : ℕ) (bytes : List ℕ) (disk : ℕ → List ℕ) → length bytes ≡ 512 → disk_with n bytes disk n ≡ bytes
written_there n bytes disk size =
    let none : 512 * (n - n) ≡ 0 = omega arith in
    cond-true (reaches n bytes n) (part_of n bytes n) (disk n) (reaches_it n bytes size)
    ∙ ap (λ (k : ℕ). take 512 (drop k bytes)) none ∙ take_all 512 bytes (omega arith)

-- and any other
pub written_elsewhere : (n k : ℕ) (bytes : List ℕ) (disk : ℕ → List ℕ) → length bytes ≡ 512 → k ≢ n → disk_with n bytes disk k ≡ disk k
written_elsewhere n k bytes disk size other = cond-false (reaches n bytes k) (part_of n bytes k) (disk k) (reaches_no_other n k bytes size other)

-- both slots written, one after the other
pub slots_emptied : (old mid new : Images) (empty : List ℕ) → length empty ≡ 512 → SectorsWritten SLOT_A empty old mid → SectorsWritten SLOT_B empty mid new
    → (new.disk 0 ≡ empty) × (new.disk 8 ≡ empty) × (new.nvram ≡ old.nvram)
slots_emptied old mid new empty size first second =
    let disk : (n : ℕ) → new.disk n ≡ disk_with 8 empty (disk_with 0 empty old.disk) n =
    λ n. ap (λ (i : Images). i.disk n) second ∙ ap (λ (i : Images). disk_with 8 empty i.disk n) first in (
      disk 0 ∙ written_elsewhere 8 0 empty (disk_with 0 empty old.disk) size (λ e. absurd (omega (arith, e))) ∙ written_there 0 empty old.disk size,
      disk 8 ∙ written_there 8 empty (disk_with 0 empty old.disk) size,
      ap (λ (i : Images). i.nvram) second ∙ ap (λ (i : Images). i.nvram) first,
    )

-- a closed gate written to half r, at its place in the NVRAM
closed_at : (half r place : ℕ) (nvram : List ℕ) → 1 ≤ half → length nvram ≡ 2 * half → r < 2 → place ≡ half * r → IsClosed (half_at half r (nvram_with place (0 ∷ []) nvram))
closed_at half r place nvram some size low is =
    let at : place ≡ half * r + 0 = is ∙ omega arith in
    subst (λ (p : ℕ). IsClosed (half_at half r (nvram_with p (0 ∷ []) nvram))) (sym at)
    (subst IsClosed (sym (same_half half 0 r nvram (0 ∷ []) size (omega arith) low)) (header_closed (half_at half r nvram)))

-- both gates closed
pub both_closed : (half : ℕ) (nvram : List ℕ) → 1 ≤ half → length nvram ≡ 2 * half → HasClosedHalves half (nvram_with half (0 ∷ []) (nvram_with 0 (0 ∷ []) nvram))
both_closed half nvram some size r low =
    let first = nvram_with 0 (0 ∷ []) nvram in
    let sized : length first ≡ 2 * half = length-nvram_with 0 (0 ∷ []) nvram (omega arith) ∙ size in
    elim (cases_eq r 1) [
      | inl one ↦ subst (λ (q : ℕ). IsClosed (half_at half q (nvram_with half (0 ∷ []) first))) (sym one) (closed_at half 1 half first some sized (omega arith) (omega arith))
      | inr other ↦
          let none : r ≡ 0 = omega arith in
          let place : half ≡ half * 1 + 0 = omega arith in
          let kept : half_at half 0 (nvram_with half (0 ∷ []) first) ≡ half_at half 0 first =
          ap (λ (p : ℕ). half_at half 0 (nvram_with p (0 ∷ []) first)) place ∙ other_half half 0 1 first (0 ∷ []) sized (omega arith) (omega arith) 0 (omega arith) (λ e. absurd (omega (arith, e))) in
          subst (λ (q : ℕ). IsClosed (half_at half q (nvram_with half (0 ∷ []) first))) (sym none)
          (subst IsClosed (sym kept) (closed_at half 0 0 nvram some size (omega arith) (omega arith)))
    ]
