-- A disk with the blocks of a plan written, one after the other.
use Rattle.std.proofs.Common.{◌≡◌, ◌≢◌, ℕ, zero, suc, ◌+◌, ◌<◌, List, [], ◌∷◌, length, take, get_or, true, false, eqb, add-one, refl, ap, sym, ◌∙◌, arith}
use Rattle.std.specs.Prelude.{All}
use Rattle.std.proofs.lemmas.Bool.Decides.{nat_tests}
use Rattle.buffers.specs.Disks.{disk_with_block}
use Rattle.conspoint.specs.declared.plan.PlannedBlock.{PlannedBlock}
use Rattle.conspoint.specs.Plans.{AreApart}
use Rattle.conspoint.specs.Cuts.{disk_with_blocks}

more_of : (blocks : List PlannedBlock) (at : ℕ) (d : PlannedBlock) (disk : ℕ → List ℕ) → at < length blocks
    → disk_with_block (get_or blocks at d).place (get_or blocks at d).bytes (disk_with_blocks (take at blocks) disk) ≡ disk_with_blocks (take (suc at) blocks) disk
unfolding disk_with_blocks
more_of [] at d disk lt = absurd (omega arith)
more_of (b ∷ blocks) zero d disk lt = refl
more_of (b ∷ blocks) (suc at) d disk lt = more_of blocks at d (disk_with_block b.place b.bytes disk) (omega arith)

-- one block more
pub disk_more : (blocks : List PlannedBlock) (at : ℕ) (b : PlannedBlock) (disk : ℕ → List ℕ) → b ≡ get_or blocks at b → at < length blocks
    → disk_with_block b.place b.bytes (disk_with_blocks (take at blocks) disk) ≡ disk_with_blocks (take (at + 1) blocks) disk
disk_more blocks at b disk is lt =
    ap (λ (x : PlannedBlock). disk_with_block x.place x.bytes (disk_with_blocks (take at blocks) disk)) is ∙ more_of blocks at b disk lt
    ∙ ap (λ k. disk_with_blocks (take k blocks) disk) (sym (add-one at))

pub beside : (disk : ℕ → List ℕ) (place n : ℕ) (bytes : List ℕ) → place ≢ n → disk_with_block place bytes disk n ≡ disk n
beside disk place n bytes other = rw (apart n place other) refl
  where
    apart : (n place : ℕ) → place ≢ n → eqb n place ≡ false
    apart n place other = grind (arith, nat_tests)

pub there : (disk : ℕ → List ℕ) (place : ℕ) (bytes : List ℕ) → disk_with_block place bytes disk place ≡ bytes
there disk place bytes = rw (same place) refl
  where
    same : (place : ℕ) → eqb place place ≡ true
    same place = grind (arith, nat_tests)

-- of those that are left
rest : (P : PlannedBlock → Type 0) (b : PlannedBlock) (blocks : List PlannedBlock) → All P (b ∷ blocks) → All P blocks
rest P b blocks all k d lt = all (suc k) d (omega arith)

pub others : (blocks : List PlannedBlock) (disk : ℕ → List ℕ) (n : ℕ) → All (λ b. b.place ≢ n) blocks → disk_with_blocks blocks disk n ≡ disk n
unfolding disk_with_blocks
others [] disk n none = refl
others (b ∷ blocks) disk n none =
    others blocks (disk_with_block b.place b.bytes disk) n (rest (λ x. x.place ≢ n) b blocks none) ∙ beside disk b.place n b.bytes (none 0 b (omega arith))

pub has : (blocks : List PlannedBlock) (disk : ℕ → List ℕ) → AreApart blocks → All (λ b. disk_with_blocks blocks disk b.place ≡ b.bytes) blocks
unfolding disk_with_blocks
has [] disk apart k d lt = absurd (omega arith)
has (b ∷ blocks) disk apart zero d lt =
    others blocks (disk_with_block b.place b.bytes disk) b.place (λ k x low same. apart 0 (suc k) x (omega arith) (omega arith) (sym same)) ∙ there disk b.place b.bytes
has (b ∷ blocks) disk apart (suc k) d lt = has blocks (disk_with_block b.place b.bytes disk) (λ i j x less low. apart (suc i) (suc j) x (omega arith) (omega arith)) k d (omega arith)
