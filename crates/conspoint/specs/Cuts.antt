-- What a power cut may leave while the blocks of a plan are written, and then its root.
use Rattle.std.specs.Prelude.{ℕ, ◌≡◌, ◌≢◌, ◌⊎◌, ◌+◌, ◌*◌, ◌/◌, ◌≤◌, List, [], ◌∷◌, take, All}
use Rattle.station.specs.Images.{Images, Sector, sector_with, unreadable}
use Rattle.buffers.specs.Disks.{IsBlock, disk_with_block}
use Rattle.buffers.specs.declared.error.BlockError.{BlockError}
use Rattle.buffers.specs.declared.error.BlockError.TheVariants.{Device}
use Rattle.conspoint.specs.declared.plan.PlannedBlock.{PlannedBlock}
use Rattle.conspoint.specs.Plans.{Planned}

-- sector n lies in none of these blocks
abbrev pub IsOutside : List PlannedBlock → ℕ → Type 0
IsOutside blocks n = All (λ b. b.place ≢ n / 8) blocks

-- Nothing changes but what lies in these blocks, and of that no more is said: none of them may be
-- written, or some, or parts of some. So it holds of one write and of any number of them.
pub record StaysOutside (blocks : List PlannedBlock) (old new : Images) : Type 0 where
  pub nvram : new.nvram ≡ old.nvram
  pub disk : (n : ℕ) → IsOutside blocks n → new.disk n ≡ old.disk n

-- these blocks stand on a disk
abbrev pub HoldsBlocks : List PlannedBlock → (ℕ → Sector) → Type 0
HoldsBlocks blocks disk = All (λ b. IsBlock disk b.place b.bytes) blocks

-- those that are written stand there
abbrev pub HoldsWritten : Planned → Images → Type 0
HoldsWritten p c = HoldsBlocks (take p.written p.blocks) c.disk

-- a disk with these blocks written, one after the other
unfoldable pub disk_with_blocks : List PlannedBlock → (ℕ → List ℕ) → ℕ → List ℕ
disk_with_blocks [] disk = disk
disk_with_blocks (b ∷ blocks) disk = disk_with_blocks blocks (disk_with_block b.place b.bytes disk)

-- the disk with those that are written
abbrev pub disk_so_far : Planned → (ℕ → List ℕ) → ℕ → List ℕ
disk_so_far p disk = disk_with_blocks (take p.written p.blocks) disk

-- the images of before, with all the planned blocks and the new root
pub record HasNewRoot (p : Planned) (old new : Images) : Type 0 where
  pub nvram : new.nvram ≡ old.nvram
  pub disk : (n : ℕ) → IsOutside p.blocks n → n ≢ p.slot → new.disk n ≡ old.disk n
  pub blocks : HoldsBlocks p.blocks new.disk
  pub root : new.disk p.slot ≡ sector_with p.root

-- the images of before but for the planned blocks, where the sector of the new root can't be read
pub record LosesSlot (p : Planned) (old new : Images) : Type 0 where
  pub nvram : new.nvram ≡ old.nvram
  pub disk : (n : ℕ) → IsOutside p.blocks n → n ≢ p.slot → new.disk n ≡ old.disk n
  pub lost : new.disk p.slot ≡ unreadable

-- once the write of the root began: the root stands there, or its sector can't be read
abbrev pub HasRootOrLost : Planned → Images → Images → Type 0
HasRootOrLost p old new = HasNewRoot p old new ⊎ LosesSlot p old new

-- each block of a disk of so many sectors reads so
abbrev pub ReadsAs : ℕ → Images → (ℕ → List ℕ) → Type 0
ReadsAs sectors c e = (b : ℕ) → 8 * b + 8 ≤ sectors → IsBlock c.disk b (e b)

-- the error says that a device call failed
abbrev pub IsFault : BlockError → Type 0
IsFault e = e ≡ Device
