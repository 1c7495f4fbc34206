-- What the disk of a station reads as, block by block, and what of it is kept in memory.
use Rattle.std.specs.Prelude.{ℕ, ◌≡◌, ◌+◌, ◌-◌, ◌*◌, ◌/◌, ◌^◌, ◌≤◌, ◌==◌, min, List, length, if◌then◌else◌}
use Rattle.station.specs.Images.{Sector, Unchanged}
use Rattle.station.specs.Moments.{Meaning, IsSameStation, MayGrow, Goes}
use Rattle.layout.specs.Places.{blocks_of}
use Rattle.layout.specs.declared.TheConstants.{BLOCK_BYTES}
use Rattle.buffers.specs.Memory.{Has}
use Rattle.buffers.specs.declared.block.Block.{Block}
use Rattle.buffers.specs.declared.block_cache.BlockCache.{BlockCache}

-- these are the bytes of a block of the disk: its eight sectors one behind the other, fewer than a
-- block has where one of them can't be read
abbrev pub IsBlock : (ℕ → Sector) → ℕ → List ℕ → Type 0
IsBlock sectors place bytes = bytes ≡ blocks_of sectors place

-- how many blocks a disk of so many sectors has, as far as 32 bits count them
abbrev pub numbered_blocks : ℕ → ℕ
numbered_blocks sectors = min (sectors / 8) (2 ^ 32 - 1)

-- all sectors of the block can be read
abbrev pub IsWhole : List ℕ → Type 0
IsWhole bytes = length bytes ≡ BLOCK_BYTES

-- each block of a station's disk reads so
abbrev pub IsDisk : Meaning → (ℕ → List ℕ) → Type 0
IsDisk m disk = (place : ℕ) → 8 * place + 8 ≤ m.sectors → IsBlock m.seen.disk place (disk place)

-- over an honest station each block of the disk reads so, and those that are kept are as the disk
-- has them
pub record ShowsDisk (m : Meaning) (kept : BlockCache) (disk : ℕ → List ℕ) : Type 0 where
  pub honest : m.is_honest
  pub reads : IsDisk m disk
  pub kept_is : (place : ℕ) (block : Block) → Has kept place block → block ≡ disk place

-- the disk with a block written anew
abbrev pub disk_with_block : ℕ → List ℕ → (ℕ → List ℕ) → ℕ → List ℕ
disk_with_block place bytes disk b = if b == place then bytes else disk b

-- the disk where the block of a sector is as these sectors have it
abbrev pub disk_with_sector : (ℕ → Sector) → ℕ → (ℕ → List ℕ) → ℕ → List ℕ
disk_with_sector sectors sector disk = disk_with_block (sector / 8) (blocks_of sectors (sector / 8)) disk

-- from one moment to another nothing was done but reading
pub record ReadsOn (old new : Meaning) : Type 0 where
  pub same : IsSameStation old new
  pub writes : new.failed_writes ≡ old.failed_writes
  pub reads : MayGrow old.failed_reads new.failed_reads
  pub goes : Goes Unchanged old new
