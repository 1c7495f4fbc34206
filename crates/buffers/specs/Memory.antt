-- Blocks of a disk in memory.
use Rattle.std.specs.Prelude.{ℕ, ◌≡◌, ◌⊎◌, Some}
use Rattle.std.specs.Ordering.{nat_cmp}
use Rattle.std.specs.BTreeMap.{get}
use Rattle.buffers.specs.declared.block.Block.{Block}
use Rattle.buffers.specs.declared.block_cache.BlockCache.{BlockCache}
use Rattle.buffers.specs.Caches.{cached}

-- a place's block is in memory, in use or in the cache
abbrev pub Has : BlockCache → ℕ → Block → Type 0
Has kept place block = (get nat_cmp kept.held place ≡ Some block) ⊎ (cached kept.cache place ≡ Some block)

-- none comes into memory
abbrev pub Loses : BlockCache → BlockCache → Type 0
Loses old new = (place : ℕ) (block : Block) → Has new place block → Has old place block
