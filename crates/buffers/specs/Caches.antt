-- A cache of blocks that may not be made yet.
use Rattle.std.specs.Prelude.{ℕ, Option, Some, None, length, nat_eq}
use Rattle.std.specs.Map.{lookup}
use Rattle.lru.specs.LruCache.{LruCache}
use Rattle.buffers.specs.declared.block.Block.{Block}
use Rattle.buffers.specs.declared.block_cache.TheConstants.{CACHED_BLOCKS}

-- the block that it has of a place
abbrev pub cached : Option (LruCache ℕ Block) → ℕ → Option Block
cached (Some cache) place = lookup (nat_eq place) cache.entries
cached None place = None

-- how many blocks it has
abbrev pub count_cached : Option (LruCache ℕ Block) → ℕ
count_cached (Some cache) = length cache.entries
count_cached None = 0

-- how many it has room for
abbrev pub capacity : Option (LruCache ℕ Block) → ℕ
capacity (Some cache) = cache.cap
capacity None = CACHED_BLOCKS
