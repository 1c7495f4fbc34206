-- The blocks of a file that a change of it falls into, and those that it leaves in part.
use Rattle.std.specs.Prelude.{ℕ, ◌≡◌, ◌≢◌, ◌<◌, ◌≤◌, ◌+◌, ◌*◌, ◌/◌, ◌%◌, ◌⊎◌}
use Rattle.layout.specs.declared.TheConstants.{INLINE_BYTES}

-- a write of so many bytes at an offset falls into block i
pub record IsWritten (offset count i : ℕ) : Type 0 where
  pub above : 4096 * i < offset + count
  pub below : offset < 4096 * i + 4096

-- and leaves some of its bytes as they were
pub record IsPartlyWritten (offset count i : ℕ) : Type 0 where
  pub above : 4096 * i < offset + count
  pub below : offset < 4096 * i + 4096
  pub part : (4096 * i < offset) ⊎ (offset + count < 4096 * i + 4096)

-- a file gets another size within a block that is looked at: bytes of it are cut off, or it stays
-- in the inode
pub record TruncatesBlock (old new : ℕ) : Type 0 where
  pub how : (new < old) ⊎ ((old < new) × (new ≤ INLINE_BYTES))
  pub within : new % 4096 ≢ 0

-- this is the block
abbrev pub EndsIn : ℕ → ℕ → ℕ → Type 0
EndsIn old new i = TruncatesBlock old new × (i ≡ new / 4096)
