-- The changed inode file.
use Rattle.std.specs.Prelude.{ℕ, ◌≡◌, ◌+◌, ◌*◌, ◌/◌, ◌%◌, List, ◌++◌, length, take, drop, Some, ◌==◌, if◌then◌else◌}
use Rattle.layout.specs.declared.TheConstants.{BLOCK_BYTES, INODE_BYTES, INODES_PER_BLOCK}
use Rattle.images.specs.Nodes.{Held}
use Rattle.images.specs.Overlays.{Overlay, overlaid_block}

-- a block with these bytes from one place on
abbrev pub spliced_at : ℕ → List ℕ → List ℕ → List ℕ
spliced_at at bytes block = take at block ++ (bytes ++ drop (at + length bytes) block)

-- the changed inode file with these bytes for inode n
abbrev pub with_inode : Held → Overlay → ℕ → List ℕ → Overlay
with_inode h c n bytes = record c {
  block = λ i.
      if i == n / INODES_PER_BLOCK
      then Some (spliced_at (INODE_BYTES * (n % INODES_PER_BLOCK)) bytes (overlaid_block h c i))
      else c.block i;
}

-- the bytes are of an inode's length, and the block that has the place of inode n is a whole one
pub record FitsPlace (h : Held) (c : Overlay) (n : ℕ) (bytes : List ℕ) : Type 0 where
  pub block : length (overlaid_block h c (n / INODES_PER_BLOCK)) ≡ BLOCK_BYTES
  pub inode : length bytes ≡ INODE_BYTES
