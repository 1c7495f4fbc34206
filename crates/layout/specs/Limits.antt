-- The limits of an image's sizes.
use Rattle.std.specs.Prelude.{ℕ, ◌≤◌}
use Rattle.layout.specs.declared.trees.Layout.{Layout}
use Rattle.layout.specs.declared.geometry.TheConstants.{LEAST_BLOCKS, MOST_BLOCKS, LEAST_INODES, MOST_INODES, LEAST_HALF, MOST_HALF}

-- the layout of the trees, the blocks of the disk, the inode numbers, and the bytes of one half of
-- the NVRAM
pub record Sizes : Type 0 where
  pub layout : Layout
  pub blocks : ℕ
  pub inodes : ℕ
  pub half : ℕ

abbrev pub sizes : Layout → ℕ → ℕ → ℕ → Sizes
sizes layout blocks inodes half = record { layout = layout; blocks = blocks; inodes = inodes; half = half }

pub record AreSizes (s : Sizes) : Type 0 where
  pub least_blocks : LEAST_BLOCKS ≤ s.blocks
  pub most_blocks : s.blocks ≤ MOST_BLOCKS
  pub least_inodes : LEAST_INODES ≤ s.inodes
  pub most_inodes : s.inodes ≤ MOST_INODES
  pub least_half : LEAST_HALF ≤ s.half
  pub most_half : s.half ≤ MOST_HALF
