-- What a file system may hold that stands in these formats.
use Rattle.std.specs.Prelude.{ℕ, ◌+◌, ◌/◌}
use Rattle.model.specs.declared.costs.Costs.{Costs}
use Rattle.model.specs.declared.limits.Limits.{Limits}
use Rattle.layout.specs.Limits.{Sizes}
use Rattle.layout.specs.Trees.{greatest_size, has_attributes}
use Rattle.layout.specs.Version.{greatest_under, snapshot_slots}
use Rattle.layout.specs.declared.TheConstants.{SINGLE_BYTES}
use Rattle.layout.specs.declared.geometry.TheConstants.{LEAST_BLOCKS}
use Rattle.layout.specs.declared.limits.TheConstants.{DIRECTORY_NAMES, FILE_COST, FILE_NAMES, GREAT_FILE_COST, HEADROOM_BLOCKS, MODE_COST, NAMES_COST, ORPHAN_COST, PATH_BYTES, POINT_COST, SUMMED_FILE_COST, SUMMED_HEADROOM_BLOCKS, SUMMED_MODE_COST, SUMMED_NAMES_COST}
use Rattle.layout.specs.declared.trees.Layout.{Layout}
use Rattle.layout.specs.declared.trees.Layout.TheVariants.{Plain, Summed}
use Rattle.layout.specs.declared.version.TheConstants.{SNAPSHOT_SLOTS}

-- the blocks that each consistency point stores whatever changed, on a disk of so many
abbrev pub fixed_of : ℕ → ℕ
fixed_of blocks = (blocks + 1023) / 1024 + POINT_COST

-- a number that is another one in an image whose objects have times
abbrev pub by_layout : Layout → ℕ → ℕ → ℕ
by_layout Plain plain summed = plain
by_layout Summed plain summed = summed

-- What records and consistency points cost on a disk of so many blocks. Where objects have times, a
-- record also touches the inodes of the directories whose names it changes, of what moves and of what
-- that replaces.
abbrev pub costs_of : Layout → ℕ → Costs
costs_of layout blocks = record {
  adds_name = by_layout layout NAMES_COST SUMMED_NAMES_COST;
  removes_name = NAMES_COST;
  file = by_layout layout FILE_COST SUMMED_FILE_COST;
  great_file = by_layout layout GREAT_FILE_COST SUMMED_FILE_COST;
  single_file = SINGLE_BYTES;
  mode = by_layout layout MODE_COST SUMMED_MODE_COST;
  orphan = ORPHAN_COST;
  point = fixed_of blocks;
  headroom = by_layout layout HEADROOM_BLOCKS SUMMED_HEADROOM_BLOCKS;
}

-- the limits of the file system of an image with these sizes
abbrev pub limits_of : Sizes → Limits
limits_of s = record {
  inodes = s.inodes;
  file_bytes = greatest_size s.layout;
  file_names = FILE_NAMES;
  directory_names = DIRECTORY_NAMES;
  path_bytes = PATH_BYTES;
  snapshots = SNAPSHOT_SLOTS;
  least_blocks = LEAST_BLOCKS;
  has_attributes = has_attributes s.layout;
  costs = costs_of s.layout s.blocks;
}

-- what the root of an image may hold by its version: of these limits, or fewer
abbrev pub limits_under : ℕ → Sizes → Limits
limits_under version s = record (limits_of s) { file_bytes = greatest_under version; snapshots = snapshot_slots version }
