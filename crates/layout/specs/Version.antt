-- What differs from one version of the formats to the next. The grammar is that of the newest one
-- everywhere: a root of the first version has smaller values.
use Rattle.std.specs.Prelude.{ℕ, ◌≤◌, ◌==◌, if◌then◌else◌}
use Rattle.layout.specs.Trees.{greatest_size}
use Rattle.layout.specs.declared.TheConstants.{SINGLE_BYTES}
use Rattle.layout.specs.declared.trees.Layout.{Layout}
use Rattle.layout.specs.declared.trees.Layout.TheVariants.{Plain, Summed}
use Rattle.layout.specs.declared.version.TheConstants.{FIRST_SLOTS, FIRST_VERSION, SNAPSHOT_SLOTS, SUMMED_VERSION, VERSION}

-- a version that is read
pub record IsVersion (version : ℕ) : Type 0 where
  pub least : FIRST_VERSION ≤ version
  pub most : version ≤ VERSION

-- the layout of a version's trees
abbrev pub layout_of : ℕ → Layout
layout_of version = if version == SUMMED_VERSION then Summed else Plain

-- the greatest size of a file under a root of this version, in bytes
abbrev pub greatest_under : ℕ → ℕ
greatest_under version = if version == FIRST_VERSION then SINGLE_BYTES else greatest_size (layout_of version)

-- the slots of snapshots that a root has; those behind them are free
abbrev pub snapshot_slots : ℕ → ℕ
snapshot_slots version = if version == FIRST_VERSION then FIRST_SLOTS else SNAPSHOT_SLOTS
