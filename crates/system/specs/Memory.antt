-- What a mounted system has in memory, over the disk that it reads.
use Rattle.std.specs.Prelude.{ℕ, ◌≡◌}
use Rattle.layout.specs.StateLimits.{limits_of}
use Rattle.layout.specs.Places.{Blocks}
use Rattle.layout.specs.declared.root.Root.{Root}
use Rattle.model.specs.Volumes.{Volume, IsVolume}
use Rattle.blockmap.specs.Maps.{settled_at, entry_at}
use Rattle.blockmap.specs.declared.map.BlockMap.{BlockMap}
use Rattle.inofile.specs.Volumes.{IsVolumeOf}
use Rattle.inofile.specs.declared.inode_file.InodeFile.{InodeFile}
use Rattle.images.specs.BlockMap.{entry}
use Rattle.images.specs.Roots.{HeldTree, whole}
use Rattle.loading.specs.Images.{inodes_of}

-- the map's settled entries are those of a tree's map
abbrev pub HasEntries : HeldTree → BlockMap → Type 0
HasEntries t map = (b : ℕ) → settled_at map.parts.items b ≡ entry t b

-- and so will be those that it is changed to
abbrev pub HasEntriesToCome : HeldTree → BlockMap → Type 0
HasEntriesToCome t map = (b : ℕ) → entry_at map.parts.items b ≡ entry t b

-- The inodes in memory stand for the running volume, over the tree of a root.
pub record IsInMemory (disk : Blocks) (root : Root) (inodes : InodeFile) (running : Volume) : Type 0 where
  pub stands : IsVolumeOf root.geometry.blocks disk (inodes_of (whole disk root).active) inodes
      running
  pub volume : IsVolume (limits_of root.geometry) running
