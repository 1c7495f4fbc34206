-- Making the tree that of a snapshot.
use Rattle.std.specs.Prelude.{ℕ, ◌≡◌, ◌*◌, ◌≤◌}
use Rattle.layout.specs.StateLimits.{limits_of}
use Rattle.station.specs.declared.station.Station.{Ghosts}
use Rattle.layout.specs.Places.{Blocks, blocks_of}
use Rattle.layout.specs.SnapRoot.{Snapshot}
use Rattle.layout.specs.declared.root.Root.{Root}
use Rattle.model.specs.Paths.{Name}
use Rattle.model.specs.Records.{count_orphans, without_orphans}
use Rattle.model.specs.Volumes.{IsVolume, Volume}
use Rattle.images.specs.Contents.{HoldsVolume, tree_contents}
use Rattle.images.specs.Roots.{HeldTree, whole}
use Rattle.images.specs.Snapshots.{HasSnapshot}
use Rattle.inofile.specs.Room.{memory_room}
use Rattle.inofile.specs.Volumes.{IsVolumeOf}
use Rattle.inofile.specs.declared.inode_file.InodeFile.{InodeFile}
use Rattle.loading.specs.Images.{inodes_of}
use Rattle.system.specs.Systems.{disk_of}
use Rattle.system.specs.declared.system.System.{System}

-- the tree of a slot
abbrev pub tree_in_slot : Blocks → Root → ℕ → HeldTree
tree_in_slot disk r k = (whole disk r).frozen k

-- Memory stands for what a snapshot's tree holds, without the files that have no name. A
-- consistency point over that tree stores no more for it than these files may cost.
pub record RestoresVolume (disk : Blocks) (r : Root) (k : ℕ) (v : Volume) (inodes : InodeFile) : Type 0 where
  pub stands : IsVolumeOf r.geometry.blocks disk (inodes_of (tree_in_slot disk r k)) inodes (without_orphans v)
  pub few : memory_room v inodes (without_orphans v) ≤ (limits_of r.geometry).costs.orphan * count_orphans r.geometry.inodes v

-- so it does, whatever volume the tree holds
abbrev pub RestoresSlot : Blocks → Root → ℕ → InodeFile → Type 0
RestoresSlot disk r k inodes =
    (v : Volume) → HoldsVolume r.geometry.inodes (tree_contents (tree_in_slot disk r k)) v → IsVolume (limits_of r.geometry) v → RestoresVolume disk r k v inodes

-- so many orphans are in it
abbrev pub CountsKept : Blocks → Root → ℕ → ℕ → Type 0
CountsKept disk r k orphans =
    (v : Volume) → HoldsVolume r.geometry.inodes (tree_contents (tree_in_slot disk r k)) v → IsVolume (limits_of r.geometry) v → orphans ≡ count_orphans r.geometry.inodes v

-- a disk keeps so many orphans under the snapshot of this name that a root has
pub record KeepsOrphansOn (disk : Blocks) (r : Root) (name : Name) (orphans : ℕ) : Type 0 where
  pub slot : ℕ
  pub head : Snapshot
  pub has : HasSnapshot r (whole disk r) slot head
  pub named : head.name ≡ name
  pub volume : Volume
  pub holds : HoldsVolume r.geometry.inodes (tree_contents (tree_in_slot disk r slot)) volume
  pub is : IsVolume (limits_of r.geometry) volume
  pub counted : orphans ≡ count_orphans r.geometry.inodes volume

-- so does the image of a system
abbrev pub KeepsOrphans : {S : Type 0} {G : Ghosts S} → System S G → Name → ℕ → Type 0
KeepsOrphans f name orphans = KeepsOrphansOn (blocks_of (disk_of f)) f.root name orphans
