-- The tree of a snapshot in memory.
use Rattle.std.specs.Prelude.{ℕ, ◌≡◌, Bool, true, false, List, Option, Some, None, IfSome}
use Rattle.layout.specs.Limits.{Sizes}
use Rattle.layout.specs.StateLimits.{limits_of}
use Rattle.layout.specs.Places.{Blocks}
use Rattle.layout.specs.declared.inode.Inode.{Inode}
use Rattle.layout.specs.declared.root.Root.{Root}
use Rattle.model.specs.Paths.{Name}
use Rattle.model.specs.Records.{without_orphans}
use Rattle.model.specs.Trees.{Tree}
use Rattle.model.specs.Volumes.{IsVolume, Volume, tree_of}
use Rattle.buffers.specs.declared.blocks.Blocks.{Ghosts}
use Rattle.inofile.specs.Volumes.{IsVolumeOf}
use Rattle.inofile.specs.declared.inode_file.InodeFile.{InodeFile}
use Rattle.images.specs.Roots.{whole}
use Rattle.images.specs.States.{Holds}
use Rattle.snapshots.specs.Found.{named}
use Rattle.system.specs.declared.snapshot_view.View.{View}

-- Inodes in memory stand for the volume of the tree that the snapshot of this name has, over a disk
-- of these sizes.
pub record StandsForSnapshot (disk : Blocks) (sizes : Sizes) (snapshots : List (Name × Tree)) (name : Name) (inodes : InodeFile) : Type 0 where
  pub volume : Volume
  pub geometry : inodes.geometry ≡ sizes
  pub is : IsVolume (limits_of inodes.geometry) volume
  pub listed : named name snapshots ≡ Some (name, tree_of (without_orphans volume) (λ d. None))
  pub settled : ℕ → Inode
  pub stands : IsVolumeOf sizes.blocks disk settled inodes volume

-- a view that is kept, if one is, is what loading it anew would give
abbrev pub ShowsSnapshot : Blocks → Sizes → List (Name × Tree) → Option View → Type 0
ShowsSnapshot disk sizes snapshots kept = IfSome kept (λ view. StandsForSnapshot disk sizes snapshots view.name.items view.inodes)

-- what was loaded by a name: nothing where no snapshot has it
abbrev pub LoadsView : Blocks → Sizes → List (Name × Tree) → Name → Option View → Type 0
LoadsView disk sizes snapshots name None = named name snapshots ≡ None
LoadsView disk sizes snapshots name (Some view) = (view.name.items ≡ name) × StandsForSnapshot disk sizes snapshots name view.inodes

-- the view that is kept is that of a name, or no snapshot has it
abbrev pub KeepsView : Blocks → Sizes → List (Name × Tree) → Name → Option View → Bool → Type 0
KeepsView disk sizes snapshots name kept false = named name snapshots ≡ None
KeepsView disk sizes snapshots name None true = ⊥
KeepsView disk sizes snapshots name (Some view) true = StandsForSnapshot disk sizes snapshots name view.inodes

-- this holds of each disk that a root holds snapshots on
abbrev pub OnSnapshots : {B : Type 0} → Ghosts B → B → Root → (Blocks → List (Name × Tree) → Type 0) → Type 0
OnSnapshots G blocks root P =
    (disk : Blocks) → G.Shows blocks disk → (v : Volume) (snapshots : List (Name × Tree)) → Holds root (whole disk root) v snapshots → P disk snapshots

-- and of those that a kept view shows one of
abbrev pub OnShown : {B : Type 0} → Ghosts B → B → Root → Option View → (Blocks → List (Name × Tree) → Type 0) → Type 0
OnShown G blocks root kept P = OnSnapshots G blocks root (λ disk snapshots. ShowsSnapshot disk root.geometry snapshots kept → P disk snapshots)
