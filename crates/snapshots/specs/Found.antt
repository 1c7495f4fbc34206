-- A snapshot that is found by its name.
use Rattle.std.specs.Prelude.{ℕ, ◌≡◌, List, find, bytes_eq, Option, Some, None}
use Rattle.layout.specs.StateLimits.{limits_of}
use Rattle.layout.specs.Places.{Blocks}
use Rattle.layout.specs.SnapRoot.{Snapshot, snapshot_in}
use Rattle.layout.specs.declared.trees.Layout.{Layout}
use Rattle.layout.specs.declared.pointer.Pointer.{Pointer}
use Rattle.layout.specs.declared.pointer.Pointer.TheVariants.{Hole, Block}
use Rattle.layout.specs.declared.root.Root.{Root}
use Rattle.model.specs.Paths.{Name}
use Rattle.model.specs.Trees.{Tree}
use Rattle.images.specs.Roots.{whole}
use Rattle.images.specs.Snapshots.{HasSnapshot, IsFrozenTree}
use Rattle.snapshots.specs.declared.finding.FoundSnapshot.{FoundSnapshot}

-- the block at a pointer spells this snapshot, in an image of this layout
abbrev pub SpellsSnapshot : Layout → Blocks → Pointer → Snapshot → Type 0
SpellsSnapshot layout disk Hole s = ⊥
SpellsSnapshot layout disk (Block b) s = snapshot_in layout (disk b) ≡ Some s

-- the snapshot of this name that was found
abbrev pub snapshot_found : Name → FoundSnapshot → Snapshot
snapshot_found name f = record { order = f.order; name = name; inode_file = f.inode_file }

-- the snapshot of this name among those with their names and trees
abbrev pub named : Name → List (Name × Tree) → Option (Name × Tree)
named name pairs = find (λ pair. bytes_eq pair.0 name) pairs

-- Of the snapshots under a root, slot k has the one of this name, and its tree is the one that the
-- names lead to.
pub record IsNamedSnapshot (r : Root) (disk : Blocks) (name : Name) (pairs : List (Name × Tree)) (k : ℕ) : Type 0 where
  pub tree : Tree
  pub listed : named name pairs ≡ Some (name, tree)
  pub frozen : IsFrozenTree (limits_of r.geometry) ((whole disk r).frozen k) tree

-- What was found under a root by a name: nothing where no snapshot has it, or else the slot of the
-- one that has it.
abbrev pub FindsSnapshot : Root → Blocks → Name → List (Name × Tree) → Option FoundSnapshot → Type 0
FindsSnapshot r disk name pairs None = named name pairs ≡ None
FindsSnapshot r disk name pairs (Some f) =
    HasSnapshot r (whole disk r) f.slot (snapshot_found name f) × IsNamedSnapshot r disk name pairs f.slot
