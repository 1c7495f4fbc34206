-- The snapshots of a root.
use Rattle.std.specs.Prelude.{ℕ, ◌≡◌, ◌≤◌, ◌<◌, List, [], ◌∷◌, Some, None}
use Rattle.layout.specs.StateLimits.{limits_of}
use Rattle.model.specs.declared.limits.Limits.{Limits}
use Rattle.layout.specs.Inode.{IsInode}
use Rattle.layout.specs.SnapRoot.{Snapshot, IsSnapshot, snapshot_in, snapshot_bytes}
use Rattle.layout.specs.declared.pointer.Pointer.TheVariants.{Block}
use Rattle.layout.specs.declared.root.Root.{Root}
use Rattle.model.specs.Paths.{Name}
use Rattle.model.specs.Records.{without_orphans}
use Rattle.model.specs.Trees.{Tree}
use Rattle.model.specs.Volumes.{Volume, IsVolume, tree_of}
use Rattle.images.specs.Roots.{HeldTree, Whole, slot}
use Rattle.images.specs.Contents.{HoldsVolume, tree_contents}

-- slot k has the root block of this snapshot
pub record HasSnapshot (r : Root) (w : Whole) (k : ℕ) (s : Snapshot) : Type 0 where
  pub block : ℕ
  pub there : slot r k ≡ Block block
  pub read : snapshot_in r.geometry.layout (w.head k) ≡ Some s

-- a snapshot root block in its grammar, also by the root's sizes, and no newer than the root
pub record FitsRoot (r : Root) (bytes : List ℕ) (s : Snapshot) : Type 0 where
  pub is : IsSnapshot s
  pub spelled : bytes ≡ snapshot_bytes s
  pub order : s.order ≤ r.generation
  pub inode_file : IsInode r.geometry s.inode_file

-- each slot that isn't free has a snapshot, no two of one name or of one order number
pub record AreSnapshots (r : Root) (w : Whole) : Type 0 where
  pub each : (k block : ℕ) → slot r k ≡ Block block
      → (s : Snapshot) × HasSnapshot r w k s × FitsRoot r (w.head k) s
  pub names : (k l : ℕ) (s q : Snapshot) → HasSnapshot r w k s → HasSnapshot r w l q
      → s.name ≡ q.name → k ≡ l
  pub orders : (k l : ℕ) (s q : Snapshot) → HasSnapshot r w k s → HasSnapshot r w l q
      → s.order ≡ q.order → k ≡ l

-- The snapshot in slot k has the least order number above this one.
pub record IsNext (r : Root) (w : Whole) (above k : ℕ) (s : Snapshot) : Type 0 where
  pub has : HasSnapshot r w k s
  pub above_it : above < s.order
  pub least : (l : ℕ) (q : Snapshot) → HasSnapshot r w l q → above < q.order → s.order ≤ q.order

-- the tree of a snapshot: that of its volume, without the files that had no name
abbrev pub IsFrozenTree : Limits → HeldTree → Tree → Type 0
IsFrozenTree limits t tree =
    (v : Volume) × HoldsVolume limits.inodes (tree_contents t) v × IsVolume limits v
    × (tree ≡ tree_of (without_orphans v) (λ d. None))

-- the names and trees of the snapshots with order numbers above this one, oldest first
abbrev pub AreKeptAbove : Root → Whole → ℕ → List (Name × Tree) → Type 0
AreKeptAbove r w above [] = (k : ℕ) (s : Snapshot) → HasSnapshot r w k s → s.order ≤ above
AreKeptAbove r w above (pair ∷ pairs) =
    (k : ℕ) × (s : Snapshot) × IsNext r w above k s × (pair.0 ≡ s.name)
    × IsFrozenTree (limits_of r.geometry) (w.frozen k) pair.1 × AreKeptAbove r w s.order pairs

-- the names and trees of all snapshots, oldest first
abbrev pub AreKept : Root → Whole → List (Name × Tree) → Type 0
AreKept r w pairs = AreKeptAbove r w 0 pairs
