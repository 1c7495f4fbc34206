-- The snapshots of a root in the order of their order numbers.
use Rattle.std.specs.Prelude.{ℕ, ◌≡◌, ◌<◌, ◌≤◌, ◌^◌, nat_lt, Option, Some, None, if◌then◌else◌, slice_index_or}
use Rattle.layout.specs.Places.{Blocks}
use Rattle.layout.specs.Pointer.{PointsBelow}
use Rattle.layout.specs.SnapRoot.{Snapshot}
use Rattle.layout.specs.declared.trees.Layout.{Layout}
use Rattle.layout.specs.declared.pointer.Pointer.{Pointer}
use Rattle.layout.specs.declared.pointer.Pointer.TheVariants.{Hole, Block}
use Rattle.layout.specs.declared.root.Root.{Root}
use Rattle.snapshots.specs.Found.{SpellsSnapshot}
use Rattle.snapshots.specs.declared.listing.Next.{Next}

-- in an image of this layout a pointer leads to this root block, which spells a snapshot of this
-- order number, above another one
pub record IsOver (layout : Layout) (disk : Blocks) (p : Pointer) (above : ℕ) (next : Next) : Type 0 where
  pub there : p ≡ Block next.place
  pub snapshot : Snapshot
  pub spells : SpellsSnapshot layout disk p snapshot
  pub order : snapshot.order ≡ next.order
  pub above_it : above < next.order

-- its root block is one of a disk of so many, and its order number above this one and in its limits
pub record IsHigher (blocks above : ℕ) (next : Next) : Type 0 where
  pub place : PointsBelow blocks (Block next.place)
  pub above_it : above < next.order
  pub last : next.order < 2 ^ 62

-- the one with the least order number
abbrev pub LeastOf : Option Next → Option Next → Option Next
LeastOf None other = other
LeastOf (Some a) None = Some a
LeastOf (Some a) (Some b) = if nat_lt b.order a.order then Some b else Some a

-- Of a root's first n slots, the snapshot with the least order number above this one; none, where
-- all are no higher.
abbrev pub IsLeastAbove : Blocks → Root → ℕ → ℕ → Option Next → Type 0
IsLeastAbove disk r above n None =
    (j : ℕ) (s : Snapshot) → j < n → SpellsSnapshot r.geometry.layout disk (slice_index_or r.snapshots j Hole) s
    → s.order ≤ above
IsLeastAbove disk r above n (Some next) =
    ((k : ℕ) × (k < n) × IsOver r.geometry.layout disk (slice_index_or r.snapshots k Hole) above next)
    × ((j : ℕ) (s : Snapshot) → j < n → SpellsSnapshot r.geometry.layout disk (slice_index_or r.snapshots j Hole) s
    → above < s.order → next.order ≤ s.order)
