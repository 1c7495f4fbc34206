-- The new places of the block map's own blocks.
use Rattle.std.specs.Prelude.{ℕ, ◌≡◌, ◌≢◌, ◌/◌, ◌<◌, ◌+◌, List, length}
use Rattle.layout.specs.declared.pointer.Pointer.{Pointer}
use Rattle.layout.specs.declared.pointer.Pointer.TheVariants.{Hole, Block}
use Rattle.blockmap.specs.Maps.{IsTouched}
use Rattle.conspoint.specs.declared.draft.Draft.{Draft}
use Rattle.conspoint.specs.Drafts.{IsReserved}
use Rattle.conspoint.specs.Groups.{pointer_at}

-- the entry of a block lies in a part of the map that is stored anew
abbrev pub IsInTouchedPart : Draft → ℕ → Type 0
IsInTouchedPart d b = IsTouched d.map.parts.items (b / 1024)

-- Of the map's own nodes, those that moved have reserved places, each its own, and the map has room
-- for the entries of the new place and of the one before.
pub record IsClosedOver (d : Draft) (settled places : List Pointer) : Type 0 where
  pub reserved : (k b : ℕ) → pointer_at places k ≡ Block b → IsReserved d b
  pub new : (k b : ℕ) → pointer_at places k ≡ Block b → IsInTouchedPart d b
  pub old : (k p b : ℕ) → pointer_at places k ≡ Block p → pointer_at settled k ≡ Block b
      → IsInTouchedPart d b
  pub apart : (i k b : ℕ) → pointer_at places i ≡ Block b → pointer_at places k ≡ Block b → i ≡ k

-- each part of the map that is stored anew has a new place
abbrev pub PartsMoved : Draft → List Pointer → Type 0
PartsMoved d places = (k : ℕ) → k < length d.map.parts.items → k < length places
    → IsTouched d.map.parts.items k → pointer_at places k ≢ Hole

-- each indirect block over a block of the map with a new place has one too
abbrev pub OverMoved : Draft → List Pointer → Type 0
OverMoved d places = (k : ℕ) → k < length d.map.parts.items → k < length places
    → length d.map.parts.items + k / 1024 < length places → pointer_at places k ≢ Hole
    → pointer_at places (length d.map.parts.items + k / 1024) ≢ Hole
