-- Records that a replay takes, over volumes whose directories may have any count of names, and
-- whose files may have blocks that can't be read.
use Rattle.std.specs.Prelude.{ℕ, ◌≡◌, ◌≢◌, ◌/◌, ◌<◌, IsSome, List, [], ◌∷◌, length, Option, Some}
use Rattle.layout.specs.declared.TheConstants.{BLOCK_BYTES}
use Rattle.model.specs.Counting.{Counts}
use Rattle.model.specs.Paths.{Name}
use Rattle.model.specs.Records.{Applies, Change, Edit, applied, truncate, rename, set_file, write}
use Rattle.model.specs.Volumes.{Node, Volume, entries, file_node}
use Rattle.model.specs.declared.limits.Limits.{Limits}
use Rattle.images.specs.Edges.{TruncatesBlock, IsPartlyWritten}
use Rattle.images.specs.Sizes.{IsReadBlock}
use Rattle.images.specs.Soundness.{Detail, by_bytes, by_sizes}

-- no limit is passed by a move: the directory that gets the name has place for it, when the names
-- are gone that the move takes away
abbrev pub LeavesPlace : Limits → Volume → Edit → Type 0
LeavesPlace limits v (rename d x k y) =
    (count : ℕ) × Counts (λ (z : Name). IsSome (entries v k z) × (z ≢ y) × (d ≡ k → z ≢ x)) count × (count < limits.directory_names)
LeavesPlace limits v edit = Unit {0}

-- the bytes of a file; other objects have none
abbrev pub bytes_of_node : Option Node → List ℕ
bytes_of_node (Some (file_node attributes links bytes)) = bytes
bytes_of_node o = []

-- the blocks of a file that a change leaves in part can be read
abbrev pub ReadsParts : Volume → Edit → Type 0
ReadsParts v (write n offset bytes) = (i : ℕ) → IsPartlyWritten offset (length bytes) i → IsReadBlock (bytes_of_node (v n)) i
ReadsParts v (truncate n size) = TruncatesBlock (length (bytes_of_node (v n))) size → IsReadBlock (bytes_of_node (v n)) (size / BLOCK_BYTES)
ReadsParts v (set_file n mode size) = TruncatesBlock (length (bytes_of_node (v n))) size → IsReadBlock (bytes_of_node (v n)) (size / BLOCK_BYTES)
ReadsParts v edit = Unit {0}

-- the same, where this isn't known of all blocks
abbrev pub ReadsIn : Detail → Volume → Edit → Type 0
ReadsIn by_bytes v edit = Unit {0}
ReadsIn by_sizes v edit = ReadsParts v edit

-- a record applies to a volume of which no more is known
pub record AppliesWithin (limits : Limits) (v : Volume) (change : Change) : Type 0 where
  pub can : Applies limits v change
  pub place : LeavesPlace limits v change.edit
  pub reads : ReadsParts v change.edit

-- records that apply one after the other lead from one volume to another
abbrev pub ReplaysWithin : Limits → Volume → List Change → Volume → Type 0
ReplaysWithin limits v [] w = w ≡ v
ReplaysWithin limits v (change ∷ changes) w =
    AppliesWithin limits v change × ReplaysWithin limits (applied change v) changes w
