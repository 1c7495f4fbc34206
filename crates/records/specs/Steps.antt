-- Steps of a plan: each changes one object in memory.
use Rattle.std.specs.Prelude.{ℕ, ◌≡◌, ◌≢◌, ◌+◌, ◌≤◌, ◌<◌, IsTrue, List, Option, Some, None}
use Rattle.layout.specs.declared.inode.Inode.{Inode}
use Rattle.layout.specs.DirectoryNames.{NameMap}
use Rattle.model.specs.declared.attributes.Attributes.{Attributes}
use Rattle.layout.specs.declared.limits.TheConstants.{FILE_NAMES}
use Rattle.model.specs.declared.limits.TheConstants.{ROOT_NUMBER}
use Rattle.layout.specs.Trees.{has_attributes}
use Rattle.model.specs.Attributes.{set_given}
use Rattle.model.specs.Records.{TakesGiven, with_file_bytes, with_node_attributes, with_node_mode}
use Rattle.model.specs.Volumes.{Node, Volume, file_node, is_file_node, with_node}
use Rattle.inode.specs.declared.object.Object.{Object}
use Rattle.images.specs.Soundness.{Detail}
use Rattle.inofile.specs.Inodes.{HasRoomFor, IsKnown, loaded}
use Rattle.inofile.specs.Objects.{IsObjectOrNone}
use Rattle.inofile.specs.Room.{memory_room}
use Rattle.inofile.specs.Volumes.{IsVolumeIn}
use Rattle.inofile.specs.declared.inode_file.InodeFile.{InodeFile}
use Rattle.records.specs.Contents.{FitsFile, RewritesIn}
use Rattle.records.specs.Entering.{EditsIn, FitsObject, with_node_names}
use Rattle.records.specs.Room.{SomeRoom}
use Rattle.records.specs.declared.steps.ObjectUpdate.{ObjectUpdate}
use Rattle.records.specs.declared.steps.Update.{Update}
use Rattle.records.specs.declared.steps.Update.TheVariants as updates

-- an object, or that there is none, is in memory, with room for a change of it
pub record IsAtHand (s : InodeFile) (number : ℕ) : Type 0 where
  pub low : ROOT_NUMBER ≤ number
  pub high : number < s.geometry.inodes
  pub room : HasRoomFor s number
  pub known : IsKnown s number

-- so is the object of a step, if there is one
abbrev pub IsSomeAtHand : InodeFile → Option ObjectUpdate → Type 0
IsSomeAtHand s None = Unit {0}
IsSomeAtHand s (Some step) = IsAtHand s step.number

-- an object has room for what an update sets
abbrev pub FitsUpdate : Option Object → Update → Type 0
FitsUpdate o (updates.Names edit) = FitsObject o edit
FitsUpdate o (updates.Bytes change mode) = FitsFile o change
FitsUpdate o update = Unit {0}

-- the object of this number is at hand, with room for what an update sets
pub record TakesUpdate (s : InodeFile) (number : ℕ) (update : Update) : Type 0 where
  pub at_hand : IsAtHand s number
  pub fits : FitsUpdate (loaded s number) update

-- an update doesn't depend on what the object of this number is in memory
abbrev pub IsApart : ℕ → ℕ → Update → Type 0
IsApart n number (updates.Names edit) = number ≢ n
IsApart n number (updates.Bytes change mode) = number ≢ n
IsApart n number update = Unit {0}

-- an update that doesn't depend on any object in memory
abbrev pub IsAlone : Update → Type 0
IsAlone (updates.Names edit) = ⊥
IsAlone (updates.Bytes change mode) = ⊥
IsAlone update = Unit {0}

-- memory has room for a step, if there is one
abbrev pub TakesSome : InodeFile → Option ObjectUpdate → Type 0
TakesSome s None = Unit {0}
TakesSome s (Some step) = TakesUpdate s step.number step.update

-- a step, if there is one, doesn't depend on what the object of this number is in memory
abbrev pub IsSomeApart : ℕ → Option ObjectUpdate → Type 0
IsSomeApart n None = Unit {0}
IsSomeApart n (Some step) = IsApart n step.number step.update

-- a step, if there is one, isn't of this number
abbrev pub IsBeside : ℕ → Option ObjectUpdate → Type 0
IsBeside n None = Unit {0}
IsBeside n (Some step) = step.number ≢ n

-- a file that has so many names
abbrev pub IsFileWithLinks : ℕ → Option Node → Type 0
IsFileWithLinks links found =
    (attributes : Attributes) × (bytes : List ℕ) × (found ≡ Some (file_node attributes links bytes))

-- a file with so many names
abbrev pub with_node_links : ℕ → Option Node → Option Node
with_node_links links (Some (file_node attributes old bytes)) = Some (file_node attributes links bytes)
with_node_links links o = o

-- an object with this mode, where one is given
abbrev pub with_given_mode : Option ℕ → Option Node → Option Node
with_given_mode None o = o
with_given_mode (Some mode) o = with_node_mode mode o

-- An update makes one object of a volume of another, or of none, in so much detail; in memory it is
-- this one, or none.
abbrev pub Updates : Detail → (ℕ → List ℕ) → ℕ → Inode → Option Node → Option Object → Update → Option Node → Type 0
Updates detail disk inodes settled found o (updates.Set object) to = IsObjectOrNone detail disk inodes settled object to
Updates detail disk inodes settled found o (updates.Names edit) to =
    (f : NameMap → NameMap) × EditsIn disk inodes f found o edit × (to ≡ with_node_names f found)
Updates detail disk inodes settled found o (updates.Attributes permissions modified) to =
    TakesGiven (has_attributes settled.layout) found permissions modified
    × (to ≡ with_node_attributes (set_given permissions modified) found)
Updates detail disk inodes settled found o (updates.Bytes change mode) to =
    (f : List ℕ → List ℕ) × IsTrue (is_file_node found) × RewritesIn detail disk f o change × (to ≡ with_given_mode mode (with_file_bytes f found))
Updates detail disk inodes settled found o (updates.Links links) to =
    IsTrue (is_file_node found) × (links ≤ FILE_NAMES) × (to ≡ with_node_links links found)

-- a step makes one volume of another
abbrev pub Steps : Detail → (ℕ → List ℕ) → (ℕ → Inode) → InodeFile → Volume → ObjectUpdate → Volume → Type 0
Steps detail disk settled s v step w =
    (to : Option Node) × Updates detail disk s.geometry.inodes (settled step.number) (v step.number) (loaded s step.number) step.update to
    × (w ≡ with_node step.number to v)

-- so does a step, if there is one, and else nothing changes
abbrev pub StepsSome : Detail → (ℕ → List ℕ) → (ℕ → Inode) → InodeFile → Volume → Option ObjectUpdate → Volume → Type 0
StepsSome detail disk settled s v None w = w ≡ v
StepsSome detail disk settled s v (Some step) w = Steps detail disk settled s v step w

-- A step, if there is one, is put in force: its object is at hand then, all others stay as they
-- are, and memory stands for the volume that the step makes.
pub record Commits (s t : InodeFile) (step : Option ObjectUpdate) : Type 0 where
  pub geometry : t.geometry ≡ s.geometry
  pub keeps : (n : ℕ) → HasRoomFor s n → HasRoomFor t n
  pub stays : (n : ℕ) → IsKnown s n → IsKnown t n
  pub at_hand : IsSomeAtHand t step
  pub rest : (n : ℕ) → IsBeside n step → loaded t n ≡ loaded s n
  pub volume : {detail : Detail} (count : ℕ) (disk : ℕ → List ℕ) (settled : ℕ → Inode) (v w : Volume) → IsVolumeIn detail count disk settled s v
      → StepsSome detail disk settled s v step w → IsVolumeIn detail count disk settled t w
  pub room : {detail : Detail} (base : Volume) (count : ℕ) (disk : ℕ → List ℕ) (settled : ℕ → Inode) (v w : Volume) (k : ℕ) → IsVolumeIn detail count disk settled s v
      → StepsSome detail disk settled s v step w → SomeRoom s step k → memory_room base t w ≤ memory_room base s v + k
