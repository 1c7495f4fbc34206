-- Objects that a change touches, in memory.
use Rattle.std.specs.Prelude.{ℕ, ◌≡◌, ◌+◌, ◌≤◌, List, Option, Some, None, IfSome, Result}
use Rattle.layout.specs.declared.inode.Inode.{Inode}
use Rattle.model.specs.Touches.{Touches}
use Rattle.model.specs.Volumes.{Volume}
use Rattle.model.specs.declared.time.Time.{Time}
use Rattle.buffers.specs.declared.blocks.Blocks.{Ghosts}
use Rattle.buffers.specs.declared.error.BlockError.{BlockError}
use Rattle.images.specs.Soundness.{Detail}
use Rattle.inofile.specs.Inodes.{HasRoomFor, IsKnown, loaded}
use Rattle.inofile.specs.Room.{memory_room}
use Rattle.inofile.specs.Volumes.{IsVolumeIn}
use Rattle.inofile.specs.declared.inode_file.InodeFile.{InodeFile}
use Rattle.paths.specs.Numbers.{IsInodeNumber}
use Rattle.records.specs.Looking.{Brings}
use Rattle.records.specs.Steps.{IsAtHand}
use Rattle.records.specs.declared.marks.Marks.{Marks}

-- what is touched, by the numbers
abbrev pub touches_in : Marks → Touches
touches_in marks = record {
  object = marks.object;
  touch = marks.touch;
  replaced = marks.replaced;
  parent = marks.parent;
  new_parent = marks.new_parent;
}

-- this holds of each number that is touched
pub record OnEachTouched (Holds : ℕ → Type 0) (touches : Touches) : Type 0 where
  pub object : IfSome touches.object Holds
  pub replaced : IfSome touches.replaced Holds
  pub parent : IfSome touches.parent Holds
  pub new_parent : IfSome touches.new_parent Holds

-- the same where there is a time: else nothing is touched
abbrev pub OnMarked : (ℕ → Type 0) → Marks → Type 0
OnMarked Holds marks = IfSome marks.time (λ time. OnEachTouched Holds (touches_in marks))

-- they are numbers of objects, in an image of so many inodes
abbrev pub AreMarkedNumbers : ℕ → Marks → Type 0
AreMarkedNumbers inodes marks = OnMarked (IsInodeNumber inodes) marks

-- what is touched is in memory, with room for a change of it
abbrev pub AreMarkedAtHand : InodeFile → Marks → Type 0
AreMarkedAtHand s marks = OnMarked (IsAtHand s) marks

-- an object that is touched raises by so much at the most what a consistency point may store, if a
-- number of one is given
abbrev pub mark_room : Option ℕ → ℕ
mark_room None = 0
mark_room (Some number) = 2

-- so do all that a change touches, where it has a time
abbrev pub touch_room : Option Time → Touches → ℕ
touch_room None touches = 0
touch_room (Some time) touches = mark_room touches.object + mark_room touches.replaced + mark_room touches.parent + mark_room touches.new_parent

-- nothing of what memory knew changes
abbrev pub KeepsLoaded : InodeFile → InodeFile → Type 0
KeepsLoaded s t = (n : ℕ) → IsKnown s n → loaded t n ≡ loaded s n

-- Objects come into memory, of which this is known then. All that memory knew it has as it was.
pub record BringsBeside {B T : Type 0} (G : Ghosts B) (blocks after : B) (s t : InodeFile) (Known : InodeFile → Type 0) (result : Result T BlockError) : Type 0 where
  pub brings : Brings G blocks after s t Known result
  pub keeps : KeepsLoaded s t

-- Memory stands for a volume that is marked so, where it stood for the volume, and may have to store
-- so much more.
pub record MarksVolume (s t : InodeFile) (marked : Volume → Volume) (more : ℕ) : Type 0 where
  pub geometry : t.geometry ≡ s.geometry
  pub keeps : (n : ℕ) → HasRoomFor s n → HasRoomFor t n
  pub stays : (n : ℕ) → IsKnown s n → IsKnown t n
  pub volume : {detail : Detail} (count : ℕ) (disk : ℕ → List ℕ) (settled : ℕ → Inode) (v : Volume) → IsVolumeIn detail count disk settled s v
      → IsVolumeIn detail count disk settled t (marked v)
  pub room : {detail : Detail} (base : Volume) (count : ℕ) (disk : ℕ → List ℕ) (settled : ℕ → Inode) (v : Volume) → IsVolumeIn detail count disk settled s v
      → memory_room base t (marked v) ≤ memory_room base s v + more
