-- What a system shows to a call that only looks, whatever a cut leaves of it.
use Rattle.std.specs.Prelude.{ℕ, ◌≡◌, ◌≤◌, List, Option}
use Rattle.layout.specs.StateLimits.{limits_of}
use Rattle.station.specs.Moments.{Meaning}
use Rattle.station.specs.declared.station.Station.{Ghosts}
use Rattle.layout.specs.Places.{blocks_of}
use Rattle.model.specs.Paths.{Name}
use Rattle.model.specs.Records.{Extends}
use Rattle.model.specs.States.{State}
use Rattle.model.specs.Trees.{Description, Tree}
use Rattle.model.specs.Volumes.{IsMounted, Volume}
use Rattle.inofile.specs.Room.{memory_room}
use Rattle.descriptors.specs.Fits.{FitsVolume}
use Rattle.descriptors.specs.Tables.{table_of}
use Rattle.overlay.specs.Overlays.{ShowsOver}
use Rattle.system.specs.Images.{IsUnder}
use Rattle.system.specs.Memory.{IsInMemory}
use Rattle.system.specs.Systems.{Parts, disk_of, disk_over, meaning_of, state_with, system_parts}
use Rattle.system.specs.Views.{ShowsSnapshot}
use Rattle.system.specs.declared.system.System.{System}

-- What a system has shows a state, whether it serves this or is ahead by it of what a cut leaves.
-- Blocks read as the disk under its root, which has these snapshots; over it memory stands for the
-- running volume; and the view that is kept is of a snapshot. The open files are the state's, each
-- with its size and its links.
pub record IsShowing (m : Meaning) (k : Parts) (table : ℕ → Option Description)
    (s : State) : Type 0 where
  pub honest : m.is_honest
  pub shows : ShowsOver m k.kept k.pending (blocks_of (disk_over k m.seen.disk))
  pub first : Volume
  pub snapshots : List (Name × Tree)
  pub under : IsUnder k.slot k.root first snapshots (disk_over k m.seen.disk)
  pub running : Volume
  pub mounted : IsMounted running table
  pub memory : IsInMemory (blocks_of (disk_over k m.seen.disk)) k.root k.inodes running
  pub view : ShowsSnapshot (blocks_of (disk_over k m.seen.disk)) k.root.geometry snapshots
      k.view
  pub opened : table ≡ table_of k.files
  pub fits : FitsVolume k.files running
  pub state : s ≡ state_with (limits_of k.root.geometry) k.session running table snapshots

-- so does a system
abbrev pub ShowsState : {S : Type 0} {G : Ghosts S} → System S G → State → Type 0
ShowsState f s = IsShowing (meaning_of f) (system_parts f) s.tree.descriptors s

-- What a system shows once a call looked: the next state, over the same disk. The same records lead
-- to its volume, and a consistency point stores no more of that.
pub record ShowsNext {S : Type 0} {G : Ghosts S} (old new : System S G) {s : State}
    (shown : ShowsState old s) (next : State) : Type 0 where
  pub running : Volume
  pub replays : (last : Volume) → Extends shown.running last → Extends running last
  pub memory : IsInMemory (blocks_of (disk_of old)) old.root new.inodes running
  pub stored : (first : Volume)
      → memory_room first new.inodes running ≤ memory_room first old.inodes shown.running
  pub mounted : IsMounted running next.tree.descriptors
  pub opened : next.tree.descriptors ≡ table_of new.files
  pub fits : FitsVolume new.files running
  pub state : next
      ≡ state_with (limits_of old.root.geometry) new.session running next.tree.descriptors shown.snapshots
