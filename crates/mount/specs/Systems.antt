-- What a mounted file system stands for.
use Rattle.std.specs.Prelude.{ℕ, ◌≡◌, ◌+◌, ◌*◌, ◌<◌, ◌≤◌, ◌^◌, Bool, if◌then◌else◌}
use Rattle.station.specs.Images.{Images}
use Rattle.station.specs.Moments.{Meaning, EachCut}
use Rattle.station.specs.declared.station.Station.{Ghosts}
use Rattle.model.specs.States.{State, Mark, going, failed}
use Rattle.model.specs.declared.command.Command.{Command}
use Rattle.model.specs.Runs.{IsWithin}
pub use Rattle.images.specs.Faults.{HasNoFault}
pub use Rattle.loading.specs.Slots.{HasNoRoot}
pub use Rattle.system.specs.declared.mount_error.MountError.{MountError}
use Rattle.system.specs.Images.{OpensTo}
use Rattle.system.specs.Serving.{ServesState}
use Rattle.system.specs.Systems as systems
use Rattle.mount.specs.declared.fs.Fs.{Fs}
use Rattle.mount.specs.declared.fs.TheConstants.{POINTS}

-- what stands on a station opens to a state with P
abbrev pub OpensToSome : Meaning → (State → Type 0) → Images → Type 0
OpensToSome m P c = (s : State) × OpensTo m s c × P s

-- A command failed the system at this state and stays under way until the next mount: whatever a
-- cut may leave opens to a state within it.
pub record IsCutShort (m : Meaning) (s : State) : Type 0 where
  pub command : Command
  pub each : EachCut m (OpensToSome m (IsWithin (record s { mark = going }) command))

-- what a cut may leave of a system at this state: of a going one just this state
abbrev pub LeavesState : Meaning → State → Type 0
LeavesState m s = elim s.mark [ going ↦ EachCut m (OpensTo m s) | failed ↦ IsCutShort m s ]

-- a mounted file system with the state that it shows
pub record Mounted (S : Type 0) (G : Ghosts S) : Type 0 where
  pub fs : Fs S G
  pub state : State

abbrev pub mounted : {S : Type 0} {G : Ghosts S} → Fs S G → State → Mounted S G
mounted fs s = record { fs = fs; state = s }

-- the meaning of its station
abbrev pub file_system_meaning : {S : Type 0} {G : Ghosts S} → Mounted S G → Meaning
file_system_meaning m = systems.meaning_of m.fs.system

-- its present moment
abbrev pub moment_of : {S : Type 0} {G : Ghosts S} → Mounted S G → ℕ
moment_of m = (file_system_meaning m).moment

abbrev pub shown_state : {S : Type 0} {G : Ghosts S} → Mounted S G → State
shown_state m = m.state

-- the mark of a system, by whether it failed
abbrev pub mark_of : Bool → Mark
mark_of has_failed = if has_failed then failed else going

-- A file system serves the state that it shows, over an honest station: a cut leaves just that, or
-- where a write failed, a state within the command that was under way.
pub record Serves {S : Type 0} {G : Ghosts S} (m : Mounted S G) : Type 0 where
  pub honest : (file_system_meaning m).is_honest
  pub mark : m.state.mark ≡ mark_of m.fs.has_failed
  pub kept : m.state.mark ≡ going → ServesState m.fs.system m.state
  pub cut_short : m.state.mark ≡ failed → IsCutShort (file_system_meaning m) m.state

-- so many further consistency points have a generation
abbrev pub HasPoints : {S : Type 0} {G : Ghosts S} → ℕ → Fs S G → Type 0
HasPoints n fs = fs.system.log.epoch + n ≤ 2 ^ 62

-- so they have, whatever the images hold: a log's epoch may be any number then
abbrev pub HasGenerations : {S : Type 0} {G : Ghosts S} → ℕ → Fs S G → Type 0
HasGenerations n fs = (1 ≤ fs.system.log.epoch) × HasPoints n fs

-- those of a command have
abbrev pub IsYoung : {S : Type 0} {G : Ghosts S} → Fs S G → Type 0
IsYoung fs = HasPoints POINTS fs

-- and so has each of so many commands, one after the other
abbrev pub LastsFor : {S : Type 0} {G : Ghosts S} → ℕ → Fs S G → Type 0
LastsFor n fs = fs.system.log.epoch + POINTS * n < 2 ^ 62
