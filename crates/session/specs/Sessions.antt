-- How a session ends: what its status says of the script, of the station, of what is shown and of
-- what is told.
use Rattle.std.specs.Prelude.{ℕ, ◌≡◌, ◌≢◌, ◌⊎◌, ◌∷◌, ◌++◌, Bool, true, false, IsFalse, List, [], Option, All, codes, length, map, take}
use Rattle.std.specs.Io.KnownBytes.{Appends}
use Rattle.model.specs.declared.command.Command.{Command}
use Rattle.model.specs.declared.reply.Reply.{Reply}
use Rattle.model.specs.States.{State, Forgets}
use Rattle.station.specs.Images.{Unchanged}
use Rattle.station.specs.Moments.{Meaning, Goes}
use Rattle.station.specs.declared.station.Station.{Ghosts}
use Rattle.system.specs.Images.{OpensTo}
use Rattle.system.specs.Opening.{HasFailed, HasNewest}
use Rattle.system.specs.Systems.{meaning_of, system_parts}
use Rattle.mount.specs.Systems.{HasNoFault, HasNoRoot, mounted, Serves}
use Rattle.system.specs.declared.mount_error.MountError.{MountError}
use Rattle.system.specs.declared.mount_error.MountError.TheVariants as error
use Rattle.mount.specs.declared.fs.Fs.{Fs}
use Rattle.session.specs.Answers.{is_refusal, lines_of_steps, EndsShort, HasDone}
use Rattle.session.specs.Scripts.{line_fault, IsScriptFault, IsScriptOf}
use Rattle.session.specs.declared.ending.Ending.{Ending}
use Rattle.session.specs.declared.ending.Ending.TheVariants as ending
use Rattle.session.specs.declared.ending.Fault.{Fault}
use Rattle.session.specs.declared.ending.Fault.TheVariants as fault
use Rattle.session.specs.declared.status.Status.{Status}
use Rattle.session.specs.declared.status.Status.TheVariants.{Done, FileFault, NotMounted, NotACommand, NoMemory, Refused}

-- Commands with these replies led from a mounted file system to one that has this station. Whatever
-- state the first one serves, the last serves what they come to; and a cut at any moment leaves
-- what the commands up to then come to.
pub record RunsOn {S : Type 0} {G : Ghosts S} (fs : Fs S G) (new : S) (steps : List (Command × Reply)) : Type 0 where
  pub last : Fs S G
  pub station : last.system.blocks.buffers.station ≡ new
  pub done : HasDone fs last steps

-- What `mount` promises of a file system that it opened over a station of this meaning: all that a
-- cut could leave stayed, it goes on, of a station that opened to a state it found that state
-- without its open files, and whatever else the station holds, it took the newest root and the log
-- over it.
pub record IsMounted {S : Type 0} {G : Ghosts S} (old : Meaning) (fs : Fs S G) : Type 0 where
  pub goes : Goes Unchanged old (meaning_of fs.system)
  pub going : IsFalse fs.has_failed
  pub finds : old.is_honest → (s : State) → OpensTo old s old.seen
      → (t : State) × Forgets s t × Serves (mounted fs t)
  pub found : old.is_honest → HasNewest old (system_parts fs.system)

-- What a session promises of a run, all in the words of `mount` and `Fs::apply`: a file system was
-- mounted, and from there the commands ran with these replies.
pub record Ran {S : Type 0} (G : Ghosts S) (old new : S) (steps : List (Command × Reply)) : Type 0 where
  pub fs : Fs S G
  pub is_mounted : IsMounted (G.meaning old) fs
  pub runs : RunsOn fs new steps

-- the commands of steps
abbrev pub commands_of : List (Command × Reply) → List Command
commands_of steps = map (λ step. step.0) steps

-- they are those of the first of these commands
abbrev pub AreFirstOf : List (Command × Reply) → List Command → Type 0
AreFirstOf steps commands = commands_of steps ≡ take (length steps) commands

-- none of them was refused
abbrev pub AreDone : List (Command × Reply) → Type 0
AreDone steps = All (λ step. is_refusal step.1 ≡ false) steps

-- the last of them was refused, and no other
pub record EndsRefused (steps : List (Command × Reply)) : Type 0 where
  pub before : List (Command × Reply)
  pub command : Command
  pub reply : Reply
  pub is : steps ≡ before ++ (command, reply) ∷ []
  pub done : AreDone before
  pub refused : is_refusal reply ≡ true

-- How the run of a script's commands ends, of which these steps were done, and what a writer's
-- known bytes gained by it. `stops` has a refusal end it; `was_cut` says whether the power was cut.
abbrev pub EndsShowing : Bool → (Bool → Type 0) → List Command → List (Command × Reply) → Option (List ℕ) → Option (List ℕ) → Status → Type 0
EndsShowing stops was_cut commands steps old new Done =
    (commands_of steps ≡ commands) × (stops ≡ true → AreDone steps) × was_cut false × Appends old new (lines_of_steps steps)
EndsShowing stops was_cut commands steps old new Refused =
    (stops ≡ true) × AreFirstOf steps commands × EndsRefused steps × Appends old new (lines_of_steps steps)
EndsShowing stops was_cut commands steps old new status = AreFirstOf steps commands × EndsShort was_cut steps old new status

-- how the run of commands on a file system ends
abbrev pub EndsRunning : {S : Type 0} {G : Ghosts S} → Fs S G → Fs S G → List Command → Bool → (Bool → Type 0) → Option (List ℕ) → Option (List ℕ) → Status → Type 0
EndsRunning old new commands stops was_cut out out' status =
    (steps : List (Command × Reply)) × HasDone old new steps × EndsShowing stops was_cut commands steps out out' status

-- and on one whose station is given back then
abbrev pub EndsRun : {S : Type 0} {G : Ghosts S} → Fs S G → List Command → Bool → (Bool → Type 0) → S → Option (List ℕ) → Option (List ℕ) → Status → Type 0
EndsRun fs commands stops was_cut new out out' status =
    (steps : List (Command × Reply)) × RunsOn fs new steps × EndsShowing stops was_cut commands steps out out' status

-- what tells why a station isn't mounted
abbrev pub mount_fault : MountError → List ℕ
mount_fault error.NoMemory = codes "wafl: mount NOMEMORY\n"
mount_fault error.Device = codes "wafl: mount DEVICE\n"
mount_fault error.NoRoot = codes "wafl: mount NOROOT\n"
mount_fault error.Damaged = codes "wafl: mount DAMAGED\n"

-- Why a mount that led from the one meaning to the other was refused, all that `mount` promises of
-- it: `Device` where a call failed, `NoRoot` where there is no root. Where there is none, where no
-- fault stands in the images, and where they open to a state, no other errors come than these. Of
-- memory nothing is known.
pub record IsRefusal (old new : Meaning) (e : MountError) : Type 0 where
  pub device : e ≡ error.Device → HasFailed old new
  pub no_root : old.is_honest → e ≡ error.NoRoot → HasNoRoot old.sectors old.seen.disk
  pub rootless : old.is_honest → HasNoRoot old.sectors old.seen.disk
      → (e ≡ error.NoRoot) ⊎ (e ≡ error.Device)
  pub faultless : old.is_honest → HasNoFault old.sectors old.seen.disk old.seen.nvram
      → (e ≡ error.NoMemory) ⊎ (e ≡ error.Device)
  pub opens : old.is_honest → (s : State) → OpensTo old s old.seen
      → (e ≡ error.NoMemory) ⊎ (e ≡ error.Device)

-- a station wasn't mounted, for this reason, and a cut leaves what it might have left before
pub record IsNotMounted (script : List ℕ) (old new : Meaning) (e : MountError) : Type 0 where
  pub commands : List Command
  pub script_is : IsScriptOf script commands
  pub goes : Goes Unchanged old new
  pub refusal : IsRefusal old new e

-- why nothing was run, and what became of the station
abbrev pub HasFault : {S : Type 0} (G : Ghosts S) → List ℕ → S → S → Fault → Type 0
HasFault G script old new fault.NoMemory = Goes Unchanged (G.meaning old) (G.meaning new)
HasFault G script old new (fault.Line n) = IsScriptFault script (fault.Line n) × (new ≡ old)
HasFault G script old new (fault.Mount e) = IsNotMounted script (G.meaning old) (G.meaning new) e

-- how the telling of a fault ends, and what a writer's known bytes gained by it: of its line a
-- beginning, where not all of it can be told
abbrev pub EndsTelling : Fault → Option (List ℕ) → Option (List ℕ) → Status → Type 0
EndsTelling fault.NoMemory old new NoMemory = new ≡ old
EndsTelling (fault.Line n) old new NotACommand = Appends old new (line_fault n)
EndsTelling (fault.Line n) old new FileFault = (k : ℕ) × Appends old new (take k (line_fault n))
EndsTelling (fault.Line n) old new NoMemory = new ≡ old
EndsTelling (fault.Mount e) old new NotMounted = Appends old new (mount_fault e)
EndsTelling (fault.Mount e) old new FileFault = (k : ℕ) × (e ≢ error.NoMemory) × Appends old new (take k (mount_fault e))
EndsTelling (fault.Mount e) old new NoMemory = (k : ℕ) × (e ≡ error.NoMemory) × Appends old new (take k (mount_fault e))
EndsTelling fault old new status = ⊥

-- the known bytes of two writers: of what is shown and of what is told
pub record Written : Type 0 where
  pub out : Option (List ℕ)
  pub err : Option (List ℕ)

abbrev pub written_out : Option (List ℕ) → Option (List ℕ) → Written
written_out out err = record { out = out; err = err }

-- The script's commands ran, as far as they did, their replies were shown, and nothing was told.
pub record EndsRan {S : Type 0} (G : Ghosts S) (script : List ℕ) (stops : Bool) (was_cut : Bool → Type 0) (old new : S) (w w' : Written) (status : Status) : Type 0 where
  pub commands : List Command
  pub script_is : IsScriptOf script commands
  pub steps : List (Command × Reply)
  pub ran : Ran G old new steps
  pub shows : EndsShowing stops was_cut commands steps w.out w'.out status
  pub tells : w'.err ≡ w.err

-- nothing was run, nothing was shown, and why was told if it could be
pub record EndsUnrun {S : Type 0} (G : Ghosts S) (script : List ℕ) (old new : S) (w w' : Written) (fault : Fault) (status : Status) : Type 0 where
  pub has : HasFault G script old new fault
  pub shows : w'.out ≡ w.out
  pub tells : EndsTelling fault w.err w'.err status

-- how a session over a script ended
abbrev pub EndsWith : {S : Type 0} (G : Ghosts S) → List ℕ → Bool → (Bool → Type 0) → S → S → Written → Written → Ending → Type 0
EndsWith G script stops was_cut old new w w' (ending.Ran status) = EndsRan G script stops was_cut old new w w' status
EndsWith G script stops was_cut old new w w' (ending.Unrun fault status) = EndsUnrun G script old new w w' fault status

-- A session ended with `FileFault` only where the one holds, if commands ran, or the other, if none
-- did.
abbrev pub FaultHasCause : Type 0 → Type 0 → Ending → Type 0
FaultHasCause ran unrun (ending.Ran status) = status ≡ FileFault → ran
FaultHasCause ran unrun (ending.Unrun fault status) = status ≡ FileFault → unrun
