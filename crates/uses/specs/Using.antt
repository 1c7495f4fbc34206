-- What keeping a note comes to.
use Rattle.std.specs.Prelude.{ℕ, ◌≡◌, ◌+◌, ◌*◌, ◌≤◌, pos, true, false, List, [], ◌∷◌, ◌++◌, length, codes, Result, Ok, Err}
use Rattle.station.specs.Moments.{IsSameStation}
use Rattle.station.specs.declared.station.Station.{Ghosts}
use Rattle.model.specs.declared.command.Access.TheVariants.{Both}
use Rattle.model.specs.declared.command.Command.{Command}
use Rattle.model.specs.declared.command.Command.TheVariants as command
use Rattle.model.specs.declared.command.Flags.{Flags}
use Rattle.model.specs.declared.command.PathCall.TheVariants as call
use Rattle.model.specs.declared.errno.Errno.{Errno}
use Rattle.model.specs.declared.limits.TheConstants.{OPEN_FILES, TRANSFER_BYTES}
use Rattle.model.specs.declared.reply.Reply.{Reply}
use Rattle.model.specs.declared.reply.Reply.TheVariants as reply
use Rattle.model.specs.States.{State}
use Rattle.system.specs.Systems.{meaning_of}
use Rattle.mount.specs.Applying.{RunsAt}
use Rattle.mount.specs.Systems.{LastsFor, Serves, mounted}
use Rattle.mount.specs.declared.fs.Fs.{Fs}
use Rattle.mount.specs.declared.fs.TheConstants.{POINTS}

-- commands, each with its reply
abbrev pub Steps : Type 0
Steps = List (Command × Reply)

-- a new file is made, read and written
abbrev pub new_file : Flags
new_file = record { access = Both; creates = true; exclusive = true; truncates = false; appends = false }

-- the commands that keep a note, where the file got this descriptor, so many bytes were written, and
-- these were read back
abbrev pub note_steps : List ℕ → ℕ → ℕ → List ℕ → Steps
note_steps note fd written kept =
    (command.Path (call.Mkdir (codes "/notes") 0o755), reply.Done)
    ∷ (command.Open (codes "/notes/first") new_file 0o600 OPEN_FILES, reply.Fd fd)
    ∷ (command.Write fd note, reply.Wrote written)
    ∷ (command.Pread fd (pos 0) TRANSFER_BYTES, reply.Data kept)
    ∷ (command.Close fd, reply.Done)
    ∷ (command.SnapTake (codes "first"), reply.Done)
    ∷ []

-- Steps are those of a note: all of them, of which what was read back is told; or the first ones, up
-- to one that was refused.
abbrev pub AreOfNote : List ℕ → Result (List ℕ) Errno → Steps → Type 0
AreOfNote note (Ok kept) steps = (fd written : ℕ) × (steps ≡ note_steps note fd written kept)
AreOfNote note (Err errno) steps =
    (fd written : ℕ) × (kept : List ℕ) × (before behind : Steps) × (step : Command × Reply)
    × (note_steps note fd written kept ≡ before ++ step ∷ behind)
    × (steps ≡ before ++ (step.0, reply.Refused errno) ∷ [])

-- These commands led from one file system to another, over the same station. Where the first one
-- served a state, and has generations left for so many commands, the other serves what they came to,
-- and a cut on the way leaves what the commands up to then came to.
pub record HasLed {S : Type 0} {G : Ghosts S} (first last : Fs S G) (steps : Steps) : Type 0 where
  pub same : IsSameStation (meaning_of first.system) (meaning_of last.system)
  pub lasts : last.system.log.epoch ≤ first.system.log.epoch + POINTS * length steps
  pub ran : (s : State) → Serves (mounted first s) → LastsFor (length steps) first → RunsAt first s last steps

-- the commands of a note led from one to the other, and this came of it
abbrev pub KeepsNote : {S : Type 0} {G : Ghosts S} → List ℕ → Fs S G → Fs S G → Result (List ℕ) Errno → Type 0
KeepsNote note first last result = (steps : Steps) × AreOfNote note result steps × HasLed first last steps
