-- A session over lines that are read one by one: what each line comes to, what is shown, and how it
-- ends.
use Rattle.std.specs.Prelude.{ℕ, ◌≡◌, ◌<◌, ◌⊎◌, ◌∷◌, Bool, true, false, List, [], Option, Some, None, Result, Ok, Err, All, codes, length, take, if◌then◌else◌}
use Rattle.std.specs.List.{flat_map}
use Rattle.std.specs.Io.KnownBytes.{Appends, IsAtEnd, Keeps}
use Rattle.model.specs.declared.command.Command.{Command}
use Rattle.model.specs.declared.reply.Reply.{Reply}
use Rattle.station.specs.Images.{Unchanged}
use Rattle.station.specs.Moments.{Goes}
use Rattle.station.specs.declared.station.Station.{Ghosts}
use Rattle.system.specs.declared.mount_error.MountError.{MountError}
use Rattle.mount.specs.declared.fs.Fs.{Fs}
use Rattle.session.specs.Answers.{cut_line, shown, HasDone, IsAnsweredBy, IsDue}
use Rattle.session.specs.Reading.{TakesLine}
use Rattle.session.specs.Scripts.{is_skipped, IsBadLine, IsLineOf}
use Rattle.session.specs.Sessions.{EndsTelling, IsMounted, IsRefusal, Written}
use Rattle.session.specs.declared.ending.Ending.{Ending}
use Rattle.session.specs.declared.ending.Ending.TheVariants as ending
use Rattle.session.specs.declared.ending.Fault.TheVariants as fault
use Rattle.session.specs.declared.reading.TheConstants.{LINE_BYTES}
use Rattle.session.specs.declared.status.Status.{Status}
use Rattle.session.specs.declared.status.Status.TheVariants.{Done, FileFault, Cut, NoMemory}

-- what answers a line that is no command
abbrev pub bad_line : List ℕ
bad_line = codes "err BADLINE\n"

-- what a line comes to: the command that it is, with its reply, or nothing: it is skipped, is no
-- command, or is too long for one
abbrev pub LineComesTo : List ℕ → Option (Command × Reply) → Type 0
LineComesTo line (Some step) = IsLineOf line (Some step.0)
LineComesTo line None = (is_skipped line ≡ true) ⊎ (IsBadLine line ⊎ ((is_skipped line ≡ false) × (LINE_BYTES < length line)))

-- what is shown of it
abbrev pub said_of : List ℕ → Option (Command × Reply) → List ℕ
said_of line (Some step) = shown step.1
said_of line None = if is_skipped line then [] else bad_line

-- lines, each with what it came to
abbrev pub Dialog : Type 0
Dialog = List (List ℕ × Option (Command × Reply))

-- all that is shown of them
abbrev pub said : Dialog → List ℕ
said lines = flat_map (λ line. said_of line.0 line.1) lines

-- the step that a line is, in front of others
abbrev pub step_before : Option (Command × Reply) → List (Command × Reply) → List (Command × Reply)
step_before None steps = steps
step_before (Some step) steps = step ∷ steps

-- the commands that they are, with their replies
abbrev pub steps_of : Dialog → List (Command × Reply)
steps_of [] = []
steps_of (line ∷ lines) = step_before line.1 (steps_of lines)

-- they were taken from the beginning of known bytes
abbrev pub TakesLines : Option (List ℕ) → Option (List ℕ) → Dialog → Type 0
TakesLines old new [] = Keeps old new
TakesLines old new (line ∷ lines) = (mid : Option (List ℕ)) × TakesLine old mid line.0 × TakesLines mid new lines

-- one line was done on a file system: its command, or nothing
abbrev pub DoesStep : {S : Type 0} {G : Ghosts S} → Fs S G → Fs S G → Option (Command × Reply) → Type 0
DoesStep old new None = new ≡ old
DoesStep old new (Some step) = IsAnsweredBy old new step.0 step.1

-- what wasn't shown whole: at most one command's reply
abbrev pub IsLast : {S : Type 0} {G : Ghosts S} → Fs S G → Fs S G → List (Command × Reply) → Type 0
IsLast old new [] = new ≡ old
IsLast old new (step ∷ []) = IsAnsweredBy old new step.0 step.1
IsLast old new (step ∷ steps) = ⊥

-- how the answers end behind those that are shown whole, and what a writer's known bytes gained by
-- that: of a line that is due a beginning
abbrev pub EndsUnsaid : (Bool → Type 0) → List (Command × Reply) → Option (List ℕ) → Option (List ℕ) → Status → Type 0
EndsUnsaid was_cut rest old new Cut = was_cut true × Appends old new cut_line
EndsUnsaid was_cut rest old new FileFault = (line : List ℕ) × ((k : ℕ) × (IsDue rest line ⊎ (line ≡ bad_line)) × Appends old new (take k line))
EndsUnsaid was_cut rest old new NoMemory = Appends old new []
EndsUnsaid was_cut rest old new status = ⊥

-- how the answer to a line that is no command ends, unless it is a comment
abbrev pub EndsBad : Bool → Option (List ℕ) → Option (List ℕ) → Result (Unit {0}) Status → Type 0
EndsBad is_comment old new (Ok done) = Appends old new (if is_comment then [] else bad_line)
EndsBad is_comment old new (Err FileFault) = (k : ℕ) × Appends old new (take k bad_line)
EndsBad is_comment old new (Err status) = ⊥

-- how the answer to a line ends
abbrev pub AnswersLine : {S : Type 0} {G : Ghosts S} → Fs S G → Fs S G → List ℕ → (Bool → Type 0) → (Bool → Type 0) → Option (List ℕ) → Option (List ℕ) → Result (Unit {0}) Status → Type 0
AnswersLine old new line cut_before cut_now out out' (Ok done) =
    (step : Option (Command × Reply)) × LineComesTo line step × DoesStep old new step × (cut_before false → cut_now false) × Appends out out' (said_of line step)
AnswersLine old new line cut_before cut_now out out' (Err status) = (rest : List (Command × Reply)) × IsLast old new rest × EndsUnsaid cut_now rest out out' status

-- Lines were read from known bytes and answered whole: their commands led from one file system to
-- another, and `bytes` is what a writer's known bytes were then.
pub record HasHeard {S : Type 0} {G : Ghosts S} (first fs : Fs S G) (input left out bytes : Option (List ℕ)) (lines : Dialog) : Type 0 where
  pub comes : All (λ line. LineComesTo line.0 line.1) lines
  pub taken : TakesLines input left lines
  pub done : HasDone first fs (steps_of lines)
  pub shows : Appends out bytes (said lines)

-- How the answers to lines end: all are answered whole and the input is at its end, or behind some
-- that are.
abbrev pub EndsListening : {S : Type 0} {G : Ghosts S} → Fs S G → Fs S G → (Bool → Type 0) → Option (List ℕ) → Option (List ℕ) → Option (List ℕ) → Status → Type 0
EndsListening {S} {G} first fs was_cut input out out' Done =
    (lines : Dialog) × ((left : Option (List ℕ)) × HasHeard first fs input left out out' lines × IsAtEnd left × was_cut false)
EndsListening {S} {G} first fs was_cut input out out' status =
    (lines : Dialog) × ((left : Option (List ℕ)) × ((bytes : Option (List ℕ)) × ((mid : Fs S G) × HasHeard first mid input left out bytes lines
    × ((rest : List (Command × Reply)) × IsLast mid fs rest × EndsUnsaid was_cut rest bytes out' status))))

-- The station was mounted, and lines were answered: all in the words of `mount` and `Fs::apply`.
-- Nothing was told but prompts.
pub record HasListened {S : Type 0} (G : Ghosts S) (prompts : Bool) (was_cut : Bool → Type 0) (old new : S) (input : Option (List ℕ)) (w w' : Written) (status : Status) : Type 0 where
  pub fs : Fs S G
  pub is_mounted : IsMounted (G.meaning old) fs
  pub last : Fs S G
  pub station : last.system.blocks.buffers.station ≡ new
  pub ends : EndsListening fs last was_cut input w.out w'.out status
  pub tells : prompts ≡ false → w'.err ≡ w.err

-- The station wasn't mounted, for this reason, which was told if it could be; a cut leaves what it
-- might have left before, and no line was read.
pub record HasNotListened {S : Type 0} (G : Ghosts S) (old new : S) (input input' : Option (List ℕ)) (w w' : Written) (error : MountError) (status : Status) : Type 0 where
  pub goes : Goes Unchanged (G.meaning old) (G.meaning new)
  pub refusal : IsRefusal (G.meaning old) (G.meaning new) error
  pub unread : input' ≡ input
  pub shows : w'.out ≡ w.out
  pub tells : EndsTelling (fault.Mount error) w.err w'.err status

-- how a session over lines ended
abbrev pub EndsShell : {S : Type 0} (G : Ghosts S) → Bool → (Bool → Type 0) → S → S → Option (List ℕ) → Option (List ℕ) → Written → Written → Ending → Type 0
EndsShell G prompts was_cut old new input input' w w' (ending.Ran status) = HasListened G prompts was_cut old new input w w' status
EndsShell G prompts was_cut old new input input' w w' (ending.Unrun (fault.Mount error) status) = HasNotListened G old new input input' w w' error status
EndsShell G prompts was_cut old new input input' w w' (ending.Unrun fault status) = ⊥
