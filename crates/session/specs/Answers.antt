-- Commands done one after the other on a mounted file system, each one's reply shown before the
-- next begins.
use Rattle.std.specs.Prelude.{ℕ, ◌≡◌, ◌≤◌, ◌+◌, ◌*◌, ◌∷◌, ◌++◌, ◌⊎◌, Bool, true, false, IsTrue, List, [], Option, Result, Ok, Err, codes, length, take}
use Rattle.std.specs.List.{flat_map}
use Rattle.std.specs.Io.KnownBytes.{Appends}
use Rattle.model.specs.declared.command.Command.{Command}
use Rattle.model.specs.declared.errno.Errno.TheVariants.{FAILED}
use Rattle.model.specs.declared.reply.Reply.{Reply}
use Rattle.model.specs.declared.reply.Reply.TheVariants.{Refused as refused}
use Rattle.model.specs.States.{State}
use Rattle.script.specs.Replies.{reply_line}
use Rattle.station.specs.declared.station.Station.{Ghosts}
use Rattle.mount.specs.Applying.{AnswersAlways, AnswersAtOnce, IsAtOnce, IsQuiet, RunsAt}
use Rattle.mount.specs.Systems.{mounted, Serves, IsYoung, LastsFor}
use Rattle.mount.specs.declared.fs.Fs.{Fs}
use Rattle.mount.specs.declared.fs.TheConstants.{POINTS}
use Rattle.session.specs.declared.status.Status.{Status}
use Rattle.session.specs.declared.status.Status.TheVariants.{FileFault, Cut, NoMemory}

-- the command was refused
abbrev pub is_refusal : Reply → Bool
is_refusal (refused errno) = true
is_refusal reply = false

-- a reply's line, with its end
abbrev pub shown : Reply → List ℕ
shown reply = reply_line reply ++ 10 ∷ []

-- what stands in place of a reply where the power was cut
abbrev pub cut_line : List ℕ
cut_line = codes "cut\n"

-- the lines of these steps' replies
abbrev pub lines_of_steps : List (Command × Reply) → List ℕ
lines_of_steps steps = flat_map (λ step. shown step.1) steps

-- A command was answered so, over any bytes as `Fs::apply` promises: whatever run led to the file
-- system goes on by it, and its log's epoch rises by no more than one command's points.
pub record IsAnsweredBy {S : Type 0} {G : Ghosts S} (old new : Fs S G) (command : Command) (reply : Reply) : Type 0 where
  pub answers : AnswersAlways old new command reply
  pub at_once : IsAtOnce old.system.files command → AnswersAtOnce old.system new.system reply
  pub quiet : IsQuiet command → new ≡ old
  pub failed : IsTrue old.has_failed → (reply ≡ refused FAILED) × (new ≡ old)
  pub lasts : new.system.log.epoch ≤ old.system.log.epoch + POINTS
  pub goes_on : (first : Fs S G) (s : State) (steps : List (Command × Reply)) → RunsAt first s old steps → IsYoung old
      → RunsAt first s new (steps ++ (command, reply) ∷ [])

-- commands led from one file system to another, each answered so
abbrev pub AreAnswered : {S : Type 0} {G : Ghosts S} → Fs S G → List (Command × Reply) → Fs S G → Type 0
AreAnswered {S} {G} first [] last = last ≡ first
AreAnswered {S} {G} first (step ∷ steps) last = (next : Fs S G) × IsAnsweredBy first next step.0 step.1 × AreAnswered next steps last

-- Commands with these replies led from one file system to another. Whatever state the first one
-- serves, the other serves what they come to, and a cut at any moment leaves what the commands up
-- to then come to. The premise is on the first file system alone: that its log's epoch leaves a
-- generation to each point that so many commands may make.
pub record HasDone {S : Type 0} {G : Ghosts S} (first fs : Fs S G) (steps : List (Command × Reply)) : Type 0 where
  pub each : AreAnswered first steps fs
  pub lasts : fs.system.log.epoch ≤ first.system.log.epoch + POINTS * length steps
  pub ran : (s : State) → Serves (mounted first s) → LastsFor (length steps) first → RunsAt first s fs steps

-- a line that is due next: a reply's, or the one that stands in place of a reply
abbrev pub IsDue : List (Command × Reply) → List ℕ → Type 0
IsDue [] line = line ≡ cut_line
IsDue (step ∷ steps) line = (line ≡ shown step.1) ⊎ (line ≡ cut_line)

-- how a line's showing ends that stands in place of a reply, and what a writer's known bytes gained
-- by it
abbrev pub EndsCut : Option (List ℕ) → Option (List ℕ) → Status → Type 0
EndsCut old new Cut = Appends old new cut_line
EndsCut old new FileFault = (k : ℕ) × Appends old new (take k cut_line)
EndsCut old new status = ⊥

-- how a reply's showing ends
abbrev pub EndsReply : Reply → Option (List ℕ) → Option (List ℕ) → Result (Unit {0}) Status → Type 0
EndsReply reply old new (Ok done) = Appends old new (shown reply)
EndsReply reply old new (Err FileFault) = (k : ℕ) × Appends old new (take k (shown reply))
EndsReply reply old new (Err NoMemory) = Appends old new []
EndsReply reply old new (Err status) = ⊥

-- how a command's answer ends; `was_cut` says whether the power was cut meanwhile
abbrev pub EndsAnswer : Reply → (Bool → Type 0) → Option (List ℕ) → Option (List ℕ) → Result Reply Status → Type 0
EndsAnswer reply was_cut old new (Ok r) = (r ≡ reply) × was_cut false × Appends old new (shown reply)
EndsAnswer reply was_cut old new (Err Cut) = was_cut true × Appends old new cut_line
EndsAnswer reply was_cut old new (Err FileFault) = (line : List ℕ) × ((k : ℕ) × ((line ≡ shown reply) ⊎ (line ≡ cut_line)) × Appends old new (take k line))
EndsAnswer reply was_cut old new (Err NoMemory) = Appends old new []
EndsAnswer reply was_cut old new (Err status) = ⊥

-- a command was answered, and its reply shown as far as that went
abbrev pub AnswersShowing : {S : Type 0} {G : Ghosts S} → Fs S G → Fs S G → Command → (Bool → Type 0) → Option (List ℕ) → Option (List ℕ) → Result Reply Status → Type 0
AnswersShowing old new command was_cut out out' result = (reply : Reply) × IsAnsweredBy old new command reply × EndsAnswer reply was_cut out out' result

-- Of these steps all replies are shown but at most the last one's.
pub record LacksLastReply (steps before : List (Command × Reply)) : Type 0 where
  pub rest : List (Command × Reply)
  pub is : steps ≡ before ++ rest
  pub few : length rest ≤ 1

-- why steps' replies aren't all shown, and what a writer's known bytes gained: all that is before
-- the last one's, and of a line that is due then a beginning
abbrev pub EndsShort : (Bool → Type 0) → List (Command × Reply) → Option (List ℕ) → Option (List ℕ) → Status → Type 0
EndsShort was_cut steps old new Cut = was_cut true × ((before : List (Command × Reply)) × LacksLastReply steps before × Appends old new (lines_of_steps before ++ cut_line))
EndsShort was_cut steps old new FileFault = (before : List (Command × Reply)) × (short : LacksLastReply steps before)
    × ((line : List ℕ) × ((k : ℕ) × IsDue short.rest line × Appends old new (lines_of_steps before ++ take k line)))
EndsShort was_cut steps old new NoMemory = (before : List (Command × Reply)) × LacksLastReply steps before × Appends old new (lines_of_steps before)
EndsShort was_cut steps old new status = ⊥
