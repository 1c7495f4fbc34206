-- Lines that are answered while commands wait: which of them become durable together, and what is
-- shown when.
use Rattle.std.specs.Prelude.{ℕ, ◌≡◌, ◌≤◌, ◌⊎◌, ◌+◌, ◌*◌, ◌∷◌, ◌++◌, Bool, false, not, IsFalse, List, [], Option, Some, None, Result, Ok, Err, All, length}
use Rattle.std.specs.List.{flat_map}
use Rattle.model.specs.declared.command.Command.{Command}
use Rattle.model.specs.declared.command.Command.TheVariants as command
use Rattle.model.specs.declared.errno.Errno.{Errno}
use Rattle.model.specs.declared.errno.Errno.TheVariants.{EIO, FAILED}
use Rattle.model.specs.declared.reply.Reply.{Reply}
use Rattle.model.specs.declared.reply.Reply.TheVariants.{Refused as refused}
use Rattle.model.specs.States.{State}
use Rattle.station.specs.declared.station.Station.{Ghosts}
use Rattle.mount.specs.Batches.{Batch, alone, lost, together}
use Rattle.mount.specs.Batching.{AppliesAlone, CommitsAll, MayWait, RunsInBatches, with_batch}
use Rattle.mount.specs.Systems.{LastsFor, Serves, mounted}
use Rattle.mount.specs.declared.fs.Fs.{Fs}
use Rattle.mount.specs.declared.fs.TheConstants.{POINTS}
use Rattle.mount.specs.declared.waiting.Waiting.{Waiting}
use Rattle.session.specs.Answers.{is_refusal, shown}
use Rattle.session.specs.Shells.{Dialog, said, said_of, steps_of}
use Rattle.session.specs.declared.durability.Durability.{Durability}
use Rattle.session.specs.declared.durability.Durability.TheVariants.{Together, Deferred}
use Rattle.session.specs.declared.kept.Kept.{Kept}

-- a reply tells that all that was done before is durable
abbrev pub is_promise : Command → Reply → Bool
is_promise (command.Fsync fd) reply = not (is_refusal reply)
is_promise c reply = false

-- so does a line's
abbrev pub promises : Option (Command × Reply) → Bool
promises None = false
promises (Some step) = is_promise step.0 step.1

-- what is shown in the place of a line's answer where what it did is lost
abbrev pub lost_of : List ℕ → Option (Command × Reply) → List ℕ
lost_of line (Some step) = shown (refused EIO)
lost_of line None = said_of line None

abbrev pub said_lost : Dialog → List ℕ
said_lost lines = flat_map (λ line. lost_of line.0 line.1) lines

-- such lines are kept, to be shown behind a commit
pub record IsKept (kept : Kept) (lines : Dialog) : Type 0 where
  pub told : kept.told.items ≡ said lines
  pub lost : kept.lost.items ≡ said_lost lines

-- so is one more
pub record AddsLine (old new : Kept) (line : List ℕ) (step : Option (Command × Reply)) : Type 0 where
  pub told : new.told.items ≡ old.told.items ++ said_of line step
  pub lost : new.lost.items ≡ old.lost.items ++ lost_of line step

-- what is shown of lines behind a commit that came to this; where the system had failed before, none
-- was made, and each answer tells that itself
abbrev pub said_behind : Result (Unit {0}) Errno → Dialog → List ℕ
said_behind (Ok done) lines = said lines
said_behind (Err FAILED) lines = said lines
said_behind (Err errno) lines = said_lost lines

-- Lines that were answered, and how what they did became durable.
pub data Round : Type 0 where
  -- it waits on behind their answers
  waits : Dialog → Round
  -- all that waited became durable at one moment, before they were answered
  settles : Dialog → Round
  -- or was lost
  loses : Dialog → Errno → Round
  -- and behind it one command by itself, which is durable at its answer
  does : Dialog → List ℕ → Command → Reply → Round
  -- or isn't done, since what waited was lost
  refuses : Dialog → List ℕ → Command → Errno → Round

-- the lines
abbrev pub lines_of : Round → Dialog
lines_of (waits lines) = lines
lines_of (settles lines) = lines
lines_of (loses lines errno) = lines
lines_of (does lines line c reply) = lines ++ (line, Some (c, reply)) ∷ []
lines_of (refuses lines line c errno) = lines ++ (line, Some (c, refused errno)) ∷ []

abbrev pub dialog_of : List Round → Dialog
dialog_of rounds = flat_map lines_of rounds

-- what is shown
abbrev pub told_of : Round → List ℕ
told_of (waits lines) = said lines
told_of (settles lines) = said lines
told_of (loses lines errno) = said_behind (Err errno) lines
told_of (does lines line c reply) = said lines ++ shown reply
told_of (refuses lines line c errno) = said_behind (Err errno) lines ++ shown (refused errno)

abbrev pub told : List Round → List ℕ
told rounds = flat_map told_of rounds

-- What was done may wait on behind its answer, deferred alone: no answer is a promise, and no more
-- bytes of the log wait than these.
abbrev pub MayWaitOn : Durability → Dialog → ℕ → Type 0
MayWaitOn Together lines waiting = ⊥
MayWaitOn (Deferred milliseconds bytes) lines waiting =
    All (λ line. promises line.1 ≡ false) lines × (waiting ≤ bytes)

module _ {S : Type 0} {G : Ghosts S} where
  -- a line was done whose command, if it is one, waits
  abbrev pub Waits : Waiting S G → Waiting S G → Option (Command × Reply) → Type 0
  Waits old new None = new ≡ old
  Waits old new (Some step) = MayWait old new step.0 (Some step.1)

  -- lines, one after the other
  abbrev pub WaitAll : Waiting S G → Waiting S G → Dialog → Type 0
  WaitAll old new [] = new ≡ old
  WaitAll old new (line ∷ lines) = (next : Waiting S G) × Waits old next line.1 × WaitAll next new lines

  -- nothing was done, but that a command was found that can't wait
  abbrev pub HasTried : Waiting S G → Waiting S G → Type 0
  HasTried old new = (new ≡ old) ⊎ ((c : Command) × MayWait old new c None)

  -- and a commit behind them came to this
  pub record Commits (old new : Waiting S G) (lines : Dialog) (done : Result (Unit {0}) Errno) : Type 0 where
    pub mid : Waiting S G
    pub each : WaitAll old mid lines
    pub ready : Waiting S G
    pub tried : HasTried mid ready
    pub commits : CommitsAll ready new done

  module _ (d : Durability) where
    -- a round leads from one file system to the next
    abbrev pub LeadsRound : Waiting S G → Waiting S G → Round → Type 0
    LeadsRound old new (waits lines) = WaitAll old new lines × MayWaitOn d lines (length new.records.batch)
    LeadsRound old new (settles lines) = Commits old new lines (Ok tt)
    LeadsRound old new (loses lines errno) = Commits old new lines (Err errno)
    LeadsRound old new (does lines line c reply) = (next : Waiting S G) × Commits old next lines (Ok tt) × AppliesAlone next new c reply
    LeadsRound old new (refuses lines line c errno) = Commits old new lines (Err errno)

    abbrev pub LeadRounds : Waiting S G → Waiting S G → List Round → Type 0
    LeadRounds first last [] = last ≡ first
    LeadRounds first last (round ∷ rounds) = (next : Waiting S G) × LeadsRound first next round × LeadRounds next last rounds

-- The batches of a run so far, and what waits behind them.
pub record Course : Type 0 where
  pub batches : List Batch
  pub waiting : List (Command × Reply)

abbrev pub begun : Course
begun = record { batches = []; waiting = [] }

-- with these lines, which wait
abbrev pub with_lines : Course → Dialog → Course
with_lines c lines = record { batches = c.batches; waiting = c.waiting ++ steps_of lines }

-- with all that waits as a batch
abbrev pub with_all : Course → (List (Command × Reply) → Batch) → Course
with_all c made = record { batches = with_batch c.batches (made c.waiting); waiting = [] }

-- with one command as a batch
abbrev pub with_one : Course → Command → Reply → Course
with_one c command reply = record { batches = with_batch c.batches (alone (command, reply)); waiting = c.waiting }

-- behind a round
abbrev pub behind_round : Course → Round → Course
behind_round c (waits lines) = with_lines c lines
behind_round c (settles lines) = with_all (with_lines c lines) together
behind_round c (loses lines errno) = with_all (with_lines c lines) lost
behind_round c (does lines line command reply) = with_one (with_all (with_lines c lines) together) command reply
behind_round c (refuses lines line command errno) = with_all (with_lines c lines) lost

abbrev pub behind_rounds : Course → List Round → Course
behind_rounds c [] = c
behind_rounds c (round ∷ rounds) = behind_rounds (behind_round c round) rounds

-- a run in batches came so far
abbrev pub RunsSoFar : {S : Type 0} {G : Ghosts S} → Fs S G → State → Waiting S G → Course → Type 0
RunsSoFar first s now c = RunsInBatches first s now c.batches c.waiting

-- A run in batches came so far by rounds. Behind the first that failed the system nothing was done.
pub record HasRun {S : Type 0} {G : Ghosts S} (first : Fs S G) (s : State) (now : Waiting S G) (rounds : List Round) : Type 0 where
  pub before : List Round
  pub rest : List Round
  pub is : rounds ≡ before ++ rest
  pub last : Waiting S G
  pub runs : RunsSoFar first s last (behind_rounds begun before)
  pub fs : now.fs ≡ last.fs
  pub all : IsFalse now.fs.has_failed → (rest ≡ []) × (now ≡ last)

-- Rounds led from a file system on which nothing waits to another one, each as `Waiting` promises,
-- over any bytes. Whatever state the first serves, a cut leaves whole batches of them. The premise is
-- on the first alone: that its log's epoch leaves a generation to each point that so many rounds may
-- make.
pub record AreAnswered {S : Type 0} {G : Ghosts S} (d : Durability) (first now : Waiting S G) (rounds : List Round) : Type 0 where
  pub each : LeadRounds d first now rounds
  pub lasts : now.fs.system.log.epoch ≤ first.fs.system.log.epoch + POINTS * length rounds
  pub ran : (s : State) → Serves (mounted first.fs s) → LastsFor (length rounds) first.fs → HasRun first.fs s now rounds
