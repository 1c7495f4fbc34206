-- How far a session is whose commands may wait: which lines are answered, and which replies are kept.
use Rattle.std.specs.Io.KnownBytes.{Appends}
use Rattle.std.specs.Prelude.{ℕ, ◌≡◌, ◌⊎◌, ◌++◌, ◌∷◌, Bool, false, List, [], Option, Some, None, Result, Ok, Err, All, MatchResult, if◌then◌else◌, take}
use Rattle.model.specs.declared.command.Command.{Command}
use Rattle.model.specs.declared.errno.Errno.{Errno}
use Rattle.model.specs.declared.reply.Reply.{Reply}
use Rattle.model.specs.declared.reply.Reply.TheVariants.{Refused as refused}
use Rattle.station.specs.declared.station.Station.{Ghosts}
use Rattle.mount.specs.Batching.{AppliesAlone}
use Rattle.mount.specs.declared.waiting.Waiting.{Waiting}
use Rattle.session.specs.Answers.{is_refusal}
use Rattle.session.specs.Rounds.{AddsLine, AreAnswered, Commits, IsKept, Round, WaitAll, dialog_of, promises, said_behind, said_lost, told}
use Rattle.session.specs.Shells.{Dialog, LineComesTo, said}
use Rattle.session.specs.Talks.{EndsShown, LeadsUnanswered, Unanswered}
use Rattle.session.specs.declared.durability.Durability.{Durability}
use Rattle.session.specs.declared.durability.Durability.TheVariants.{Together, Deferred}
use Rattle.session.specs.declared.kept.Kept.{Kept}
use Rattle.session.specs.declared.settling.Done.{Done}
use Rattle.session.specs.declared.status.Status.{Status}
use Rattle.session.specs.declared.status.Status.TheVariants.{FileFault, NoMemory}

-- deferred, no reply that is kept is a promise, but where the last one is
abbrev pub PromisesNone : Durability → Bool → Dialog → Type 0
PromisesNone Together promised lines = Unit {0}
PromisesNone (Deferred milliseconds bytes) promised lines = promised ≡ false → All (λ line. promises line.1 ≡ false) lines

-- a line's command was refused
abbrev pub is_refused_step : Option (Command × Reply) → Bool
is_refused_step None = false
is_refused_step (Some step) = is_refusal step.1

-- how what is kept is shown, and what a writer's known bytes gained by it
abbrev pub ShowsKept : Dialog → Bool → Option (List ℕ) → Option (List ℕ) → Kept → Result (Unit {0}) Status → Type 0
ShowsKept lines is_lost old new kept (Ok done) = Appends old new (if is_lost then said_lost lines else said lines) × IsKept kept []
ShowsKept lines is_lost old new kept (Err FileFault) = (k : ℕ) × Appends old new (take k (if is_lost then said_lost lines else said lines))
ShowsKept lines is_lost old new kept (Err status) = ⊥

-- a line that is no command was answered
abbrev pub DoesNothing : Kept → Kept → List ℕ → Result Done Status → Type 0
DoesNothing old new line result =
    MatchResult result (λ did. AddsLine old new line None × (did.is_refused ≡ false) × (did.is_promise ≡ false)) (λ status. status ≡ NoMemory)

-- A command that can't wait, behind a commit of what waited: it is done alone, or isn't done where that
-- failed.
abbrev pub AnswersBehind : {S : Type 0} {G : Ghosts S} → Result (Unit {0}) Errno → Waiting S G → Waiting S G → Command → Reply → Type 0
AnswersBehind (Ok done) old new command reply = AppliesAlone old new command reply
AnswersBehind (Err errno) old new command reply = (new ≡ old) × (reply ≡ refused errno)

module _ {S : Type 0} {G : Ghosts S} (d : Durability) (first now : Waiting S G) (out bytes : Option (List ℕ)) where
  -- These lines were done. Rounds of them are answered, and the replies of the others are kept.
  pub record IsUnderWay (kept : Kept) (dialog : Dialog) (promised : Bool) : Type 0 where
    pub rounds : List Round
    pub border : Waiting S G
    pub lines : Dialog
    pub answered : AreAnswered d first border rounds
    pub waits : WaitAll border now lines
    pub owes : IsKept kept lines
    pub shows : Appends out bytes (told rounds)
    pub is : dialog_of rounds ++ lines ≡ dialog
    pub none : PromisesNone d promised lines

  -- one line more was done
  pub record GoesOn (kept : Kept) (dialog : Dialog) (line : List ℕ) (promised is_refused : Bool) : Type 0 where
    pub step : Option (Command × Reply)
    pub comes : LineComesTo line step
    pub under_way : IsUnderWay kept (dialog ++ (line, step) ∷ []) promised
    pub refused : is_refused ≡ is_refused_step step

  -- A commit came to this, and the replies that were kept are shown behind it.
  pub record IsSettled (kept : Kept) (was_cut : Bool → Type 0) (dialog : Dialog) (done : Result (Unit {0}) Errno) : Type 0 where
    pub rounds : List Round
    pub border : Waiting S G
    pub lines : Dialog
    pub answered : AreAnswered d first border rounds
    pub commits : Commits border now lines done
    pub owes : IsKept kept []
    pub shows : Appends out bytes (told rounds ++ said_behind done lines)
    pub is : dialog_of rounds ++ lines ≡ dialog
    pub going : was_cut false

  -- The answers ended behind rounds that are shown whole.
  pub record HasStopped (was_cut : Bool → Type 0) (dialog : Dialog) (status : Status) : Type 0 where
    pub rounds : List Round
    pub mid : Waiting S G
    pub shown : Option (List ℕ)
    pub rest : Unanswered
    pub more : Dialog
    pub answered : AreAnswered d first mid rounds
    pub shows : Appends out shown (told rounds)
    pub leads : LeadsUnanswered d mid now rest
    pub ends : EndsShown was_cut rest shown bytes status
    pub is : dialog_of rounds ++ more ≡ dialog

  -- they ended at a line, or behind it
  abbrev pub StopsBy : (Bool → Type 0) → Dialog → List ℕ → Status → Type 0
  StopsBy was_cut dialog line status = (at : Dialog) × HasStopped was_cut at status
      × ((at ≡ dialog) ⊎ ((step : Option (Command × Reply)) × LineComesTo line step × (at ≡ dialog ++ (line, step) ∷ [])))

  -- they ended where all is answered, for this reason, and nothing waits any more; or before that
  abbrev pub EndsAt : (Bool → Type 0) → Dialog → Status → Status → Type 0
  EndsAt was_cut dialog why status =
      ((status ≡ why) × ((kept : Kept) × ((done : Result (Unit {0}) Errno) × IsSettled kept was_cut dialog done)))
      ⊎ HasStopped was_cut dialog status
