-- A session whose commands may wait: how it ends.
use Rattle.std.specs.Prelude.{ℕ, ◌≡◌, ◌≢◌, ◌⊎◌, ◌∷◌, ◌++◌, Bool, true, false, IsFalse, IsTrue, List, [], Option, Some, None, Result, Ok, Err, All, codes, if◌then◌else◌, ◌==◌, take}
use Rattle.std.specs.Fmt.{decimal}
use Rattle.std.specs.Io.KnownBytes.{Appends, IsAtEnd}
use Rattle.model.specs.declared.command.Command.{Command}
use Rattle.model.specs.declared.errno.Errno.{Errno}
use Rattle.model.specs.declared.reply.Reply.{Reply}
use Rattle.station.specs.declared.station.Station.{Ghosts}
use Rattle.system.specs.Waits.{none_waits}
use Rattle.mount.specs.Batching.{AppliesAlone, CommitsAll}
use Rattle.mount.specs.declared.fs.Fs.{Fs}
use Rattle.mount.specs.declared.waiting.Waiting.{Waiting}
use Rattle.session.specs.Answers.{cut_line, is_refusal, shown}
use Rattle.session.specs.Rounds.{AreAnswered, IsKept, LeadsRound, Round, WaitAll, dialog_of, told, told_of}
use Rattle.session.specs.Sessions.{AreDone, EndsRefused, EndsUnrun, IsMounted, Written}
use Rattle.session.specs.Shells.{Dialog, HasNotListened, LineComesTo, TakesLines, steps_of}
use Rattle.session.specs.declared.durability.Durability.{Durability}
use Rattle.session.specs.declared.ending.Ending.{Ending}
use Rattle.session.specs.declared.ending.Ending.TheVariants as ending
use Rattle.session.specs.declared.ending.Fault.TheVariants as fault
use Rattle.session.specs.declared.in_batches.Manners.{Manners}
use Rattle.session.specs.declared.status.Status.{Status}
use Rattle.session.specs.declared.status.Status.TheVariants.{Done, FileFault, Cut, NoMemory, Refused}

-- What was done and isn't answered whole: a round, one command that can't wait behind a commit, or
-- lines that wait.
pub data Unanswered : Type 0 where
  round : Round → Unanswered
  single : Command → Reply → Unanswered
  lines : Dialog → Unanswered

-- what is due of it
abbrev pub due_of : Unanswered → List ℕ
due_of (round r) = told_of r
due_of (single c reply) = shown reply
due_of (lines ls) = []

abbrev pub LeadsUnanswered : {S : Type 0} {G : Ghosts S} → Durability → Waiting S G → Waiting S G → Unanswered → Type 0
LeadsUnanswered d old new (round r) = LeadsRound d old new r
LeadsUnanswered d old new (single c reply) = AppliesAlone old new c reply ⊎ ((new ≡ old) × is_refusal reply ≡ true × IsTrue old.fs.has_failed)
LeadsUnanswered d old new (lines ls) = WaitAll old new ls

-- how the answers end behind those that are shown whole, and what a writer's known bytes gained by
-- that: a beginning of what is due
abbrev pub EndsShown : (Bool → Type 0) → Unanswered → Option (List ℕ) → Option (List ℕ) → Status → Type 0
EndsShown was_cut rest old new Cut = was_cut true × Appends old new cut_line
EndsShown was_cut rest old new FileFault = (line : List ℕ) × ((k : ℕ) × ((line ≡ due_of rest) ⊎ (line ≡ cut_line)) × Appends old new (take k line))
EndsShown was_cut rest old new NoMemory = Appends old new []
EndsShown was_cut rest old new status = ⊥

-- lines were taken from known bytes, and are what they came to
pub record AreTaken (input left : Option (List ℕ)) (dialog : Dialog) : Type 0 where
  pub comes : All (λ line. LineComesTo line.0 line.1) dialog
  pub taken : TakesLines input left dialog

-- Lines were read and answered whole, in these rounds: `bytes` is what a writer's known bytes were
-- then.
pub record HasTold {S : Type 0} {G : Ghosts S} (d : Durability) (first now : Waiting S G) (input left out bytes : Option (List ℕ)) (rounds : List Round) : Type 0 where
  pub answered : AreAnswered d first now rounds
  pub taken : AreTaken input left (dialog_of rounds)
  pub shows : Appends out bytes (told rounds)

-- How the answers to lines end: at the end of the input or behind a refusal, where nothing waits any
-- more, or behind some that are shown whole.
abbrev pub EndsTalking : {S : Type 0} {G : Ghosts S} → Manners → Waiting S G → Waiting S G → (Bool → Type 0) → Option (List ℕ) → Option (List ℕ) → Option (List ℕ) → Status → Type 0
EndsTalking {S} {G} m first now was_cut input out out' Done =
    (rounds : List Round) × ((left : Option (List ℕ)) × HasTold m.durability first now input left out out' rounds × IsAtEnd left
    × (IsTrue m.stops → AreDone (steps_of (dialog_of rounds))) × (now.records ≡ none_waits) × was_cut false)
EndsTalking {S} {G} m first now was_cut input out out' Refused =
    (rounds : List Round) × ((left : Option (List ℕ)) × HasTold m.durability first now input left out out' rounds
    × IsTrue m.stops × EndsRefused (steps_of (dialog_of rounds)) × (now.records ≡ none_waits) × was_cut false)
EndsTalking {S} {G} m first now was_cut input out out' status =
    (rounds : List Round) × ((left : Option (List ℕ)) × ((bytes : Option (List ℕ)) × ((mid : Waiting S G) × HasTold m.durability first mid input left out bytes rounds
    × ((rest : Unanswered) × LeadsUnanswered m.durability mid now rest × EndsShown was_cut rest bytes out' status))))

-- what tells that commands are lost that were answered
abbrev pub lost_text : ℕ → List ℕ
lost_text n = if n == 1 then codes "wafl: the last command is lost\n" else (codes "wafl: the last " ++ decimal n ++ codes " commands are lost\n")

-- How the last commit ends a session whose answers ended so: where it failed, commands may be lost that
-- were answered, and so many are told, if that can be.
abbrev pub EndsLost : Result (Unit {0}) Errno → Option (List ℕ) → Option (List ℕ) → Status → Status → Type 0
EndsLost (Ok done) old new why status = (status ≡ why) × (new ≡ old)
EndsLost (Err errno) old new why status =
    ((status ≡ why) × (new ≡ old)) ⊎ ((status ≡ FileFault) × ((n : ℕ) × ((k : ℕ) × Appends old new (take k (lost_text n)))))

-- The station was mounted, and lines were answered, all in the words of `mount` and `Waiting`. In
-- the end what waited was made durable.
pub record HasTalked {S : Type 0} (G : Ghosts S) (m : Manners) (was_cut : S → Bool → Type 0) (old new : S) (input : Option (List ℕ)) (w w' : Written) (faulted : Type 0) (status : Status) : Type 0 where
  pub fs : Fs S G
  pub is_mounted : IsMounted (G.meaning old) fs
  pub first : Waiting S G
  pub begins : (first.fs ≡ fs) × (first.records ≡ none_waits)
  -- behind the last line
  pub heard : Waiting S G
  pub why : Status
  pub ends : EndsTalking m first heard (was_cut heard.fs.system.blocks.buffers.station) input w.out w'.out why
  -- behind the last commit
  pub last : Waiting S G
  pub done : Result (Unit {0}) Errno
  pub commits : CommitsAll heard last done
  pub station : last.fs.system.blocks.buffers.station ≡ new
  -- standard error behind the last line
  pub told : Option (List ℕ)
  pub quiet : m.prompts ≡ false → told ≡ w.err
  pub tells : EndsLost done told w'.err why status
  pub fault : why ≡ FileFault → faulted

-- how a session over lines ended
abbrev pub EndsInBatches : {S : Type 0} (G : Ghosts S) → Manners → (S → Bool → Type 0) → S → S → Option (List ℕ) → Option (List ℕ) → Written → Written → Type 0 → Ending → Type 0
EndsInBatches G m was_cut old new input input' w w' faulted (ending.Ran status) = HasTalked G m was_cut old new input w w' faulted status
EndsInBatches G m was_cut old new input input' w w' faulted (ending.Unrun (fault.Mount error) status) = HasNotListened G old new input input' w w' error status
EndsInBatches G m was_cut old new input input' w w' faulted (ending.Unrun fault status) = ⊥

-- how one over a script did: one that has a bad line isn't run
abbrev pub EndsScript : {S : Type 0} (G : Ghosts S) → List ℕ → Manners → (S → Bool → Type 0) → S → S → Written → Written → Ending → Type 0
EndsScript G script m was_cut old new w w' (ending.Ran status) = HasTalked G m was_cut old new (Some script) w w' (Unit {0}) status
EndsScript G script m was_cut old new w w' (ending.Unrun fault status) = EndsUnrun G script old new w w' fault status
