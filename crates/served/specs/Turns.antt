-- What answering comes to: commands that are applied in order, each with its reply, and what they
-- give in the end.
use Rattle.std.specs.Prelude.{ℕ, ◌≡◌, ◌≢◌, Bool, true, false, List, [], ◌∷◌, ◌++◌, Option, Some, None, Result, Ok, Err}
use Rattle.model.specs.Paths.{IsName, parts, parts_behind, start_number}
use Rattle.model.specs.declared.command.Command.{Command}
use Rattle.model.specs.declared.errno.Errno.{Errno}
use Rattle.model.specs.declared.errno.Errno.TheVariants.{EIO}
use Rattle.model.specs.declared.reply.Reply.{Reply}
use Rattle.model.specs.declared.reply.Reply.TheVariants.{Done, Opened, Refused}
use Rattle.model.specs.declared.reply.Stat.{Stat}
use Rattle.file_system.specs.declared.file_system.FileSystem.{Ghosts}
use Rattle.file_system.specs.declared.handle.Handle.{Handle}

-- a command that was applied, its reply, and the generation of each number behind it
pub record Step : Type 0 where
  pub asked : Command
  pub answer : Reply
  pub generations : ℕ → ℕ

-- the generations behind steps, from those before them
abbrev pub generations_behind : (ℕ → ℕ) → List Step → ℕ → ℕ
generations_behind generations [] = generations
generations_behind generations (step ∷ steps) = generations_behind step.generations steps

-- What is done from the generations at its beginning: its steps, and what it gives.
abbrev pub Turn : Type 0 → Type 1
Turn R = (ℕ → ℕ) → List Step → R → Type 0

-- this is given, and nothing is asked
abbrev pub gives : {R : Type 0} → R → Turn R
gives r generations steps given = (steps ≡ []) × (given ≡ r)

-- something of this kind is given, and nothing is asked
abbrev pub gives_some : {R : Type 0} → (R → Type 0) → Turn R
gives_some P generations steps given = (steps ≡ []) × P given

-- why a command was refused; a reply that is no refusal, where a refusal is looked for, is one of
-- a kind that never comes, and counts as a fault
abbrev pub refusal_in : Reply → Errno
refusal_in (Refused errno) = errno
refusal_in _ = EIO

-- so a reply is read that tells what `tells` makes one of, or refuses
abbrev pub Reads : {A : Type 0} → (A → Reply) → Reply → Result A Errno → Type 0
Reads tells reply (Ok a) = reply ≡ tells a
Reads {A} tells reply (Err errno) = ((a : A) → reply ≢ tells a) × (errno ≡ refusal_in reply)

-- the replies that tell nothing, and of what was opened
abbrev pub told_done : Unit {0} → Reply
told_done done = Done

abbrev pub told_open : ℕ × Stat → Reply
told_open (fd, stat) = Opened fd stat

-- a command is applied, and its reply is read
abbrev pub asks : {A : Type 0} → (A → Reply) → Command → Turn (Result A Errno)
asks tells command generations steps found =
    (step : Step) × (steps ≡ step ∷ []) × (step.asked ≡ command) × Reads tells step.answer found

-- one thing is done, and then another by what the first gave
infixr 20 ◌▹◌
abbrev pub ◌▹◌ : {A B : Type 0} → Turn A → (A → Turn B) → Turn B
◌▹◌ {A} {B} first rest generations steps given =
    (a : A) × (before : List Step) × (behind : List Step) × (steps ≡ before ++ behind)
    × first generations before a × rest a (generations_behind generations before) behind given

-- the handle that a number has now
abbrev pub handle_now : ℕ → Turn Handle
handle_now n generations steps given =
    (steps ≡ []) × (given ≡ record { number = n; generation = generations n })

-- the text of a path leads from a number along names
pub record LeadsFrom (n : ℕ) (names text : List ℕ) : Type 0 where
  pub starts : start_number text ≡ Some n
  pub goes_on : parts_behind text ≡ parts names
  pub one_name : IsName names → parts_behind text ≡ names ∷ []

-- a text that leads from a number along names, or none where there is no memory for it
abbrev pub along : ℕ → List ℕ → Turn (Option (List ℕ))
along n names generations steps (Some text) = (steps ≡ []) × LeadsFrom n names text
along n names generations steps None = steps ≡ []

-- it goes on along such a text; `wants` is given where there is none
abbrev pub with_path : {R : Type 0} → R → ℕ → List ℕ → (List ℕ → Turn R) → Turn R
with_path wants n names rest = along n names ▹ (λ found. elim found [
  | Some text ↦ rest text
  | None ↦ gives wants
])

-- one turn where a test holds, else the other
abbrev pub either : {R : Type 0} → Bool → Turn R → Turn R → Turn R
either test this other = elim test [ true ↦ this | false ↦ other ]

-- there is memory for what is done, or there is none
unfoldable pub if_memory : {R : Type 0} → Turn R → Turn R → Turn R
if_memory lost done = gives_some (λ (is_had : Bool). Unit {0}) ▹ (λ is_had. either is_had done lost)

-- A command is applied, and it goes on by what is read of its reply, or by why it was refused.
abbrev pub asks_for : {A R : Type 0} → (A → Reply) → Command → (Errno → Turn R) → (A → Turn R) → Turn R
asks_for tells command refused done = asks tells command ▹ (λ found. elim found [
  | Ok a ↦ done a
  | Err errno ↦ refused errno
])

-- steps led from one file system to another
abbrev pub AreApplied : {S : Type 0} (G : Ghosts S) → S → List Step → S → Type 0
AreApplied G old [] new = new ≡ old
AreApplied {S} G old (step ∷ steps) new =
    (next : S) × G.applies old next step.asked step.answer × (step.generations ≡ G.generations next)
    × AreApplied G next steps new

-- A turn was done from one file system to another, and gave this.
abbrev pub Came : {S : Type 0} (G : Ghosts S) → S → S → {R : Type 0} → Turn R → R → Type 0
Came G old new turn given =
    (steps : List Step) × AreApplied G old steps new × turn (G.generations old) steps given
