-- The generations of a mounted file system's numbers, and what a command makes of them.
use Rattle.std.specs.Prelude.{ℕ, ◌≡◌, ◌⊎◌, ◌+◌, ◌≤◌, min, length, slice_index, IsTrue, Option, MatchOption, List, [], ◌∷◌}
use Rattle.station.specs.declared.station.Station.{Ghosts}
use Rattle.model.specs.declared.command.Command.{Command}
use Rattle.model.specs.declared.limits.TheConstants.{GREATEST_GENERATION}
use Rattle.model.specs.declared.reply.Reply.{Reply}
use Rattle.model.specs.Generations.{GivesNumbers, GivesAll}
use Rattle.model.specs.Outcomes.{HasNoFresh, IsFresh}
use Rattle.model.specs.States.{State, going}
use Rattle.mount.specs.Batching.{IsAllowed, Shows}
use Rattle.handles.specs.declared.generations.Generations.{Generations}
use Rattle.handles.specs.declared.numbered.Numbered.{Numbered}
use Rattle.handles.specs.Given.{may_make}

-- a number's generation: how often the number was given to a new object, and how often a snapshot
-- was restored, up to the greatest generation
abbrev pub generation_in : Generations → ℕ → ℕ
generation_in generations n = min (slice_index generations.given.items n + generations.restored) GREATEST_GENERATION

-- a file system's number has this generation
abbrev pub generations_of : {S : Type 0} {G : Ghosts S} → Numbered S G → ℕ → ℕ
generations_of numbered = generation_in numbered.generations

-- how many numbers have a count of their own
abbrev pub count_of_numbers : {S : Type 0} {G : Ghosts S} → Numbered S G → ℕ
count_of_numbers numbered = length numbered.generations.given.items

-- the number that a command would give to a new object on a state, as far as it may make one
abbrev pub WouldGive : Command → State → Option ℕ → Type 0
WouldGive asked s number =
    MatchOption number (IsTrue (may_make asked) → HasNoFresh s.limits s.tree) (IsFresh s.limits s.tree)

-- The file system shows this state, whether what was done waits or not, and each number that an
-- object may have has a count of its own.
pub record Names {S : Type 0} {G : Ghosts S} (numbered : Numbered S G) (s : State) : Type 0 where
  -- the state that a cut leaves
  pub kept : State
  pub shows : Shows numbered.files s kept
  pub wide : s.limits.inodes ≤ count_of_numbers numbered

-- from one tree to the other, the generations are those that the numbers have then
abbrev pub GenerationsGo : State → State → (ℕ → ℕ) → (ℕ → ℕ) → Type 0
GenerationsGo s t old new = GivesNumbers s.tree t.tree old new ⊎ GivesAll old new

-- Wherever a command with this reply leads from a state to another that is shown, each number that
-- it gives to a new object gets its next generation, and each other keeps its own; after a `snap
-- restore` that is done each gets its next one.
abbrev pub KeepsGenerations : {S : Type 0} {G : Ghosts S} → Numbered S G → Numbered S G → Command → Reply → Type 0
KeepsGenerations old new asked answer =
    (s t kept : State) → Names old s → IsAllowed s asked answer t → Shows new.files t kept
    → Names new t × GenerationsGo s t (generations_of old) (generations_of new)

-- a file system whose objects are named by handles, with the state that it shows
pub record Stage (S : Type 0) (G : Ghosts S) : Type 0 where
  pub numbered : Numbered S G
  pub state : State

-- a command led from one to the other
pub record Follows {S : Type 0} {G : Ghosts S} (now next : Stage S G) : Type 0 where
  pub asked : Command
  pub answer : Reply
  pub allowed : IsAllowed now.state asked answer next.state
  -- the state that a cut leaves then
  pub kept : State
  pub shows : Shows next.numbered.files next.state kept
  pub keeps : KeepsGenerations now.numbered next.numbered asked answer

-- commands led from each to the one behind it
abbrev pub FollowInTurn : {S : Type 0} {G : Ghosts S} → Stage S G → List (Stage S G) → Type 0
FollowInTurn now [] = Unit {0}
FollowInTurn now (next ∷ rest) = Follows now next × FollowInTurn next rest

-- the last of these
abbrev pub last_stage : {S : Type 0} {G : Ghosts S} → Stage S G → List (Stage S G) → Stage S G
last_stage now [] = now
last_stage now (next ∷ rest) = last_stage next rest
