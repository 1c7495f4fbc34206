-- Runs of commands that become durable in batches, and what a power cut in the midst of one may
-- leave.
use Rattle.std.specs.Prelude.{ℕ, ◌≡◌, ◌⊎◌, ◌≤◌, List, [], ◌∷◌, ◌++◌}
use Rattle.model.specs.declared.command.Command.{Command}
use Rattle.model.specs.declared.reply.Reply.{Reply}
use Rattle.model.specs.Circumstances.{Circumstances}
use Rattle.model.specs.Runs.{Leads, LeavesOf, MayStand, Runs}
use Rattle.model.specs.States.{State, going, as_failed}

-- Commands, with the replies that they had as they were done, and how they became durable: one by
-- itself, at its answer; some together, at one moment; or not, as the write failed that was to make
-- them so, and the system with it.
pub data Batch : Type 0 where
  alone : Command × Reply → Batch
  together : List (Command × Reply) → Batch
  lost : List (Command × Reply) → Batch

abbrev pub steps_of : Batch → List (Command × Reply)
steps_of (alone step) = step ∷ []
steps_of (together steps) = steps
steps_of (lost steps) = steps

-- the commands of batches, in their order
abbrev pub all_steps : List Batch → List (Command × Reply)
all_steps [] = []
all_steps (batch ∷ batches) = steps_of batch ++ all_steps batches

-- each command by itself
abbrev pub one_by_one : List (Command × Reply) → List Batch
one_by_one [] = []
one_by_one (step ∷ steps) = alone step ∷ one_by_one steps

-- Systems may be anything that stand for states. From one system over a command to the next system
-- there holds besides Between, of a command that is durable at its answer, and BetweenWaiting, of
-- one that waits to become durable; and Settles from the system behind such to the one where they
-- are durable.
module _ {System : Type 0} (state_of : System → State) (Settles : System → System → Type 0)
    (Between BetweenWaiting : System → Command → System → Circumstances → Type 0) where
  -- commands that wait led from a going system to another one
  pub record HasDone (f : System) (steps : List (Command × Reply)) : Type 0 where
    pub began : (state_of f).mark ≡ going
    pub done : System
    pub ran : Runs state_of BetweenWaiting f steps done
    pub goes_on : (state_of done).mark ≡ going

  -- and became durable together: that is the next system
  pub record LeadsTogether (f : System) (steps : List (Command × Reply)) (next : System) : Type 0 where
    pub was : HasDone f steps
    pub settles : Settles was.done next
    pub same : state_of next ≡ state_of was.done

  -- or not, and the next system failed where they began
  pub record IsLost (f : System) (steps : List (Command × Reply)) (next : System) : Type 0 where
    pub was : HasDone f steps
    pub failed : state_of next ≡ as_failed (state_of f)

  -- a batch leads from one system to the next
  abbrev pub LeadsBatch : System → Batch → System → Type 0
  LeadsBatch f (alone step) next = Leads state_of Between f step next
  LeadsBatch f (together steps) next = LeadsTogether f steps next
  LeadsBatch f (lost steps) next = IsLost f steps next

  -- the states that a cut may leave from a batch's start to the moment of the system behind it:
  -- never a part of the batch
  abbrev pub MayStandWhole :
      (f : System) (batch : Batch) (next : System) → LeadsBatch f batch next → State → Type 0
  MayStandWhole f (alone step) next leads t = MayStand (state_of f) step.0 (state_of next) t
  MayStandWhole f (together steps) next leads t = (t ≡ state_of f) ⊎ (t ≡ state_of next)
  MayStandWhole f (lost steps) next leads t = (t ≡ state_of f) ⊎ (t ≡ state_of leads.was.done)

  -- batches lead from one system to the last
  abbrev pub RunsBatches : System → List Batch → System → Type 0
  RunsBatches f [] last = last ≡ f
  RunsBatches f (batch ∷ batches) last =
      (next : System) × LeadsBatch f batch next × RunsBatches next batches last

  -- the states that a cut may leave where these batches are to come: the first of them may be under
  -- way
  abbrev pub IsWhole : System → List Batch → State → Type 0
  IsWhole f [] t = t ≡ state_of f
  IsWhole f (batch ∷ batches) t =
      (next : System) × (leads : LeadsBatch f batch next) × MayStandWhole f batch next leads t

  -- the states that a cut may leave in a run of batches: the one after its first batches, which are
  -- durable, or one that the next may leave, and none behind a batch that failed the system
  pub record IsPrefixOfBatches (f : System) (batches : List Batch) (t : State) : Type 0 where
    pub durable : List Batch
    pub rest : List Batch
    pub parts : batches ≡ durable ++ rest
    pub now : System
    pub ran : RunsBatches f durable now
    pub goes_on : (state_of now).mark ≡ going
    pub leaves : IsWhole now rest t

  -- What holds over a durable command holds over one that waits too, and settling before a command
  -- is as if that had taken longer.
  pub record AreSteady : Type 0 where
    pub waits : (f g : System) (command : Command) (c : Circumstances) → Between f command g c → BetweenWaiting f command g c
    pub none : (f : System) → Settles f f
    pub twice : (f g h : System) → Settles f g → Settles g h → Settles f h
    pub before : (f g h : System) (step : Command × Reply) → Settles f g → state_of g ≡ state_of f
        → Leads state_of BetweenWaiting g step h → Leads state_of BetweenWaiting f step h

  -- Images may be anything of which left_at says what a cut at a moment might have left, and Opens
  -- to which states. moment_of says how far time is at a system.
  module _ {Images : Type 0} (left_at : ℕ → Images → Type 0) (Opens : Images → State → Type 0)
      (moment_of : System → ℕ) where
    -- From moment a to b the batches lead from one system to the last: up to the moment of the
    -- system behind the first, a cut might have left the state before it or the one after the whole
    -- of it, and from then on the rest holds. Behind the last one it leaves that system's state,
    -- whatever was done since and waits to become durable.
    abbrev pub SpansBatches : System → List Batch → System → ℕ → ℕ → Type 0
    SpansBatches f [] last a b =
        (last ≡ f) × LeavesOf left_at Opens (state_of f) a b (λ t. t ≡ state_of f)
    SpansBatches f (batch ∷ batches) last a b =
        (next : System) × (leads : LeadsBatch f batch next)
        × (a ≤ moment_of next) × (moment_of next ≤ b)
        × LeavesOf left_at Opens (state_of f) a (moment_of next) (MayStandWhole f batch next leads)
        × SpansBatches next batches last (moment_of next) b
