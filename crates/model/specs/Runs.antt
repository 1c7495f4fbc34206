-- Runs of commands, and what a power cut in the midst of one may leave.
use Rattle.std.specs.Prelude.{ℕ, ◌≡◌, ◌⊎◌, ◌≤◌, List, [], ◌∷◌, ◌++◌}
use Rattle.model.specs.declared.reply.Reply.{Reply}
use Rattle.model.specs.declared.command.Command.{Command}
use Rattle.model.specs.States.{State, going, failed}
use Rattle.model.specs.Circumstances.{Circumstances, IsDone, Allowed}

-- a state within a command that is under way: the one before it, or one that it gives where nothing
-- fails; a command that failed the system is under way until the next mount
abbrev pub IsWithin : State → Command → State → Type 0
IsWithin s command t = (t ≡ s) ⊎ ((c : Circumstances) × (reply : Reply) × IsDone c s command reply t)

-- the states that a cut may leave of a going system, from a command's start to its answer
abbrev pub MayStand : State → Command → State → State → Type 0
MayStand s command new t =
    elim s.mark [ failed ↦ ⊥ | going ↦ elim new.mark [ going ↦ (t ≡ s) ⊎ (t ≡ new) | failed ↦ IsWithin s command t ] ]

-- the states that a cut may leave of a going system at a command's answer
abbrev pub MayRemain : State → Command → State → State → Type 0
MayRemain s command new t =
    elim s.mark [ failed ↦ ⊥ | going ↦ elim new.mark [ going ↦ t ≡ new | failed ↦ IsWithin s command t ] ]

-- the states that a cut may leave where these commands are to be answered: the first of them may be
-- under way
abbrev pub IsUnderWay : State → List (Command × Reply) → State → Type 0
IsUnderWay s [] t = t ≡ s
IsUnderWay s (step ∷ steps) t = IsWithin s step.0 t

-- Systems may be anything that stand for states; Between says what holds besides, from one system
-- over a command to the next system.
module _ {System : Type 0} (state_of : System → State) (Between : System → Command → System → Circumstances → Type 0) where
  -- a command with its reply leads from one system to the next
  pub record Leads (f : System) (step : Command × Reply) (next : System) : Type 0 where
    pub circumstances : Circumstances
    pub between : Between f step.0 next circumstances
    pub allowed : Allowed circumstances (state_of f) step.0 step.1 (state_of next)

  -- commands with their replies lead from one system to the last
  abbrev pub Runs : System → List (Command × Reply) → System → Type 0
  Runs f [] last = last ≡ f
  Runs f (step ∷ steps) last = (next : System) × Leads f step next × Runs next steps last

  -- the states that a cut may leave in a run: the one after its first commands, which are answered,
  -- or one within the next, and none behind a command that failed the system
  pub record IsPrefix (f : System) (steps : List (Command × Reply)) (t : State) : Type 0 where
    pub answered : List (Command × Reply)
    pub rest : List (Command × Reply)
    pub parts : steps ≡ answered ++ rest
    pub now : System
    pub ran : Runs f answered now
    pub goes_on : (state_of now).mark ≡ going
    pub leaves : IsUnderWay (state_of now) rest t

-- Images may be anything of which left_at says what a cut at a moment might have left, and Opens to
-- which states.
module _ {Images : Type 0} (left_at : ℕ → Images → Type 0) (Opens : Images → State → Type 0) where
  -- whatever a cut from moment a to b might have left opens to a state with P
  abbrev pub OpensWithin : ℕ → ℕ → (State → Type 0) → Type 0
  OpensWithin a b P = (m : ℕ) (c : Images) → a ≤ m → m ≤ b → left_at m c → (s : State) × Opens c s × P s

  -- from moment a to b a cut leaves only what one at a might
  abbrev pub LeavesNoMore : ℕ → ℕ → Type 0
  LeavesNoMore a b = (m : ℕ) (c : Images) → a ≤ m → m ≤ b → left_at m c → left_at a c

  -- what a cut from moment a to b might have left, of a system in this state: of a going one it
  -- opens to a state with P, of a failed one it is no more than at a
  abbrev pub LeavesOf : State → ℕ → ℕ → (State → Type 0) → Type 0
  LeavesOf s a b P = elim s.mark [ failed ↦ LeavesNoMore a b | going ↦ OpensWithin a b P ]

  -- moment_of says how far time is at a system
  module _ {System : Type 0} (state_of : System → State) (moment_of : System → ℕ) (Between : System → Command → System → Circumstances → Type 0) where
    -- From moment a to b the commands lead from one system to the last, each durable at its answer:
    -- up to the moment of the system behind it, a cut might have left the state before the first
    -- command or the one after it, and from then on the rest holds. So what came in a command's way
    -- came between two moments of the run.
    abbrev pub Spans : System → List (Command × Reply) → System → ℕ → ℕ → Type 0
    Spans f [] last a b = (last ≡ f) × LeavesOf (state_of f) a b (λ t. t ≡ state_of f)
    Spans f (step ∷ steps) last a b =
        (next : System) × Leads state_of Between f step next
        × (a ≤ moment_of next) × (moment_of next ≤ b)
        × LeavesOf (state_of f) a (moment_of next) (MayStand (state_of f) step.0 (state_of next))
        × Spans next steps last (moment_of next) b
