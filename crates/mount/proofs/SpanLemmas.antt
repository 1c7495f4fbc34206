-- What a run's commands leave at each moment: one command more, and the states that a cut may leave.
use Rattle.std.proofs.Common.{◌≡◌, ◌⊎◌, inl, inr, ℕ, ◌≤◌, List, [], ◌∷◌, ◌++◌, refl, sym, ap, subst, arith}
use Rattle.std.specs.Prelude.{◌↔◌}
use Rattle.std.proofs.lemmas.Bool.{cases_lt}
use Rattle.model.specs.declared.session.Session.{Session}
use Rattle.model.specs.declared.limits.Limits.{Limits}
use Rattle.model.specs.declared.command.Command.{Command}
use Rattle.model.specs.declared.reply.Reply.{Reply}
use Rattle.model.specs.Paths.{Name}
use Rattle.model.specs.Trees.{Tree}
use Rattle.model.specs.States.{State, Mark, going, failed}
use Rattle.model.specs.Circumstances.{Circumstances, Allowed}
use Rattle.model.specs.Runs.{IsWithin, MayStand, IsUnderWay, Leads, IsPrefix, OpensWithin, LeavesNoMore, LeavesOf, Spans}

pub cases_mark : (m : Mark) → (m ≡ going) ⊎ (m ≡ failed)
cases_mark going = inl refl
cases_mark failed = inr refl

-- a failed system stays as it is
failed_stays : (c : Circumstances) (limits : Limits) (tree : Tree) (snapshots : List (Name × Tree)) (said : Session) (mark : Mark) (command : Command) (reply : Reply) (t : State) → mark ≡ failed
    → Allowed c (record { limits = limits; tree = tree; snapshots = snapshots; mark = mark; session = said }) command reply t → t.mark ≡ failed
failed_stays c limits tree snapshots said failed command reply t is allowed = ap (λ (u : State). u.mark) allowed.1
failed_stays c limits tree snapshots said going command reply t is allowed = cc

-- what may stand while a command is under way, by the marks before it and after it
module _ (s : State) (command : Command) (new t : State) where
  abbrev stands_by : Mark → Mark → Type 0
  stands_by m n = elim m [ failed ↦ ⊥ | going ↦ elim n [ going ↦ (t ≡ s) ⊎ (t ≡ new) | failed ↦ IsWithin s command t ] ]

  pub stands_going : s.mark ≡ going → new.mark ≡ going → MayStand s command new t ↔ ((t ≡ s) ⊎ (t ≡ new))
  stands_going is then = (
    λ stands. subst (λ (m : Mark). stands_by m going) is (subst (λ (n : Mark). stands_by s.mark n) then stands),
    λ one. subst (λ (n : Mark). stands_by s.mark n) (sym then) (subst (λ (m : Mark). stands_by m going) (sym is) one),
  )

  pub stands_failed : s.mark ≡ going → new.mark ≡ failed → MayStand s command new t ↔ IsWithin s command t
  stands_failed is then = (
    λ stands. subst (λ (m : Mark). stands_by m failed) is (subst (λ (n : Mark). stands_by s.mark n) then stands),
    λ one. subst (λ (n : Mark). stands_by s.mark n) (sym then) (subst (λ (m : Mark). stands_by m failed) (sym is) one),
  )

-- the state before it may
pub stands_before : (s : State) (command : Command) (new : State) → s.mark ≡ going → MayStand s command new s
stands_before s command new is = elim (cases_mark new.mark) [
  | inl then ↦ (stands_going s command new s is then).1 (inl refl)
  | inr then ↦ (stands_failed s command new s is then).1 (inl refl)
]

pub under_way_now : (s : State) (steps : List (Command × Reply)) → IsUnderWay s steps s
under_way_now s [] = refl
under_way_now s (step ∷ steps) = inl refl

module _ {Images : Type 0} (left_at : ℕ → Images → Type 0) (Opens : Images → State → Type 0) where
  abbrev leaves_by : Mark → ℕ → ℕ → (State → Type 0) → Type 0
  leaves_by m a b P = elim m [ failed ↦ LeavesNoMore left_at Opens a b | going ↦ OpensWithin left_at Opens a b P ]

  pub leaves_going : (s : State) (a b : ℕ) (P : State → Type 0) → s.mark ≡ going → LeavesOf left_at Opens s a b P ↔ OpensWithin left_at Opens a b P
  leaves_going s a b P is = (λ leaves. subst (λ (m : Mark). leaves_by m a b P) is leaves, λ opens. subst (λ (m : Mark). leaves_by m a b P) (sym is) opens)

  pub leaves_failed : (s : State) (a b : ℕ) (P : State → Type 0) → s.mark ≡ failed → LeavesOf left_at Opens s a b P ↔ LeavesNoMore left_at Opens a b
  leaves_failed s a b P is = (λ leaves. subst (λ (m : Mark). leaves_by m a b P) is leaves, λ more. subst (λ (m : Mark). leaves_by m a b P) (sym is) more)

  pub no_more_twice : (a m b : ℕ) → a ≤ m → LeavesNoMore left_at Opens a m → LeavesNoMore left_at Opens m b → LeavesNoMore left_at Opens a b
  no_more_twice a m b low first second t c from to left = elim (cases_lt m t) [
    | inl late ↦ first m c low (omega arith) (second t c (omega arith) to left)
    | inr early ↦ first t c from early left
  ]

module _ {System : Type 0} (state_of : System → State) (Between : System → Command → System → Circumstances → Type 0) where
  pub stays_failed : (f next : System) (step : Command × Reply) → Leads state_of Between f step next → (state_of f).mark ≡ failed → (state_of next).mark ≡ failed
  stays_failed f next step leads is =
      let s = state_of f in failed_stays leads.circumstances s.limits s.tree s.snapshots s.session s.mark step.0 step.1 (state_of next) is leads.allowed

  -- a prefix of the rest, behind one command
  prefix_behind : (f next : System) (step : Command × Reply) (steps : List (Command × Reply)) (t : State) → Leads state_of Between f step next
      → IsPrefix state_of Between next steps t → IsPrefix state_of Between f (step ∷ steps) t
  prefix_behind f next step steps t leads is = record {
    answered = step ∷ is.answered;
    rest = is.rest;
    parts = ap (λ (l : List (Command × Reply)). step ∷ l) is.parts;
    now = is.now;
    ran = (next, leads, is.ran);
    goes_on = is.goes_on;
    leaves = is.leaves;
  }

  -- no command was answered
  pub prefix_first : (f : System) (steps : List (Command × Reply)) (t : State) → (state_of f).mark ≡ going → IsUnderWay (state_of f) steps t → IsPrefix state_of Between f steps t
  prefix_first f steps t goes_on is = record { answered = []; rest = steps; parts = refl; now = f; ran = refl; goes_on = goes_on; leaves = is }

  -- what may stand while the first command is under way
  pub stands_prefix : (f next : System) (step : Command × Reply) (steps : List (Command × Reply)) (t : State) → Leads state_of Between f step next → (state_of f).mark ≡ going
      → MayStand (state_of f) step.0 (state_of next) t → IsPrefix state_of Between f (step ∷ steps) t
  stands_prefix f next step steps t leads is stands =
      let s = state_of f in
      let u = state_of next in
      let after : u.mark ≡ going → t ≡ u → IsPrefix state_of Between f (step ∷ steps) t = λ goes_on same.
      prefix_behind f next step steps t leads (prefix_first next steps t goes_on (subst (λ (v : State). IsUnderWay u steps v) (sym same) (under_way_now u steps))) in
      elim (cases_mark u.mark) [
        | inr then ↦ prefix_first f (step ∷ steps) t is ((stands_failed s step.0 u t is then).0 stands)
        | inl then ↦ elim ((stands_going s step.0 u t is then).0 stands) [
          | inl before ↦ prefix_first f (step ∷ steps) t is (inl before)
          | inr same ↦ after then same
        ]
      ]

  module _ {Images : Type 0} (moment_of : System → ℕ) (left_at : ℕ → Images → Type 0) (Opens : Images → State → Type 0) where
    -- a failed system leaves no more
    pub spans_failed : (f : System) (steps : List (Command × Reply)) (last : System) (a b : ℕ) → Spans left_at Opens state_of moment_of Between f steps last a b → (state_of f).mark ≡ failed
        → LeavesNoMore left_at Opens a b
    spans_failed f [] last a b spans is = (leaves_failed left_at Opens (state_of f) a b (λ t. t ≡ state_of f) is).0 spans.1
    spans_failed f (step ∷ steps) last a b spans is =
        let next = spans.0 in
        let m = moment_of next in
        no_more_twice left_at Opens a m b spans.2
        ((leaves_failed left_at Opens (state_of f) a m (MayStand (state_of f) step.0 (state_of next)) is).0 spans.4)
        (spans_failed next steps last m b spans.5 (stays_failed f next step spans.1 is))

    -- a cut within a run leaves a prefix of it
    pub spans_prefix : (f : System) (steps : List (Command × Reply)) (last : System) (a b : ℕ) → Spans left_at Opens state_of moment_of Between f steps last a b → (state_of f).mark ≡ going
        → OpensWithin left_at Opens a b (IsPrefix state_of Between f steps)
    spans_prefix f [] last a b spans is t c from to left =
        let there = (leaves_going left_at Opens (state_of f) a b (λ u. u ≡ state_of f) is).0 spans.1 t c from to left in
        (there.0, there.1, prefix_first f [] there.0 is there.2)
    spans_prefix f (step ∷ steps) last a b spans is t c from to left =
        let next = spans.0 in
        let m = moment_of next in
        let within = (leaves_going left_at Opens (state_of f) a m (MayStand (state_of f) step.0 (state_of next)) is).0 spans.4 in
        let first : (u : ℕ) → a ≤ u → u ≤ m → left_at u c → (s : State) × Opens c s × IsPrefix state_of Between f (step ∷ steps) s =
        λ u low high here.
        let there = within u c low high here in
        (there.0, there.1, stands_prefix f next step steps there.0 spans.1 is there.2) in
        elim (cases_lt m t) [
          | inr early ↦ first t from early left
          | inl late ↦ elim (cases_mark (state_of next).mark) [
            | inl then ↦
                let there = spans_prefix next steps last m b spans.5 then t c (omega arith) to left in
                (there.0, there.1, prefix_behind f next step steps there.0 spans.1 there.2)
            | inr then ↦ first m spans.2 (omega arith) (spans_failed next steps last m b spans.5 then t c (omega arith) to left)
          ]
        ]

    -- what a system leaves while the last command of a run, which was its first so far, is under way too
    leaves_longer : (s : State) (command : Command) (new : State) (a m b : ℕ) → a ≤ m → LeavesOf left_at Opens s a m (λ t. t ≡ s)
        → LeavesOf left_at Opens s m b (MayStand s command new) → LeavesOf left_at Opens s a b (MayStand s command new)
    leaves_longer s command new a m b low first second = elim (cases_mark s.mark) [
      | inr is ↦ (leaves_failed left_at Opens s a b (MayStand s command new) is).1
          (no_more_twice left_at Opens a m b low ((leaves_failed left_at Opens s a m (λ t. t ≡ s) is).0 first) ((leaves_failed left_at Opens s m b (MayStand s command new) is).0 second))
      | inl is ↦ (leaves_going left_at Opens s a b (MayStand s command new) is).1 (λ t c from to left. elim (cases_lt m t) [
        | inl late ↦ (leaves_going left_at Opens s m b (MayStand s command new) is).0 second t c (omega arith) to left
        | inr early ↦
            let there = (leaves_going left_at Opens s a m (λ u. u ≡ s) is).0 first t c from early left in
            (there.0, there.1, subst (MayStand s command new) (sym there.2) (stands_before s command new is))
      ])
    ]

    -- one command more
    pub spans_push : (f : System) (steps : List (Command × Reply)) (last new : System) (step : Command × Reply) (a b : ℕ) → a ≤ b → b ≤ moment_of new
        → Spans left_at Opens state_of moment_of Between f steps last a b → Leads state_of Between last step new
        → LeavesOf left_at Opens (state_of last) b (moment_of new) (MayStand (state_of last) step.0 (state_of new))
        → LeavesOf left_at Opens (state_of new) (moment_of new) (moment_of new) (λ t. t ≡ state_of new) → Spans left_at Opens state_of moment_of Between f (steps ++ step ∷ []) new a (moment_of new)
    spans_push f [] last new step a b low high spans leads leaves ends =
        let s = state_of new in
        let end = moment_of new in
        let rest = subst (λ (g : System). LeavesOf left_at Opens (state_of g) b end (MayStand (state_of g) step.0 s)) spans.0 leaves in
        let whole = leaves_longer (state_of f) step.0 s a b end low spans.1 rest in
        (new, subst (λ (g : System). Leads state_of Between g step new) spans.0 leads, omega arith, omega arith, whole, (refl, ends))
    spans_push f (first ∷ steps) last new step a b low high spans leads leaves ends =
        let rest = spans_push spans.0 steps last new step (moment_of spans.0) b spans.3 high spans.5 leads leaves ends in
        (spans.0, spans.1, spans.2, omega (arith, spans.3), spans.4, rest)

  -- the same moments as they are told later
  module _ {Images : Type 0} (moment_of : System → ℕ) (old_left new_left : ℕ → Images → Type 0) (OldOpens NewOpens : Images → State → Type 0) (now : ℕ)
      (kept : (t : ℕ) (c : Images) → t ≤ now → new_left t c ↔ old_left t c) (opens : (c : Images) (s : State) → OldOpens c s → NewOpens c s) where
    pub leaves_later : (s : State) (a b : ℕ) (P : State → Type 0) → a ≤ b → b ≤ now → LeavesOf old_left OldOpens s a b P → LeavesOf new_left NewOpens s a b P
    leaves_later s a b P order past leaves = elim (cases_mark s.mark) [
      | inl is ↦ (leaves_going new_left NewOpens s a b P is).1 (λ t c from to left.
          let there = (leaves_going old_left OldOpens s a b P is).0 leaves t c from to ((kept t c (omega arith)).0 left) in
          (there.0, opens c there.0 there.1, there.2))
      | inr is ↦ (leaves_failed new_left NewOpens s a b P is).1 (λ t c from to left.
          (kept a c (omega arith)).1 ((leaves_failed old_left OldOpens s a b P is).0 leaves t c from to ((kept t c (omega arith)).0 left)))
    ]

    pub spans_later : (f : System) (steps : List (Command × Reply)) (last : System) (a b : ℕ) → a ≤ b → b ≤ now → Spans old_left OldOpens state_of moment_of Between f steps last a b
        → Spans new_left NewOpens state_of moment_of Between f steps last a b
    spans_later f [] last a b order past spans = (spans.0, leaves_later (state_of f) a b (λ t. t ≡ state_of f) order past spans.1)
    spans_later f (step ∷ steps) last a b order past spans =
        let m = moment_of spans.0 in
        let first = leaves_later (state_of f) a m (MayStand (state_of f) step.0 (state_of spans.0)) spans.2 (omega (arith, spans.3)) spans.4 in
        (spans.0, spans.1, spans.2, spans.3, first, spans_later spans.0 steps last m b spans.3 past spans.5)
