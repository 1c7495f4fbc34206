-- What runs in batches leave at each moment.
use Rattle.std.proofs.Common.{◌≡◌, ◌⊎◌, inl, inr, ℕ, ◌≤◌, List, [], ◌∷◌, ◌++◌, refl, sym, ap, subst, ◌∙◌, arith}
use Rattle.std.specs.Prelude.{◌↔◌}
use Rattle.std.proofs.lemmas.Bool.{cases_lt}
use Rattle.model.specs.declared.command.Command.{Command}
use Rattle.model.specs.declared.reply.Reply.{Reply}
use Rattle.model.specs.States.{State, going, failed}
use Rattle.model.specs.Circumstances.{Circumstances}
use Rattle.model.specs.Runs.{LeavesNoMore, LeavesOf, OpensWithin, Runs, Spans}
use Rattle.mount.specs.Batches.{Batch, together, lost, IsLost, IsPrefixOfBatches, LeadsBatch, LeadsTogether, MayStandWhole, RunsBatches, SpansBatches, one_by_one}
use Rattle.mount.proofs.SpanLemmas.{cases_mark, leaves_failed, leaves_going, leaves_later, no_more_twice}
use Rattle.mount.proofs.BatchLemmas.{batch_failed, batches_behind, batches_first, stands_first}

module _ {Images : Type 0} (left_at : ℕ → Images → Type 0) (Opens : Images → State → Type 0) where
  -- what a system leaves up to a moment, with what it leaves from there on
  leaves_on : (s : State) (a m b : ℕ) (First P : State → Type 0) → (s.mark ≡ going → (t : State) → First t → P t) → a ≤ m
      → LeavesOf left_at Opens s a m First → LeavesOf left_at Opens s m b P → LeavesOf left_at Opens s a b P
  leaves_on s a m b First P weaker low first second = elim (cases_mark s.mark) [
    | inr is ↦ (leaves_failed left_at Opens s a b P is).1
        (no_more_twice left_at Opens a m b low ((leaves_failed left_at Opens s a m First is).0 first) ((leaves_failed left_at Opens s m b P is).0 second))
    | inl is ↦ (leaves_going left_at Opens s a b P is).1 (λ t c from to left. elim (cases_lt m t) [
      | inl late ↦ (leaves_going left_at Opens s m b P is).0 second t c (omega arith) to left
      | inr early ↦
          let there = (leaves_going left_at Opens s a m First is).0 first t c from early left in
          (there.0, there.1, weaker is there.0 there.2)
    ])
  ]

module _ {System : Type 0} (state_of : System → State) (Settles : System → System → Type 0) (Between BetweenWaiting : System → Command → System → Circumstances → Type 0) where
  module _ {Images : Type 0} (left_at : ℕ → Images → Type 0) (Opens : Images → State → Type 0) (moment_of : System → ℕ) where
    -- a failed system leaves no more
    pub batches_failed : (f : System) (batches : List Batch) (last : System) (a b : ℕ) → SpansBatches state_of Settles Between BetweenWaiting left_at Opens moment_of f batches last a b
        → (state_of f).mark ≡ failed → LeavesNoMore left_at Opens a b
    batches_failed f [] last a b spans is = (leaves_failed left_at Opens (state_of f) a b (λ t. t ≡ state_of f) is).0 spans.1
    batches_failed f (batch ∷ batches) last a b spans is =
        let next = spans.0 in
        let m = moment_of next in
        no_more_twice left_at Opens a m b spans.2
        ((leaves_failed left_at Opens (state_of f) a m (MayStandWhole state_of Settles Between BetweenWaiting f batch next spans.1) is).0 spans.4)
        (batches_failed next batches last m b spans.5 (batch_failed state_of Settles Between BetweenWaiting f batch next spans.1 is))

    -- a cut within a run in batches leaves whole batches
    pub batches_whole : (f : System) (batches : List Batch) (last : System) (a b : ℕ) → SpansBatches state_of Settles Between BetweenWaiting left_at Opens moment_of f batches last a b
        → (state_of f).mark ≡ going → OpensWithin left_at Opens a b (IsPrefixOfBatches state_of Settles Between BetweenWaiting f batches)
    batches_whole f [] last a b spans is t c from to left =
        let there = (leaves_going left_at Opens (state_of f) a b (λ u. u ≡ state_of f) is).0 spans.1 t c from to left in
        (there.0, there.1, batches_first state_of Settles Between BetweenWaiting f [] there.0 is there.2)
    batches_whole f (batch ∷ batches) last a b spans is t c from to left =
        let next = spans.0 in
        let m = moment_of next in
        let within = (leaves_going left_at Opens (state_of f) a m (MayStandWhole state_of Settles Between BetweenWaiting f batch next spans.1) is).0 spans.4 in
        let first : (u : ℕ) → a ≤ u → u ≤ m → left_at u c → (s : State) × Opens c s × IsPrefixOfBatches state_of Settles Between BetweenWaiting f (batch ∷ batches) s =
        λ u low high here.
        let there = within u c low high here in
        (there.0, there.1, batches_first state_of Settles Between BetweenWaiting f (batch ∷ batches) there.0 is (next, spans.1, there.2)) in
        elim (cases_lt m t) [
          | inr early ↦ first t from early left
          | inl late ↦ elim (cases_mark (state_of next).mark) [
            | inl then ↦
                let there = batches_whole next batches last m b spans.5 then t c (omega arith) to left in
                (there.0, there.1, batches_behind state_of Settles Between BetweenWaiting f next batch batches there.0 spans.1 there.2)
            | inr then ↦ first m spans.2 (omega arith) (batches_failed next batches last m b spans.5 then t c (omega arith) to left)
          ]
        ]

    -- of commands that waited a cut leaves all or none
    all_together : (f : System) (steps : List (Command × Reply)) (last : System) (a b : ℕ) → SpansBatches state_of Settles Between BetweenWaiting left_at Opens moment_of f (together steps ∷ []) last a b
        → (done : System) × Runs state_of BetweenWaiting f steps done × OpensWithin left_at Opens a b (λ t. (t ≡ state_of f) ⊎ (t ≡ state_of done))
    all_together f steps last a b spans =
        let next = spans.0 in
        let m = moment_of next in
        let leads = spans.1 in
        let within = (leaves_going left_at Opens (state_of f) a m (λ t. (t ≡ state_of f) ⊎ (t ≡ state_of next)) leads.was.began).0 spans.4 in
        let then = (leaves_going left_at Opens (state_of next) m b (λ t. t ≡ state_of next) (ap (λ (s : State). s.mark) leads.same ∙ leads.was.goes_on)).0 spans.5.1 in (
          leads.was.done,
          leads.was.ran,
          λ t c from to left. elim (cases_lt m t) [
            | inr early ↦ let there = within t c from early left in (there.0, there.1, elim there.2 [ inl before ↦ inl before | inr after ↦ inr (after ∙ leads.same) ])
            | inl late ↦ let there = then t c (omega arith) to left in (there.0, there.1, inr (there.2 ∙ leads.same))
          ],
        )

    all_lost : (f : System) (steps : List (Command × Reply)) (last : System) (a b : ℕ) → SpansBatches state_of Settles Between BetweenWaiting left_at Opens moment_of f (lost steps ∷ []) last a b
        → (done : System) × Runs state_of BetweenWaiting f steps done × OpensWithin left_at Opens a b (λ t. (t ≡ state_of f) ⊎ (t ≡ state_of done))
    all_lost f steps last a b spans =
        let next = spans.0 in
        let m = moment_of next in
        let leads = spans.1 in
        let within = (leaves_going left_at Opens (state_of f) a m (λ t. (t ≡ state_of f) ⊎ (t ≡ state_of leads.was.done)) leads.was.began).0 spans.4 in
        let more = batches_failed next [] last m b spans.5 (ap (λ (s : State). s.mark) leads.failed) in (
          leads.was.done,
          leads.was.ran,
          λ t c from to left. elim (cases_lt m t) [
            | inr early ↦ within t c from early left
            | inl late ↦ within m c spans.2 (omega arith) (more t c (omega arith) to left)
          ],
        )

    pub all_or_none : (f : System) (batch : Batch) (steps : List (Command × Reply)) (last : System) (a b : ℕ) → (batch ≡ together steps) ⊎ (batch ≡ lost steps)
        → SpansBatches state_of Settles Between BetweenWaiting left_at Opens moment_of f (batch ∷ []) last a b
        → (done : System) × Runs state_of BetweenWaiting f steps done × OpensWithin left_at Opens a b (λ t. (t ≡ state_of f) ⊎ (t ≡ state_of done))
    all_or_none f batch steps last a b is spans =
        let Of = λ (one : Batch). SpansBatches state_of Settles Between BetweenWaiting left_at Opens moment_of f (one ∷ []) last a b in
        elim is [ inl waited ↦ all_together f steps last a b (subst Of waited spans) | inr failed_so ↦ all_lost f steps last a b (subst Of failed_so spans) ]

    pub batches_ran : (f : System) (batches : List Batch) (last : System) (a b : ℕ) → SpansBatches state_of Settles Between BetweenWaiting left_at Opens moment_of f batches last a b
        → RunsBatches state_of Settles Between BetweenWaiting f batches last
    batches_ran f [] last a b spans = spans.0
    batches_ran f (batch ∷ batches) last a b spans = (spans.0, spans.1, batches_ran spans.0 batches last (moment_of spans.0) b spans.5)

    -- what is durable stays: from the moment of the system behind the first batches on, the rest holds
    pub batches_stay : (f : System) (durable rest : List Batch) (last : System) (a b : ℕ) → a ≤ moment_of f → a ≤ b
        → SpansBatches state_of Settles Between BetweenWaiting left_at Opens moment_of f (durable ++ rest) last a b
        → (now : System) × RunsBatches state_of Settles Between BetweenWaiting f durable now
        × ((from : ℕ) × (from ≤ moment_of now) × (from ≤ b) × SpansBatches state_of Settles Between BetweenWaiting left_at Opens moment_of now rest last from b)
    batches_stay f [] rest last a b past order spans = (f, refl, (a, past, order, spans))
    batches_stay f (batch ∷ durable) rest last a b past order spans =
        let there = batches_stay spans.0 durable rest last (moment_of spans.0) b (omega arith) spans.3 spans.5 in
        (there.0, (spans.0, spans.1, there.1), there.2)

    -- one batch more
    pub batches_push : (f : System) (batches : List Batch) (last new : System) (batch : Batch) (a b : ℕ) → a ≤ b → b ≤ moment_of new
        → SpansBatches state_of Settles Between BetweenWaiting left_at Opens moment_of f batches last a b → (leads : LeadsBatch state_of Settles Between BetweenWaiting last batch new)
        → LeavesOf left_at Opens (state_of last) b (moment_of new) (MayStandWhole state_of Settles Between BetweenWaiting last batch new leads)
        → LeavesOf left_at Opens (state_of new) (moment_of new) (moment_of new) (λ t. t ≡ state_of new)
        → SpansBatches state_of Settles Between BetweenWaiting left_at Opens moment_of f (batches ++ batch ∷ []) new a (moment_of new)
    batches_push f [] last new batch a b low high spans leads leaves ends =
        let end = moment_of new in
        let Rest = λ (g : System).
        (l : LeadsBatch state_of Settles Between BetweenWaiting g batch new) × LeavesOf left_at Opens (state_of g) b end (MayStandWhole state_of Settles Between BetweenWaiting g batch new l) in
        let rest : Rest f = subst Rest spans.0 (leads, leaves) in
        let May = MayStandWhole state_of Settles Between BetweenWaiting f batch new rest.0 in
        let before = λ (is : (state_of f).mark ≡ going) (t : State) (same : t ≡ state_of f). subst May (sym same) (stands_first state_of Settles Between BetweenWaiting f batch new rest.0 is) in
        (new, rest.0, omega arith, omega arith, leaves_on left_at Opens (state_of f) a b end (λ t. t ≡ state_of f) May before low spans.1 rest.1, (refl, ends))
    batches_push f (first ∷ batches) last new batch a b low high spans leads leaves ends =
        let rest = batches_push spans.0 batches last new batch (moment_of spans.0) b spans.3 high spans.5 leads leaves ends in
        (spans.0, spans.1, spans.2, omega (arith, spans.3), spans.4, rest)

    -- one batch more of commands that waited
    pub batches_together : (f : System) (batches : List Batch) (last new : System) (steps : List (Command × Reply)) (a b : ℕ) → a ≤ b → b ≤ moment_of new
        → SpansBatches state_of Settles Between BetweenWaiting left_at Opens moment_of f batches last a b → LeadsTogether state_of Settles Between BetweenWaiting last steps new
        → OpensWithin left_at Opens b (moment_of new) (λ t. (t ≡ state_of last) ⊎ (t ≡ state_of new)) → OpensWithin left_at Opens (moment_of new) (moment_of new) (λ t. t ≡ state_of new)
        → SpansBatches state_of Settles Between BetweenWaiting left_at Opens moment_of f (batches ++ together steps ∷ []) new a (moment_of new)
    batches_together f batches last new steps a b low high spans leads leaves ends =
        let m = moment_of new in
        batches_push f batches last new (together steps) a b low high spans leads
        ((leaves_going left_at Opens (state_of last) b m (λ t. (t ≡ state_of last) ⊎ (t ≡ state_of new)) leads.was.began).1 leaves)
        ((leaves_going left_at Opens (state_of new) m m (λ t. t ≡ state_of new) (ap (λ (s : State). s.mark) leads.same ∙ leads.was.goes_on)).1 ends)

    -- and of such as are lost
    pub batches_lost : (f : System) (batches : List Batch) (last new : System) (steps : List (Command × Reply)) (a b : ℕ) → a ≤ b → b ≤ moment_of new
        → SpansBatches state_of Settles Between BetweenWaiting left_at Opens moment_of f batches last a b → (leads : IsLost state_of Settles Between BetweenWaiting last steps new)
        → OpensWithin left_at Opens b (moment_of new) (λ t. (t ≡ state_of last) ⊎ (t ≡ state_of leads.was.done))
        → SpansBatches state_of Settles Between BetweenWaiting left_at Opens moment_of f (batches ++ lost steps ∷ []) new a (moment_of new)
    batches_lost f batches last new steps a b low high spans leads leaves =
        let m = moment_of new in
        batches_push f batches last new (lost steps) a b low high spans leads
        ((leaves_going left_at Opens (state_of last) b m (λ t. (t ≡ state_of last) ⊎ (t ≡ state_of leads.was.done)) leads.was.began).1 leaves)
        ((leaves_failed left_at Opens (state_of new) m m (λ t. t ≡ state_of new) (ap (λ (s : State). s.mark) leads.failed)).1
        (λ t c from to left. subst (λ (u : ℕ). left_at u c) (omega arith) left))

    -- time goes on behind the last batch, and a cut leaves what it left
    pub batches_wait : (f : System) (batches : List Batch) (last : System) (a b later : ℕ) → a ≤ b → b ≤ later
        → SpansBatches state_of Settles Between BetweenWaiting left_at Opens moment_of f batches last a b → LeavesOf left_at Opens (state_of last) b later (λ t. t ≡ state_of last)
        → SpansBatches state_of Settles Between BetweenWaiting left_at Opens moment_of f batches last a later
    batches_wait f [] last a b later low high spans leaves =
        let Now = λ (t : State). t ≡ state_of f in
        let there = subst (λ (g : System). LeavesOf left_at Opens (state_of g) b later (λ t. t ≡ state_of g)) spans.0 leaves in
        (spans.0, leaves_on left_at Opens (state_of f) a b later Now Now (λ is t same. same) low spans.1 there)
    batches_wait f (batch ∷ batches) last a b later low high spans leaves =
        let rest = batches_wait spans.0 batches last (moment_of spans.0) b later spans.3 high spans.5 leaves in
        (spans.0, spans.1, spans.2, omega (arith, spans.3), spans.4, rest)

    -- at the last moment a cut leaves the last system's state
    pub batches_now : (f : System) (batches : List Batch) (last : System) (a b : ℕ) → a ≤ b → SpansBatches state_of Settles Between BetweenWaiting left_at Opens moment_of f batches last a b
        → (state_of last).mark ≡ going → OpensWithin left_at Opens b b (λ t. t ≡ state_of last)
    batches_now f [] last a b low spans is =
        let leaves = subst (λ (g : System). LeavesOf left_at Opens (state_of g) a b (λ t. t ≡ state_of g)) (sym spans.0) spans.1 in
        λ t c from to left. (leaves_going left_at Opens (state_of last) a b (λ t. t ≡ state_of last) is).0 leaves t c (omega arith) to left
    batches_now f (batch ∷ batches) last a b low spans is = batches_now spans.0 batches last (moment_of spans.0) b spans.3 spans.5 is

    -- commands that become durable one by one
    pub batches_alone : (f : System) (steps : List (Command × Reply)) (last : System) (a b : ℕ)
        → Spans left_at Opens state_of moment_of Between f steps last a b ↔ SpansBatches state_of Settles Between BetweenWaiting left_at Opens moment_of f (one_by_one steps) last a b
    batches_alone f [] last a b = (λ spans. spans, λ spans. spans)
    batches_alone f (step ∷ steps) last a b = (
      λ spans. (spans.0, spans.1, spans.2, spans.3, spans.4, (batches_alone spans.0 steps last (moment_of spans.0) b).0 spans.5),
      λ spans. (spans.0, spans.1, spans.2, spans.3, spans.4, (batches_alone spans.0 steps last (moment_of spans.0) b).1 spans.5),
    )

  -- the same moments as they are told later
  module _ {Images : Type 0} (moment_of : System → ℕ) (old_left new_left : ℕ → Images → Type 0) (OldOpens NewOpens : Images → State → Type 0) (now : ℕ)
      (kept : (t : ℕ) (c : Images) → t ≤ now → new_left t c ↔ old_left t c) (opens : (c : Images) (s : State) → OldOpens c s → NewOpens c s) where
    pub batches_later : (f : System) (batches : List Batch) (last : System) (a b : ℕ) → a ≤ b → b ≤ now → SpansBatches state_of Settles Between BetweenWaiting old_left OldOpens moment_of f batches last a b
        → SpansBatches state_of Settles Between BetweenWaiting new_left NewOpens moment_of f batches last a b
    batches_later f [] last a b order past spans =
        (spans.0, leaves_later state_of Between moment_of old_left new_left OldOpens NewOpens now kept opens (state_of f) a b (λ t. t ≡ state_of f) order past spans.1)
    batches_later f (batch ∷ batches) last a b order past spans =
        let m = moment_of spans.0 in
        let May = MayStandWhole state_of Settles Between BetweenWaiting f batch spans.0 spans.1 in
        let first = leaves_later state_of Between moment_of old_left new_left OldOpens NewOpens now kept opens (state_of f) a m May spans.2 (omega (arith, spans.3)) spans.4 in
        (spans.0, spans.1, spans.2, spans.3, first, batches_later spans.0 batches last m b spans.3 past spans.5)
