-- Commands that wait, and runs in batches.
use Rattle.std.proofs.Common.{◌≡◌, ◌⊎◌, inl, inr, ℕ, ◌≤◌, Bool, true, false, List, [], ◌∷◌, ◌++◌, refl, ap, sym, subst, ◌∙◌, arith}
use Rattle.std.specs.Prelude.{IsFalse, IsTrue}
use Rattle.std.proofs.lemmas.Bool.{false≢true}
use Rattle.station.specs.Calls.{Uses}
use Rattle.station.specs.Images.{Images}
use Rattle.station.specs.Moments.{EachCut, IsSameStation, LeavesOnly, MayGrow, Meaning}
use Rattle.station.specs.declared.station.Station.{Ghosts}
use Rattle.station.proofs.Moments.{leaves_unchanged, may_grow_twice, same_twice, weaker}
use Rattle.model.specs.Circumstances.{Allowed}
use Rattle.model.specs.Runs.{Leads, LeavesOf, MayStand}
use Rattle.model.specs.States.{State, going, as_failed}
use Rattle.model.specs.declared.command.Command.{Command}
use Rattle.model.specs.declared.reply.Reply.{Reply}
use Rattle.buffers.specs.Disks.{ReadsOn}
use Rattle.system.specs.Images.{OpensTo}
use Rattle.mount.specs.Applying.{Between, IsAppliedAt, LeftNow, NoWriteFailed, ReadsCut, TellsOfFault, TimeGoesOn}
use Rattle.mount.specs.Batches.{AreSteady, Batch, HasDone, IsLost, IsPrefixOfBatches, LeadsTogether, RunsBatches, SpansBatches, alone, lost, together}
use Rattle.mount.specs.Batching.{BetweenWaiting, RunsInBatches, Settles, Shows, meaning_of, with_batch}
use Rattle.mount.specs.Systems.{Mounted, OpensToSome, file_system_meaning, mark_of, moment_of, mounted, shown_state}
use Rattle.mount.specs.declared.fs.Fs.{Fs}
use Rattle.mount.specs.declared.waiting.Waiting.{Waiting}
use Rattle.mount.proofs.ApplyLemmas.{after_reads, is_failed, is_going}
use Rattle.mount.proofs.BatchLemmas.{runs_push}
use Rattle.mount.proofs.BatchSpans.{batches_later, batches_lost, batches_push, batches_stay, batches_wait, batches_whole}
use Rattle.mount.proofs.SpanLemmas.{leaves_going}
use Rattle.mount.proofs.StationLemmas.{left_now, left_within, moved, on_none, on_twice, time_on}

-- a count that a flag tells of may have grown
told_grows : (flag : Bool) (old new : ℕ) → TellsOfFault flag old new → MayGrow old new
told_grows true old new grown = inr grown
told_grows false old new same = inl same

module _ {S : Type 0} {G : Ghosts S} where
  -- what settled before a command is as if it had taken longer
  settled_before : (f g h : Mounted S G) (step : Command × Reply) → Settles f g → shown_state g ≡ shown_state f → Leads shown_state BetweenWaiting g step h
      → Leads shown_state BetweenWaiting f step h
  settled_before f g h step settles same leads =
      let m = file_system_meaning f in
      let n = file_system_meaning g in
      let l = file_system_meaning h in
      let c = leads.circumstances in
      let allowed = subst (λ (s : State). Allowed c s step.0 step.1 h.state) same leads.allowed in
      let read = after_reads m.failed_reads n.failed_reads l.failed_reads f.state step.0 c step.1 h.state settles.reads (told_grows c.read_failed n.failed_reads l.failed_reads leads.between.reads) leads.between.reads allowed in
      record {
        circumstances = record c { read_failed = read.0 };
        between = record {
          goes_on = on_twice m n l settles.goes_on leads.between.goes_on;
          reads = read.1;
          writes = subst (λ (k : ℕ). TellsOfFault c.write_failed k l.failed_writes) settles.writes leads.between.writes;
          stored = leads.between.stored;
        };
        allowed = read.2;
      }

  pub steady : AreSteady {System = Mounted S G} shown_state Settles Between BetweenWaiting
  steady = record {
    waits = λ f g command c between. record {
      goes_on = between.goes_on;
      reads = between.reads;
      writes = between.writes;
      stored = λ still. let room = between.room still in record { stored = room.stored; settled = room.settled; holes = room.holes };
    };
    none = settles_none;
    twice = λ f g h one two. record {
      state = two.state ∙ one.state;
      goes_on = on_twice (file_system_meaning f) (file_system_meaning g) (file_system_meaning h) one.goes_on two.goes_on;
      reads = may_grow_twice (file_system_meaning f).failed_reads (file_system_meaning g).failed_reads (file_system_meaning h).failed_reads one.reads two.reads;
      writes = two.writes ∙ one.writes;
    };
    before = settled_before;
  }
    where
      settles_none : (f : Mounted S G) → Settles f f
      settles_none f = record { state = refl; goes_on = on_none (file_system_meaning f); reads = inl refl; writes = refl }

  pub settles_here : (f : Mounted S G) → Settles f f
  settles_here f = steady.none f

  -- both states of what is shown go on
  pub shown_going : (w : Waiting S G) (s kept : State) → Shows w s kept → s.mark ≡ going
  shown_going w s kept shows = ap (λ (u : State). u.mark) shows.ahead.shown.state

  pub kept_going : (w : Waiting S G) (s kept : State) → Shows w s kept → kept.mark ≡ going
  kept_going w s kept shows = ap (λ (u : State). u.mark) shows.ahead.served.state

  -- ---- where blocks were read alone

  module _ (old new : Waiting S G) (reads : ReadsOn (meaning_of old) (meaning_of new)) where
    abbrev m : Meaning
    m = meaning_of old

    abbrev n : Meaning
    n = meaning_of new

    pub reads_uses : Uses m n
    reads_uses = record { same = reads.same; reads = reads.reads; writes = inl reads.writes }

    -- time went on
    pub read_on : m.is_honest → TimeGoesOn m n
    read_on honest = time_on m n (λ c. Unit {0}) (leaves_unchanged m n (λ c. Unit {0}) (λ is c left. tt) reads.goes honest)

    -- what a cut left is what it leaves
    pub left_on : (kept : State) → m.is_honest → kept.mark ≡ going → EachCut m (OpensTo m kept) → LeavesOf n.left_at (λ c t. OpensTo n t c) kept m.moment n.moment (λ t. t ≡ kept)
    left_on kept honest is opens =
        left_within m n kept (λ t. t ≡ kept) is reads.same.sectors
        (weaker m n (OpensTo m kept) (OpensToSome m (λ t. t ≡ kept)) (leaves_unchanged m n (OpensTo m kept) opens reads.goes) (λ c here. (kept, here, refl)) honest)

    -- a run goes on by commands that wait
    module _ (first : Fs S G) (s : State) (batches : List Batch) (steps : List (Command × Reply)) (run : RunsInBatches first s old batches steps) (runs : IsFalse old.fs.has_failed)
        (flag : new.fs.has_failed ≡ old.fs.has_failed)
        (opens : (t kept : State) → Shows old t kept → EachCut m (OpensTo m kept)) where
      abbrev start : Meaning
      start = file_system_meaning (mounted first s)

      abbrev shown : Shows old run.last.state run.border.state
      shown = run.shows runs

      abbrev on : TimeGoesOn m n
      on = read_on shown.honest

      spans_on : SpansBatches shown_state Settles Between BetweenWaiting n.left_at (λ c t. OpensTo n t c) moment_of (mounted first s) batches run.border start.moment n.moment
      spans_on =
          batches_wait shown_state Settles Between BetweenWaiting n.left_at (λ c t. OpensTo n t c) moment_of (mounted first s) batches run.border start.moment m.moment n.moment run.goes_on.later on.later
          (batches_later shown_state Settles Between BetweenWaiting moment_of m.left_at n.left_at (λ c t. OpensTo m t c) (λ c t. OpensTo n t c) m.moment on.kept
          (λ c t here. moved m n t c reads.same.sectors here) (mounted first s) batches run.border start.moment m.moment run.goes_on.later (omega arith) run.spans)
          (left_on run.border.state shown.honest (kept_going old run.last.state run.border.state shown) (opens run.last.state run.border.state shown))

      -- none more
      pub run_waits : Shows new run.last.state run.border.state → RunsInBatches first s new batches steps
      run_waits shows = record {
        border = run.border;
        last = run.last;
        same = same_twice start m n run.same reads.same;
        goes_on = on_twice start m n run.goes_on on;
        spans = spans_on;
        waits = run.waits;
        settles = steady.twice run.last (mounted old.fs run.last.state) (mounted new.fs run.last.state) run.settles
            (record { state = refl; goes_on = on; reads = reads.reads; writes = reads.writes });
        mark = run.mark ∙ ap mark_of (sym flag);
        shows = λ _. shows;
        lost = λ stopped. absurd (false≢true (sym runs ∙ sym flag ∙ stopped));
      }

      -- one more
      pub run_waits_more : (command : Command) (reply : Reply) (next : State) → Shows new next run.border.state
          → Leads shown_state BetweenWaiting (mounted old.fs run.last.state) (command, reply) (mounted new.fs next) → RunsInBatches first s new batches (steps ++ (command, reply) ∷ [])
      run_waits_more command reply next shows leads = record {
        border = run.border;
        last = mounted new.fs next;
        same = same_twice start m n run.same reads.same;
        goes_on = on_twice start m n run.goes_on on;
        spans = spans_on;
        waits = runs_push shown_state BetweenWaiting run.border steps run.last (mounted new.fs next) (command, reply) run.waits
            (settled_before run.last (mounted old.fs run.last.state) (mounted new.fs next) (command, reply) run.settles refl leads);
        settles = steady.none (mounted new.fs next);
        mark = shown_going new next run.border.state shows ∙ sym (is_going new.fs.has_failed shows.goes);
        shows = λ _. shows;
        lost = λ stopped. absurd (false≢true (sym shows.goes ∙ stopped));
      }

-- ---- what waits becomes durable, or is lost

module _ {S : Type 0} {G : Ghosts S} (old new : Waiting S G) (s kept : State) (shown : Shows old s kept) where
  abbrev before : Meaning
  before = meaning_of old

  abbrev behind : Meaning
  behind = meaning_of new

  abbrev Either : Images → Type 0
  Either c = OpensTo before kept c ⊎ OpensTo before s c

  either_state : (c : Images) → Either c → OpensToSome before (λ t. (t ≡ kept) ⊎ (t ≡ s)) c
  either_state c (inl here) = (kept, here, inl refl)
  either_state c (inr here) = (s, here, inr refl)

  module _ (first : Fs S G) (from : State) (batches : List Batch) (steps : List (Command × Reply)) (run : RunsInBatches first from old batches steps)
      (is_kept : run.border.state ≡ kept) (is_shown : run.last.state ≡ s) (uses : Uses before behind) (leaves : LeavesOnly before behind Either) where
    abbrev begun : Meaning
    begun = file_system_meaning (mounted first from)

    there : LeavesOnly before behind (OpensToSome before (λ t. (t ≡ kept) ⊎ (t ≡ s)))
    there = weaker before behind Either (OpensToSome before (λ t. (t ≡ kept) ⊎ (t ≡ s))) leaves either_state

    abbrev going_on : TimeGoesOn before behind
    going_on = time_on before behind _ (there shown.honest)

    its_mark : run.border.state.mark ≡ going
    its_mark = ap (λ (u : State). u.mark) is_kept ∙ kept_going old s kept shown

    -- what a cut leaves on the way
    on_the_way : LeavesOf behind.left_at (λ c t. OpensTo behind t c) run.border.state before.moment behind.moment (λ t. (t ≡ run.border.state) ⊎ (t ≡ run.last.state))
    on_the_way =
        left_within before behind run.border.state (λ t. (t ≡ run.border.state) ⊎ (t ≡ run.last.state)) its_mark uses.same.sectors
        (weaker before behind Either (OpensToSome before (λ t. (t ≡ run.border.state) ⊎ (t ≡ run.last.state))) leaves (λ c here. elim here [
          | inl first ↦ (kept, first, inl (sym is_kept))
          | inr last ↦ (s, last, inr (sym is_shown))
        ]) shown.honest)

    so_far : SpansBatches shown_state Settles Between BetweenWaiting behind.left_at (λ c t. OpensTo behind t c) moment_of (mounted first from) batches run.border begun.moment before.moment
    so_far =
        batches_later shown_state Settles Between BetweenWaiting moment_of before.left_at behind.left_at (λ c t. OpensTo before t c) (λ c t. OpensTo behind t c) before.moment going_on.kept
        (λ c t here. moved before behind t c uses.same.sectors here) (mounted first from) batches run.border begun.moment before.moment run.goes_on.later (omega arith) run.spans

    abbrev was : HasDone shown_state Settles Between BetweenWaiting run.border steps
    was = record { began = its_mark; done = run.last; ran = run.waits; goes_on = ap (λ (u : State). u.mark) is_shown ∙ shown_going old s kept shown }

    -- it became durable
    pub run_commits : NoWriteFailed before behind → Shows new s s → EachCut behind (OpensTo behind s) → RunsInBatches first from new (with_batch batches (together steps)) []
    run_commits writes shows opens =
        let here = mounted new.fs s in
        let settles : Settles run.last here = steady.twice run.last (mounted old.fs run.last.state) here run.settles
        (record { state = sym is_shown; goes_on = going_on; reads = uses.reads; writes = writes }) in
        let leads : LeadsTogether shown_state Settles Between BetweenWaiting run.border steps here = record { was = was; settles = settles; same = sym is_shown } in
        let on_way = subst (λ (v : State). LeavesOf behind.left_at (λ c t. OpensTo behind t c) run.border.state before.moment behind.moment (λ t. (t ≡ run.border.state) ⊎ (t ≡ v))) is_shown on_the_way in
        record {
          border = here;
          last = here;
          same = same_twice begun before behind run.same uses.same;
          goes_on = on_twice begun before behind run.goes_on going_on;
          spans = batches_push shown_state Settles Between BetweenWaiting behind.left_at (λ c t. OpensTo behind t c) moment_of (mounted first from) batches run.border here (together steps)
              begun.moment before.moment run.goes_on.later going_on.later so_far leads on_way
              (left_now behind s (λ t. t ≡ s) (shown_going new s s shows) shows.honest (λ honest c left. (s, opens honest c left, refl)));
          waits = refl;
          settles = steady.none here;
          mark = shown_going new s s shows ∙ sym (is_going new.fs.has_failed shows.goes);
          shows = λ _. shows;
          lost = λ stopped. refl;
        }

    -- or it was lost
    pub run_loses : IsTrue new.fs.has_failed → RunsInBatches first from new (with_batch batches (lost steps)) []
    run_loses stopped =
        let here = mounted new.fs (as_failed run.border.state) in
        let leads : IsLost shown_state Settles Between BetweenWaiting run.border steps here = record { was = was; failed = refl } in
        record {
          border = here;
          last = here;
          same = same_twice begun before behind run.same uses.same;
          goes_on = on_twice begun before behind run.goes_on going_on;
          spans = batches_lost shown_state Settles Between BetweenWaiting behind.left_at (λ c t. OpensTo behind t c) moment_of (mounted first from) batches run.border here steps
              begun.moment before.moment run.goes_on.later going_on.later so_far leads
              ((leaves_going behind.left_at (λ c t. OpensTo behind t c) run.border.state before.moment behind.moment (λ t. (t ≡ run.border.state) ⊎ (t ≡ run.last.state)) its_mark).0 on_the_way);
          waits = refl;
          settles = steady.none here;
          mark = sym (is_failed new.fs.has_failed stopped);
          shows = λ runs. absurd (false≢true (sym runs ∙ stopped));
          lost = λ _. refl;
        }

-- ---- a command alone

module _ {S : Type 0} {G : Ghosts S} (old new : Waiting S G) (command : Command) (reply : Reply) where
  -- one that isn't told by a failed read of before
  settled_alone : (f g h : Mounted S G) (step : Command × Reply) → Settles f g → shown_state g ≡ shown_state f → Leads shown_state Between g step h → Leads shown_state Between f step h
  settled_alone f g h step settles same leads =
      let m = file_system_meaning f in
      let n = file_system_meaning g in
      let l = file_system_meaning h in
      let c = leads.circumstances in
      let allowed = subst (λ (s : State). Allowed c s step.0 step.1 h.state) same leads.allowed in
      let read = after_reads m.failed_reads n.failed_reads l.failed_reads f.state step.0 c step.1 h.state settles.reads (told_grows c.read_failed n.failed_reads l.failed_reads leads.between.reads) leads.between.reads allowed in
      record {
        circumstances = record c { read_failed = read.0 };
        between = record {
          goes_on = on_twice m n l settles.goes_on leads.between.goes_on;
          reads = read.1;
          writes = subst (λ (k : ℕ). TellsOfFault c.write_failed k l.failed_writes) settles.writes leads.between.writes;
          room = leads.between.room;
        };
        allowed = read.2;
      }

  pub run_alone : (first : Fs S G) (from : State) (batches : List Batch) (run : RunsInBatches first from old batches []) → IsFalse old.fs.has_failed
      → IsSameStation (meaning_of old) (meaning_of new)
      → (applied : IsAppliedAt old.fs run.last.state new.fs command reply) → LeftNow (meaning_of new) applied.0 (λ t. t ≡ applied.0)
      → (IsFalse new.fs.has_failed → Shows new applied.0 applied.0) → RunsInBatches first from new (with_batch batches (alone (command, reply))) []
  run_alone first from batches run runs same applied now shows =
      let m = meaning_of old in
      let n = meaning_of new in
      let start = file_system_meaning (mounted first from) in
      let here = mounted new.fs applied.0 in
      let last = run.last in
      let it = applied.1 in
      let on = it.leads.between.goes_on in
      let leads = settled_alone last (mounted old.fs last.state) here (command, reply) run.settles refl it.leads in
      let Led = λ (f : Mounted S G). (l : Leads shown_state Between f (command, reply) here)
      × LeavesOf n.left_at (λ c t. OpensTo n t c) f.state m.moment n.moment (MayStand f.state command applied.0) in
      let led : Led run.border = subst Led run.waits (leads, it.any_moment) in
      record {
        border = here;
        last = here;
        same = same_twice start m n run.same same;
        goes_on = on_twice start m n run.goes_on on;
        spans = batches_push shown_state Settles Between BetweenWaiting n.left_at (λ c t. OpensTo n t c) moment_of (mounted first from) batches run.border here (alone (command, reply))
            start.moment m.moment run.goes_on.later on.later
            (batches_later shown_state Settles Between BetweenWaiting moment_of m.left_at n.left_at (λ c t. OpensTo m t c) (λ c t. OpensTo n t c) m.moment on.kept
            (λ c t opens. moved m n t c same.sectors opens) (mounted first from) batches run.border start.moment m.moment run.goes_on.later (omega arith) run.spans)
            led.0 led.1 now;
        waits = refl;
        settles = steady.none here;
        mark = it.serves.mark;
        shows = shows;
        lost = λ stopped. refl;
      }

-- ---- what a cut leaves of a run in batches

module _ {S : Type 0} {G : Ghosts S} where
  -- a second station that reads what a cut within it might have left opens to whole batches
  pub batches_open : (first : Fs S G) (s : State) (w : Waiting S G) (batches : List Batch) (steps : List (Command × Reply)) (other : Meaning) → s.mark ≡ going → RunsInBatches first s w batches steps
      → ReadsCut (file_system_meaning (mounted first s)) (meaning_of w) other
      → OpensToSome other (IsPrefixOfBatches shown_state Settles Between BetweenWaiting (mounted first s) batches) other.seen
  batches_open first s w batches steps other is run reads =
      let m = meaning_of w in
      let start = (file_system_meaning (mounted first s)).moment in
      let there = batches_whole shown_state Settles Between BetweenWaiting m.left_at (λ c t. OpensTo m t c) moment_of (mounted first s) batches run.border start m.moment run.spans is
      reads.left.0 other.seen reads.left.1 reads.left.2 reads.left.3 in
      (there.0, moved m other there.0 other.seen reads.sectors there.1, there.2)

  -- what is durable stays so: from its moment on, it opens to the rest behind it
  pub durable_stays : (first : Fs S G) (s : State) (w : Waiting S G) (durable rest : List Batch) (steps : List (Command × Reply)) → RunsInBatches first s w (durable ++ rest) steps
      → (now : Mounted S G) × RunsBatches shown_state Settles Between BetweenWaiting (mounted first s) durable now
      × ((other : Meaning) → now.state.mark ≡ going → ReadsCut (file_system_meaning now) (meaning_of w) other
      → OpensToSome other (IsPrefixOfBatches shown_state Settles Between BetweenWaiting now rest) other.seen)
  durable_stays first s w durable rest steps run =
      let m = meaning_of w in
      let start = (file_system_meaning (mounted first s)).moment in
      let there = batches_stay shown_state Settles Between BetweenWaiting m.left_at (λ c t. OpensTo m t c) moment_of (mounted first s) durable rest run.border start m.moment (omega arith) run.goes_on.later run.spans in
      let spans = there.2 in (
        there.0,
        there.1,
        λ other is reads.
            let from : spans.0 ≤ reads.left.0 = omega (arith, spans.1, reads.left.1) in
            let opens = batches_whole shown_state Settles Between BetweenWaiting m.left_at (λ c t. OpensTo m t c) moment_of there.0 rest run.border spans.0 m.moment spans.3 is
            reads.left.0 other.seen from reads.left.2 reads.left.3 in
            (opens.0, moved m other opens.0 other.seen reads.sectors opens.1, opens.2),
      )
