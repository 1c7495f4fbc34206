-- What comes before a call is done: steps of a consistency point, and what is prepared.
use Rattle.std.proofs.Common.{◌≡◌, ◌≢◌, Bool, true, false, ℕ, ◌++◌, List, [], ◌∷◌, Ok, Option, Some, None, refl, ap, sym, subst, ◌∙◌, append_assoc, if◌then◌else◌, arith}
use Rattle.station.specs.Moments.{HasGrown, LeavesOnly, MayLeave, Meaning}
use Rattle.station.specs.declared.station.Station.{Ghosts}
use Rattle.station.proofs.Calls.{uses_twice}
use Rattle.station.proofs.Moments.{grown_since, joined, leaves_unchanged, weaker}
use Rattle.layout.specs.Log.{half_of}
use Rattle.layout.specs.Places.{blocks_of}
use Rattle.layout.specs.declared.log.TheConstants.{FIRST_GATE}
use Rattle.model.specs.Records.{work_of}
use Rattle.model.specs.Room.{logs}
use Rattle.model.specs.States.{State}
use Rattle.model.specs.Volumes.{Volume}
use Rattle.model.specs.declared.command.Command.{Command}
use Rattle.buffers.specs.Disks.{ReadsOn}
use Rattle.buffers.specs.Readings.{reads_none}
use Rattle.oplog.specs.LogEnd.{Bodies, EndsBehind, LogEnd, all_bodies, next_of}
use Rattle.oplog.specs.declared.log.End.{End}
use Rattle.oplog.specs.declared.log.End.TheVariants.{At, Unopened}
use Rattle.system.specs.Counting.{Counted, Failed, LogsNothing, a_read, a_write, beside_reads, no_call, perhaps_any, perhaps_reads}
use Rattle.system.specs.Images.{OpensTo}
use Rattle.dispatch.specs.Preparing.{IsPreparedAt, PreparesOn, logged_by}
use Rattle.system.specs.Serving.{HasEmptyLog, IsPlanDue, ServesState}
use Rattle.dispatch.specs.Serving.{WouldChange}
use Rattle.system.specs.Slicing.{StaysReady, Steps}
use Rattle.system.specs.Systems.{IsCovered, Parts, ServesRest, disk_of, meaning_of, system_parts}
use Rattle.dispatch.specs.declared.prepared_call.PreparedCall.{PreparedCall}
use Rattle.dispatch.specs.declared.prepared_call.PreparedChange.{PreparedChange}
use Rattle.system.specs.declared.system.System.{System}
use Rattle.system.proofs.CountingLaws.{logged_twice, nothing_logged, perhaps_read}
use Rattle.system.proofs.SystemLaws.{opens_same}
use Rattle.dispatch.proofs.HandlingLaws.{covered_same, same_empty}
use Rattle.dispatch.proofs.LookedLaws.{reads_on, served_shows}
use Rattle.dispatch.proofs.OpenFileLaws.{told_logged}
use Rattle.dispatch.proofs.PreparedLaws.{prepared_at, prepared_serving}
use Rattle.dispatch.proofs.ShowingLaws.{KeepsServing}
use Rattle.system.proofs.SystemLaws.{AllOpen}

-- ---- counts

-- beside reads of which some may have failed
pub counted_beside : (m mid new : Meaning) (why : Failed) → Counted m mid perhaps_reads → Counted mid new why → Counted m new (beside_reads why)
counted_beside m mid new no_call one two = record { uses = uses_twice m mid new one.uses two.uses; reads = tt; writes = two.writes ∙ one.writes }
counted_beside m mid new a_read one two = record {
  uses = uses_twice m mid new one.uses two.uses;
  reads = grown_since m.failed_reads mid.failed_reads new.failed_reads one.uses.reads two.reads;
  writes = two.writes ∙ one.writes;
}
counted_beside m mid new a_write one two = record {
  uses = uses_twice m mid new one.uses two.uses;
  reads = tt;
  writes = subst (λ (n : ℕ). HasGrown n new.failed_writes) one.writes two.writes;
}
counted_beside m mid new perhaps_reads one two = record { uses = uses_twice m mid new one.uses two.uses; reads = tt; writes = two.writes ∙ one.writes }
counted_beside m mid new perhaps_any one two = record { uses = uses_twice m mid new one.uses two.uses; reads = tt; writes = tt }

-- a write failed, if not one before it
pub failed_first : (m new : Meaning) (had_stopped : Bool) → Counted m new a_write → Counted m new (beside_reads (if had_stopped then perhaps_any else a_write))
failed_first m new true told = record { uses = told.uses; reads = tt; writes = tt }
failed_first m new false told = told

-- ---- what comes before a call is done

-- Nothing is logged, and what is served stays, also at a cut at any moment.
pub record IsBefore {S : Type 0} {G : Ghosts S} (old mid : System S G) : Type 0 where
  pub counted : Counted (meaning_of old) (meaning_of mid) perhaps_reads
  pub unlogged : LogsNothing (meaning_of old) (meaning_of mid)
  pub leaves : (s : State) → ServesState old s → LeavesOnly (meaning_of old) (meaning_of mid) (OpensTo (meaning_of old) s)
  pub rest : (s : State) (served : ServesState old s) → ServesRest mid s.tree.descriptors s (all_bodies served.lasts.bodies)
  pub runs : mid.log.is_stopped ≡ old.log.is_stopped
  pub empty : HasEmptyLog old → (mid.log ≡ old.log) × (mid.root ≡ old.root)
  pub covered : (s : State) → IsCovered old s.tree.descriptors s → IsCovered mid s.tree.descriptors s

-- a system looked, or did nothing
abbrev pub looked_before : {S : Type 0} {G : Ghosts S} (old mid : System S G) → ReadsOn (meaning_of old) (meaning_of mid) → mid.blocks.pending ≡ old.blocks.pending → mid.log ≡ old.log → mid.root ≡ old.root
    → AllOpen old → KeepsServing old mid → IsBefore old mid
looked_before old mid reads pending log root opens keeps =
    let m = meaning_of old in
    let n = meaning_of mid in
    record {
      counted = perhaps_read m n reads;
      unlogged = nothing_logged m n reads.goes;
      leaves = λ s served. leaves_unchanged m n (OpensTo m s) (opens s served) reads.goes;
      rest = λ s served. record { serves = (keeps s served).serves; left = ([], ap all_bodies (sym (keeps s served).bodies)) };
      runs = ap (λ (l : LogEnd). l.is_stopped) log;
      empty = λ empty. (log, root);
      covered = λ s covered. covered_same {old = old} mid s covered pending (keeps s covered.serves);
    }

abbrev pub nothing_before : {S : Type 0} {G : Ghosts S} (f : System S G) → AllOpen f → IsBefore f f
nothing_before f opens =
    looked_before f f (reads_none (meaning_of f)) refl refl refl opens (λ s served. record { serves = served; volume = refl; bodies = refl; changes = refl; first = refl })

-- one after the other
abbrev pub both : {S : Type 0} {G : Ghosts S} {old mid new : System S G} → IsBefore old mid → IsBefore mid new → IsBefore old new
both {old = old} {mid = mid} {new = new} one two =
    let m = meaning_of old in
    let n = meaning_of mid in
    record {
      counted = counted_beside m n (meaning_of new) perhaps_reads one.counted two.counted;
      unlogged = logged_twice m n (meaning_of new) one.unlogged two.unlogged;
      leaves = λ s served. joined m n (meaning_of new) (OpensTo m s) (one.leaves s served)
          (weaker n (meaning_of new) (OpensTo n s) (OpensTo m s) (two.leaves s (one.rest s served).serves) (λ c here. opens_same m n s c one.counted.uses.same.sectors here));
      rest = λ s served.
          let first = one.rest s served in
          let next = two.rest s first.serves in
          record {
            serves = next.serves;
            left = (
              first.left.0 ++ next.left.0,
              first.left.1 ∙ ap (λ (l : List (List ℕ)). first.left.0 ++ l) next.left.1 ∙ sym (append_assoc first.left.0 next.left.0 (all_bodies next.serves.lasts.bodies)),
            );
          };
      runs = two.runs ∙ one.runs;
      empty = λ empty.
          let first = one.empty empty in
          let next = two.empty (same_empty old mid first.0 first.1 empty) in
          (next.0 ∙ first.0, next.1 ∙ first.1);
      covered = λ s covered. two.covered s (one.covered s covered);
    }

-- ---- steps

-- a log with no record of its epoch ends at its first gate
first_end : (end : End) (epoch : ℕ) (bytes : List ℕ) (bodies : List (List ℕ)) → bodies ≡ [] → EndsBehind end epoch bytes bodies → next_of end ≡ FIRST_GATE
first_end Unopened epoch bytes bodies none ends = refl
first_end (At next) epoch bytes [] none ends = omega (arith, ends.3)
first_end (At next) epoch bytes (body ∷ bodies) none ends = absurd (cc)

-- so does that of a covered system
covered_end : {S : Type 0} {G : Ghosts S} (f : System S G) (s : State) → (ServesState f s → MayLeave (meaning_of f) (meaning_of f).seen) → IsCovered f s.tree.descriptors s
    → next_of f.log.end ≡ FIRST_GATE
covered_end f s seen covered =
    let serves = covered.serves in
    let m = meaning_of f in
    let stands = (serves.left serves.honest m.seen (seen serves)).log_stands in
    first_end f.log.end f.log.epoch (half_of f.log.half f.log.epoch m.seen.nvram) serves.lasts.bodies.newest (ap (λ (b : Bodies). b.newest) covered.no_record) stands.ends

-- at the beginning of a half no point is planned
not_due : {S : Type 0} {G : Ghosts S} (f : System S G) → IsPlanDue f → next_of f.log.end ≡ FIRST_GATE → ⊥
not_due f due first = omega (arith, due.late, first, f.half, f.is_root.head.sizes.least_half)

abbrev step_before : {S : Type 0} {G : Ghosts S} (old new : System S G) (u : Unit {0}) → Steps old new (Ok u)
    → ((s : State) (served : ServesState old s) → ServesRest new s.tree.descriptors s (all_bodies served.lasts.bodies))
    → (HasEmptyLog old → (new.log ≡ old.log) × (new.root ≡ old.root)) → ((s : State) → IsCovered old s.tree.descriptors s → ⊥) → IsBefore old new
step_before old new u stepped rest empty covered = record {
  counted = stepped.counted;
  unlogged = stepped.unlogged;
  leaves = λ s served. stepped.leaves s.tree.descriptors s served;
  rest = rest;
  runs = stepped.runs;
  empty = empty;
  covered = λ s is. absurd (covered s is);
}

-- a point was planned, or not
pub planned_before : {S : Type 0} {G : Ghosts S} (old new : System S G) (u : Unit {0}) → IsPlanDue old → Steps old new (Ok u) → ((s : State) → ServesState old s → MayLeave (meaning_of old) (meaning_of old).seen)
    → IsBefore old new
planned_before old new u due stepped seen =
    step_before old new u stepped (λ s served. stepped.rest s.tree.descriptors s served) (λ empty. absurd (not_due old due empty.end)) (λ s covered. not_due old due (covered_end old s (seen s) covered))

-- a slice was written
abbrev sliced_before : {S : Type 0} {G : Ghosts S} (old new : System S G) (u : Unit {0}) → old.blocks.pending ≢ None → Steps old new (Ok u) → StaysReady old new (Ok u) → IsBefore old new
sliced_before old new u under stepped ready =
    step_before old new u stepped (λ s served. (ready.rest s.tree.descriptors s served).rest) (λ empty. stepped.same under) (λ s covered. under covered.rests)

-- ---- what is prepared

-- A call is prepared on a system behind another, for what each state that this served comes to.
pub record IsPreparedBehind {S : Type 0} {G : Ghosts S} (old mid : System S G) (call : Command) (p : PreparedCall) : Type 0 where
  pub before : IsBefore old mid
  pub at : (s : State) (served : ServesState old s) → IsPreparedAt (system_parts mid) (blocks_of (disk_of mid)) (before.rest s served).serves.running call p

module _ {S : Type 0} {G : Ghosts S} {old mid : System S G} {call : Command} {p : PreparedCall} where
  pub prepared_by : AllOpen old → PreparesOn old mid call (Ok p) → IsPreparedBehind old mid call p
  prepared_by opens prepares =
      let reads = reads_on prepares.prepares.looks.reads in
      let parts = prepares.parts in
      let keeps : KeepsServing old mid = prepared_serving old mid call prepares in
      record {
        before = looked_before old mid reads.below reads.pending (ap (λ (k : Parts). k.log) parts) (ap (λ (k : Parts). k.root) parts) opens keeps;
        at = λ s served.
            subst (λ (w : Volume). IsPreparedAt (system_parts mid) (blocks_of (disk_of mid)) w call p) (sym (keeps s served).volume) (prepared_at old mid call p prepares (served_shows served));
      }

  -- it stays so behind a slice
  pub prepared_sliced : (new : System S G) (u : Unit {0}) → IsPreparedBehind old mid call p → mid.blocks.pending ≢ None → Steps mid new (Ok u) → StaysReady mid new (Ok u) → IsPreparedBehind old new call p
  prepared_sliced new u prepared under stepped ready = record {
    before = both prepared.before (sliced_before mid new u under stepped ready);
    at = λ s served.
        let serves = (prepared.before.rest s served).serves in
        let here = prepared.at s served in
        let next = ready.rest s.tree.descriptors s serves in
        let disk : blocks_of (disk_of mid) ≡ blocks_of (disk_of new) = (ready.shows (blocks_of (disk_of mid)) serves.shows).is in
        let Now = λ (k : Parts). IsPreparedAt k (blocks_of (disk_of new)) next.rest.serves.running call p in
        let there : IsPreparedAt (system_parts mid) (blocks_of (disk_of new)) next.rest.serves.running call p =
        subst (λ (w : Volume). IsPreparedAt (system_parts mid) (blocks_of (disk_of new)) w call p) (sym next.volume)
        (subst (λ (d : ℕ → List ℕ). IsPreparedAt (system_parts mid) d serves.running call p) disk here) in
        subst Now (sym ready.parts) (record { said = there.said; timed = there.timed; does = there.does; comes = there.comes });
  }

  -- and it is prepared behind what came before
  pub prepared_after : (new : System S G) → IsBefore old mid → IsPreparedBehind mid new call p → IsPreparedBehind old new call p
  prepared_after new before prepared = record {
    before = both before prepared.before;
    at = λ s served. prepared.at s (before.rest s served).serves;
  }

  -- a call whose record is prepared would change something
  pub would_change : IsPreparedBehind old mid call p → p.change ≢ None → (s : State) → ServesState old s → WouldChange s call
  would_change prepared some s served = changes p.change refl
    where
      changes : (o : Option PreparedChange) → p.change ≡ o → WouldChange s call
      changes None none = absurd (some none)
      changes (Some c) is =
          let logged = told_logged (served_shows (prepared.before.rest s served).serves) call p c (logged_by c) is refl (prepared.at s served) in
          record {
            reply = p.reply;
            after = _;
            need = λ room. logs (work_of (prepared.before.rest s served).serves.running (logged_by c));
            step = logged.step;
            needs = λ room none. cc;
          }
