-- What a step of a consistency point does to a system, and the end of one.
use Rattle.std.proofs.Common.{◌≡◌, ◌≢◌, ◌⊎◌, Ok, ℕ, ◌+◌, ◌≤◌, ◌<◌, List, [], Option, Some, None, Result, Err, ◌-◌, length, min, refl, ap, sym, subst, ◌∙◌, arith}
use Rattle.std.specs.Prelude.{IfErr, IfSome, OnOk}
use Rattle.station.specs.Calls.{OnlyWrites}
use Rattle.station.specs.Moments.{Meaning, MayLeave, EachCut, After, Goes, HasGrown, HasSizes, LeavesJust, LeavesOnly}
use Rattle.station.specs.declared.station.Station.{Ghosts}
use Rattle.station.specs.Images.{Images}
use Rattle.station.proofs.Moments.{goes_on, leaves_unchanged}
use Rattle.layout.specs.Places.{blocks_of}
use Rattle.model.specs.States.{State}
use Rattle.model.specs.Trees.{Description}
use Rattle.model.specs.Volumes.{Volume}
use Rattle.blockmap.specs.Changes.{SwitchesTo}
use Rattle.blockmap.specs.Maps.{entry_at}
use Rattle.images.specs.SnapshotSteps.{unchanged}
use Rattle.planning.specs.declared.change.SnapshotChange.TheVariants.{Unchanged}
use Rattle.oplog.specs.LogEnd.{LogEnd, all_bodies}
use Rattle.conspoint.specs.Cuts.{HasNewRoot, HasRootOrLost, StaysOutside}
use Rattle.overlay.specs.Overlays.{ShowsOver, SlicesOn, unwritten}
use Rattle.overlay.specs.declared.pending.PendingPoint.{PendingPoint}
use Rattle.system.specs.Counting.{AgesBy, LogsNothing}
use Rattle.system.specs.Errors.{IsNotWritten}
use Rattle.system.specs.Images.{Base, OpensTo}
use Rattle.system.specs.Laws.{CutLaws, RootLaws}
use Rattle.system.specs.Slicing.{CarriesOut, Finishes, Begins, ServesBy, ServesRestBy, StaysReady, Steps, StepsOn}
use Rattle.inofile.specs.declared.inode_file.InodeFile.{InodeFile}
use Rattle.system.specs.Systems.{Parts, HasState, HasStateBy, IsComing, IsServing, IsServingRest, ServesRest, disk_of, meaning_of, system_parts}
use Rattle.system.specs.UnderWay.{WayLaws}
use Rattle.system.specs.declared.error.PointError.{PointError}
use Rattle.system.specs.declared.error.PointError.TheVariants.{NotWritten}
use Rattle.system.specs.declared.slicing.TheConstants.{SLICE_BLOCKS}
use Rattle.system.specs.declared.system.System.{System}
use Rattle.system.proofs.CoveringLaws.{on_ok_any}
use Rattle.system.proofs.CountingLaws.{next_age, nothing_logged, perhaps_read, same_age}
use Rattle.system.proofs.PointLaws.{has_room, checkpoints_running}
use Rattle.system.proofs.SystemLaws.{all_open, at_rest}
use Rattle.system.proofs.RestLaws.{next_rest, same_generation, same_rest}
use Rattle.system.proofs.GoingOnLaws.{carried_unlogged, coming_of, end_leaves, ended, pending_serves, slice_leaves, slice_unlogged, sliced, wrote}

-- ---- slices

-- few blocks are left
pub ends_within : (o : Option PendingPoint) → o ≢ None → unwritten o ≤ SLICE_BLOCKS → StepsOn o None
ends_within None some few = absurd (some refl)
ends_within (Some pending) some few = omega (arith, few)

-- a slice of them was written
pub slice_of : {T E : Type 0} (o n : Option PendingPoint) (r : Result T E) (x : T) → r ≡ Ok x → o ≢ None → SlicesOn SLICE_BLOCKS o n r → SLICE_BLOCKS < unwritten o
    → IfSome o (λ a. (b : PendingPoint) × (n ≡ Some b) × (b.plan ≡ record a.plan { written = a.plan.written + SLICE_BLOCKS }) × (a.plan.written + SLICE_BLOCKS < length a.plan.blocks))
slice_of None n r x is some slices more = absurd (some refl)
slice_of {T} {E} (Some a) None r x is some slices more = absurd (subst (λ (q : Result T E). OnOk q ⊥) is slices)
slice_of {T} {E} (Some a) (Some b) r x is some slices more =
    let written : b.plan.written ≡ a.plan.written + SLICE_BLOCKS =
    subst (λ (q : Result T E). OnOk q (b.plan.written ≡ min (length a.plan.blocks) (a.plan.written + SLICE_BLOCKS))) is slices.1 ∙ min_right (length a.plan.blocks) a.plan.written more in
    (b, refl, slices.0 ∙ ap (λ (k : ℕ). record a.plan { written = k }) written, omega (arith, more))
  where
    min_right : (n k : ℕ) → SLICE_BLOCKS < n - k → min n (k + SLICE_BLOCKS) ≡ k + SLICE_BLOCKS
    min_right n k more = omega (arith, more)

pub sliced_so : (o n : Option PendingPoint) → o ≢ None → IfSome o (λ a. (b : PendingPoint) × (n ≡ Some b) × (b.plan ≡ record a.plan { written = a.plan.written + SLICE_BLOCKS }) × (a.plan.written + SLICE_BLOCKS < length a.plan.blocks)) → StepsOn o n
sliced_so None n some slice = absurd (some refl)
sliced_so (Some a) n some slice = subst (StepsOn (Some a)) (sym slice.1) (slice.2, slice.3)

-- one was planned, or none was
pub planned_so : (o n : Option PendingPoint) → o ≡ None → IfSome n (λ l. l.plan.written ≡ 0) → StepsOn o n
planned_so o None none fresh = subst (λ (x : Option PendingPoint). StepsOn x None) (sym none) tt
planned_so o (Some pending) none fresh = subst (λ (x : Option PendingPoint). StepsOn x (Some pending)) (sym none) fresh

-- a step that plans a point, or doesn't
module _ {S : Type 0} {G : Ghosts S} (laws : CutLaws) (old new : System S G) (none : old.blocks.pending ≡ None) (first : old.log.epoch ≡ old.root.generation + 1) where
  abbrev start : Meaning
  start = meaning_of old

  abbrev end : Meaning
  end = meaning_of new

  begins_on : {r : Result (Unit {0}) PointError} → Begins Unchanged old new r → (end.is_honest → MayLeave end end.seen) → new.log.half ≡ old.log.half
      → (stays : (table : ℕ → Option Description) (s : State) → HasState old table s → HasState new table s)
      → ((table : ℕ → Option Description) (s : State) (serves : HasState old table s) → (stays table s serves).settled.disk ≡ start.seen.disk)
      → AgesBy 1 old.log.epoch new.log.epoch → new.log.is_stopped ≡ old.log.is_stopped → StepsOn old.blocks.pending new.blocks.pending → Steps old new (Ok tt)
  begins_on begins seen half stays disk ages runs pending = record {
    counted = perhaps_read start end begins.reads;
    unlogged = nothing_logged start end begins.reads.goes;
    leaves = λ table s serves. leaves_unchanged start end (OpensTo start s) (all_open serves old.sectors old.half laws) begins.reads.goes;
    rest = λ table s serves.
        let now = stays table s serves in
        record {
          serves = now;
          left = same_rest old new serves now (nothing_logged start end begins.reads.goes) seen half
              (same_generation old new serves now (disk table s serves ∙ sym (ap (λ (b : Base). b.disk) (at_rest serves none).base)));
        };
    epoch = ages;
    runs = runs;
    same = λ under. absurd (under none);
    pending = pending;
  }

  pub planned_step : (r : Result (Unit {0}) PointError) → Begins Unchanged old new r → (end.is_honest → MayLeave end end.seen) → Steps old new (Ok tt)
  planned_step (Ok u) begins seen =
      begins_on begins seen (ap (λ (l : LogEnd). l.half) begins.log) (λ table s serves. pending_serves old new table s serves none first begins.reads begins.log begins.same.0 begins.same.1 begins.same.2 (begins.pending old.inodes table s serves serves.first serves.running
      (checkpoints_running {G = G} old serves Unchanged unchanged refl tt) unchanged (record { is = refl; can = tt }) (has_room {G = G} old serves none Unchanged tt)))
      (λ table s serves. refl)
      (next_age old.log.epoch new.log.epoch (ap (λ (l : LogEnd). l.epoch) begins.log)) (ap (λ (l : LogEnd). l.is_stopped) begins.log)
      (planned_so old.blocks.pending new.blocks.pending none begins.unwritten)
  planned_step (Err e) begins seen =
      begins_on begins seen (ap (λ (l : LogEnd). l.half) begins.log) still
      (λ table s serves. ap (λ (b : Base). b.disk) (at_rest (still table s serves) begins.none).base ∙ ap (λ (i : Images). i.disk) (begins.reads.goes serves.honest).seen)
      (same_age old.log.epoch new.log.epoch (ap (λ (l : LogEnd). l.epoch) begins.log)) (ap (λ (l : LogEnd). l.is_stopped) begins.log)
      (planned_so old.blocks.pending new.blocks.pending none (subst (λ (l : Option PendingPoint). IfSome l (λ l. l.plan.written ≡ 0)) (sym begins.none) tt))
    where
      still : (table : ℕ → Option Description) (s : State) → HasState old table s → HasState new table s
      still table s serves = subst (λ (i : InodeFile). HasStateBy i new table s) (sym begins.memory) (begins.refused old.inodes table s serves)

-- ---- what the blocks were told

-- an answer of the blocks, as the system gives it
pub done_too : {T E : Type 0} (r : Result T E) (x : T) → r ≡ Ok x → (A : Type 0) → OnOk r A → OnOk {T = Unit {0}} {E = PointError} (Ok tt) A
done_too {T} {E} r x is A h = subst (λ (q : Result T E). OnOk q A) is h

pub wrote_all : {T E : Type 0} (F : E → Type 0) (m n : Meaning) (r : Result T E) (x : T) → r ≡ Ok x → OnlyWrites F m n r → OnlyWrites {T = Unit {0}} {E = PointError} IsNotWritten m n (Ok tt)
wrote_all F m n r x is writes = record { same = writes.same; reads = writes.reads; writes = writes.writes; ok = done_too r x is (n.failed_writes ≡ m.failed_writes) writes.ok; fault = tt }

pub wrote_not : {T E : Type 0} (F : E → Type 0) (m n : Meaning) (r : Result T E) (e : E) → r ≡ Err e → OnlyWrites F m n r → IfErr r F → OnlyWrites {T = Unit {0}} {E = PointError} IsNotWritten m n (Err NotWritten)
wrote_not {T} {E} F m n r e is writes why =
    let fault = subst (λ (q : Result T E). IfErr q (λ e. F e → HasGrown m.failed_writes n.failed_writes)) is writes.fault in
    let here = subst (λ (q : Result T E). IfErr q F) is why in
    record { same = writes.same; reads = writes.reads; writes = writes.writes; ok = tt; fault = λ _. fault here }

pub all_three : {T E : Type 0} (r : Result T E) (q : Result (Unit {0}) PointError) (P Q R : PendingPoint → Type 0) (o : Option PendingPoint) → ((A : Type 0) → OnOk r A → OnOk q A)
    → IfSome o P → IfSome o (λ l. OnOk r (Q l)) → IfSome o (λ l. OnOk r (R l)) → IfSome o (λ l. P l × OnOk q (Q l) × OnOk q (R l))
all_three r q P Q R None too p one two = tt
all_three r q P Q R (Some pending) too p one two = (p, too (Q pending) one, too (R pending) two)

-- The blocks of a system with a point under way were ended, and its map settled.
module _ {S : Type 0} {G : Ghosts S} (laws : CutLaws) (roots : RootLaws) (ways : WayLaws) (old new : System S G) (under : old.blocks.pending ≢ None)
    (here : (meaning_of old).is_honest → MayLeave (meaning_of old) (meaning_of old).seen) (now_seen : (meaning_of new).is_honest → MayLeave (meaning_of new) (meaning_of new).seen)
    (sized : EachCut (meaning_of new) (HasSizes (meaning_of new))) where
  abbrev m : Meaning
  m = meaning_of old

  abbrev n : Meaning
  n = meaning_of new

  abbrev pub Ends : Result (Unit {0}) PointError → PendingPoint → Type 0
  Ends r pending = LeavesOnly m n (λ c. After (StaysOutside pending.plan.blocks) m c ⊎ HasRootOrLost pending.plan m.seen c)
      × OnOk r (EachCut n (HasNewRoot pending.plan m.seen)) × OnOk r (LeavesJust n n.seen)

  carries : (r : Result (Unit {0}) PointError) → SwitchesTo (entry_at old.map.parts.items) old.map new.map → (o : Option PendingPoint) → IfSome o (Ends r) → IfSome o (CarriesOut old new r)
  carries r map None ends = tt
  carries r map (Some pending) ends = record { any_moment = ends.0; settled = ends.1; just = ends.2; map = map }

  unlogged : (r : Result (Unit {0}) PointError) (o : Option PendingPoint) → o ≢ None → IfSome o (Ends r) → LogsNothing m n
  unlogged r None some ends = absurd (some refl)
  unlogged r (Some pending) some ends = carried_unlogged m n pending.plan here ends.0

  pub finishes : (r : Result (Unit {0}) PointError) → OnlyWrites {T = Unit {0}} {E = PointError} IsNotWritten m n r → IfErr r IsNotWritten → new.blocks.pending ≡ None
      → system_parts new ≡ record (system_parts old) { kept = new.blocks.buffers.kept; pending = None; map = new.map; pledged = new.pledged } → new.pledged ≡ old.pledged_then
      → ((disk : ℕ → List ℕ) → ShowsOver m old.blocks.buffers.kept old.blocks.pending disk → OnOk r (ShowsOver n new.blocks.buffers.kept new.blocks.pending disk))
      → SwitchesTo (entry_at old.map.parts.items) old.map new.map → IfSome old.blocks.pending (Ends r) → Finishes old new r
  finishes r writes why none parts pledged shows map ends = record {
    writes = writes;
    why = why;
    unlogged = unlogged r old.blocks.pending under ends;
    idle = λ rests. absurd (under rests);
    parts = parts;
    pledges = λ _. pledged;
    shows = shows;
    carried = carries r map old.blocks.pending ends;
    goes_on = λ table s serves.
        let coming = coming_of serves under in
        let done = subst (λ (l : Option PendingPoint). IfSome l (Ends r)) coming.is ends in
        let by = stays r table s serves coming done (shows (blocks_of (disk_of old)) serves.shows) in
        record {
          leaves = end_leaves laws ways serves old.sectors old.half coming n roots (here serves.honest) done.0;
          stays = only_serves r table s serves.running by;
          by = by;
        };
  }
    where
      only_serves : (r : Result (Unit {0}) PointError) (table : ℕ → Option Description) (s : State) (running : Volume) → OnOk r (ServesBy new table s running) → OnOk r (HasState new table s)
      only_serves (Err e) table s running by = tt
      only_serves (Ok u) table s running by = by.serves

      stays : (r : Result (Unit {0}) PointError) (table : ℕ → Option Description) (s : State) (serves : HasState old table s)
          (coming : IsComing m old.log old.blocks.pending old.root old.slot serves.first old.map serves.lasts old.pledged_then) → Ends r coming.point
          → OnOk r (ShowsOver n new.blocks.buffers.kept new.blocks.pending (blocks_of (disk_of old))) → OnOk r (ServesBy new table s serves.running)
      stays (Err e) table s serves coming done shown = tt
      stays (Ok u) table s serves coming done shown =
          let honest = writes.same.honest.0 serves.honest in
          let sizes = sized honest n.seen (now_seen honest) in
          let it = subst (λ (k : Parts). (now : IsServing n k table s) × (now.running ≡ serves.running))
          (sym (parts ∙ (λ i. record (system_parts old) { kept = new.blocks.buffers.kept; pending = None; map = new.map; pledged = pledged i }))) (
            ended laws ways serves old.sectors old.half coming n roots (here serves.honest) writes.same honest (done.1 honest n.seen (now_seen honest)) (λ k lt. sizes.sector k lt) done.2
                new.blocks.buffers.kept (subst (λ (l : Option PendingPoint). ShowsOver n new.blocks.buffers.kept l (blocks_of (disk_of old))) none shown) new.map map,
            refl,
          ) in
          record { serves = it.0; volume = it.1 }

only_rest : {S : Type 0} {G : Ghosts S} (f : System S G) (r : Result (Unit {0}) PointError) (table : ℕ → Option Description) (s : State) (before : List (List ℕ)) (running : Volume)
    → OnOk r (ServesRestBy f table s before running) → OnOk r (ServesRest f table s before)
only_rest f (Err e) table s before running by = tt
only_rest f (Ok u) table s before running by = by.rest

-- few blocks were left, and the point was ended
module _ {S : Type 0} {G : Ghosts S} (ways : WayLaws) (old new : System S G) (seen : (meaning_of new).is_honest → MayLeave (meaning_of new) (meaning_of new).seen)
    (r : Result (Unit {0}) PointError) (under : old.blocks.pending ≢ None) (does : Finishes old new r) where
  rests_by : (r : Result (Unit {0}) PointError) → Finishes old new r → (table : ℕ → Option Description) (s : State) (serves : HasState old table s)
      → OnOk r (ServesRestBy new table s (all_bodies serves.lasts.bodies) serves.running)
  rests_by (Err e) does table s serves = tt
  rests_by (Ok u) does table s serves =
      let by = (does.goes_on table s serves).by in
      let now = by.serves in
      let coming = coming_of serves under in
      let base = (at_rest now (ap (λ (k : Parts). k.pending) does.parts)).base in
      record {
        rest = record {
          serves = now;
          left = next_rest old new serves now does.unlogged seen (ap (λ (k : Parts). k.log.half) does.parts) ways coming.way.epoch
              (ap (λ (b : Base). b.root.generation) base ∙ ap (λ (k : Parts). k.root.generation) does.parts ∙ coming.way.planned.covers);
        };
        volume = by.volume;
      }

  pub last_slice : unwritten old.blocks.pending ≤ SLICE_BLOCKS → Steps old new r
  last_slice few =
      let log : new.log ≡ old.log = ap (λ (k : Parts). k.log) does.parts in
      record {
        counted = wrote {T = Unit {0}} (meaning_of old) (meaning_of new) r does.writes does.why;
        unlogged = does.unlogged;
        leaves = λ table s serves. (does.goes_on table s serves).leaves;
        rest = λ table s serves. only_rest new r table s (all_bodies serves.lasts.bodies) serves.running (rests_by r does table s serves);
        epoch = same_age old.log.epoch new.log.epoch (ap (λ (l : LogEnd). l.epoch) log);
        runs = ap (λ (l : LogEnd). l.is_stopped) log;
        same = λ _. (log, ap (λ (k : Parts). k.root) does.parts);
        pending = on_ok_any r (subst (StepsOn old.blocks.pending) (sym (ap (λ (k : Parts). k.pending) does.parts)) (ends_within old.blocks.pending under few));
      }

  pub last_ready : StaysReady old new r
  last_ready = record {
    parts = does.parts ∙ (λ i. record (system_parts old) { kept = new.blocks.buffers.kept; pending = sym (ap (λ (k : Parts). k.pending) does.parts) i; map = new.map; pledged = new.pledged });
    shows = does.shows;
    rest = rests_by r does;
  }

-- a slice of it was written
module _ {S : Type 0} {G : Ghosts S} (laws : CutLaws) (ways : WayLaws) (old new : System S G) (under : old.blocks.pending ≢ None)
    (parts : system_parts new ≡ record (system_parts old) { kept = new.blocks.buffers.kept; pending = new.blocks.pending })
    (goes : IfSome old.blocks.pending (λ l. Goes (StaysOutside l.plan.blocks) (meaning_of old) (meaning_of new))) where
  abbrev before : Meaning
  before = meaning_of old

  abbrev behind : Meaning
  behind = meaning_of new

  abbrev pub Slice : PendingPoint → Type 0
  Slice a = (b : PendingPoint) × (new.blocks.pending ≡ Some b) × (b.plan ≡ record a.plan { written = a.plan.written + SLICE_BLOCKS }) × (a.plan.written + SLICE_BLOCKS < length a.plan.blocks)

  slice_silent : (o : Option PendingPoint) → o ≢ None → IfSome o (λ l. Goes (StaysOutside l.plan.blocks) before behind) → LogsNothing before behind
  slice_silent None some goes = absurd (some refl)
  slice_silent (Some pending) some goes = slice_unlogged before behind pending.plan.blocks goes

  module _ (r : Result (Unit {0}) PointError) (shows : (disk : ℕ → List ℕ) → ShowsOver before old.blocks.buffers.kept old.blocks.pending disk → OnOk r (ShowsOver behind new.blocks.buffers.kept new.blocks.pending disk))
      (slice : OnOk r (IfSome old.blocks.pending Slice)) where
    went : {table : ℕ → Option Description} {s : State} (serves : HasState old table s) → Goes (StaysOutside (coming_of serves under).point.plan.blocks) before behind
    went serves = subst (λ (l : Option PendingPoint). IfSome l (λ l. Goes (StaysOutside l.plan.blocks) before behind)) (coming_of serves under).is goes

    slice_rests : (table : ℕ → Option Description) (s : State) (serves : HasState old table s) → OnOk r (ServesRestBy new table s (all_bodies serves.lasts.bodies) serves.running)
    slice_rests table s serves = rests r slice (shows (blocks_of (disk_of old)) serves.shows)
      where
        rests : (r : Result (Unit {0}) PointError) → OnOk r (IfSome old.blocks.pending Slice) → OnOk r (ShowsOver behind new.blocks.buffers.kept new.blocks.pending (blocks_of (disk_of old)))
            → OnOk r (ServesRestBy new table s (all_bodies serves.lasts.bodies) serves.running)
        rests (Err e) slice shown = tt
        rests (Ok u) slice shown =
            let coming = coming_of serves under in
            let goes_out = went serves in
            let one = subst (λ (l : Option PendingPoint). IfSome l Slice) coming.is slice in
            let less = one.3 in
            let it = subst (λ (k : Parts). (rest : IsServingRest behind k table s (all_bodies serves.lasts.bodies)) × (rest.serves.running ≡ serves.running))
            (sym (parts ∙ (λ i. record (system_parts old) { kept = new.blocks.buffers.kept; pending = one.1 i }))) (
              record {
                serves = sliced laws ways serves old.sectors old.half coming behind goes_out (coming.point.plan.written + SLICE_BLOCKS) (omega (arith, less)) one.0 one.2 (goes_out serves.honest).honest
                    new.blocks.buffers.kept (subst (λ (l : Option PendingPoint). ShowsOver behind new.blocks.buffers.kept l (blocks_of (disk_of old))) one.1 shown);
                left = ([], refl);
              },
              refl,
            ) in
            record { rest = it.0; volume = it.1 }

    pub slice_step : OnlyWrites {T = Unit {0}} {E = PointError} IsNotWritten before behind r → IfErr r IsNotWritten → Steps old new r
    slice_step writes why =
        let log : new.log ≡ old.log = ap (λ (k : Parts). k.log) parts in
        record {
          counted = wrote {T = Unit {0}} before behind r writes why;
          unlogged = slice_silent old.blocks.pending under goes;
          leaves = λ table s serves. slice_leaves laws ways serves old.sectors old.half (coming_of serves under) behind (went serves);
          rest = λ table s serves. only_rest new r table s (all_bodies serves.lasts.bodies) serves.running (slice_rests table s serves);
          epoch = same_age old.log.epoch new.log.epoch (ap (λ (l : LogEnd). l.epoch) log);
          runs = ap (λ (l : LogEnd). l.is_stopped) log;
          same = λ _. (log, ap (λ (k : Parts). k.root) parts);
          pending = steps r slice;
        }
      where
        steps : (r : Result (Unit {0}) PointError) → OnOk r (IfSome old.blocks.pending Slice) → OnOk r (StepsOn old.blocks.pending new.blocks.pending)
        steps (Ok u) slice = sliced_so old.blocks.pending new.blocks.pending under slice
        steps (Err e) slice = tt

    pub slice_ready : StaysReady old new r
    slice_ready = record {
      parts = parts ∙ (λ i. record (system_parts old) {
        kept = new.blocks.buffers.kept;
        pending = new.blocks.pending;
        map = sym (ap (λ (k : Parts). k.map) parts) i;
        pledged = sym (ap (λ (k : Parts). k.pledged) parts) i;
      });
      shows = shows;
      rest = slice_rests;
    }
