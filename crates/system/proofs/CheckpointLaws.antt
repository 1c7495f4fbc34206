-- What a command that changes the snapshots comes to, behind its tests and by a consistency point of its own.
use Rattle.std.proofs.Common.{◌≡◌, ◌≢◌, ◌⊎◌, inl, inr, ℕ, zero, suc, ◌+◌, ◌*◌, ◌≤◌, ◌<◌, ◌^◌, List, [], ◌∷◌, ◌++◌, Bool, false, not, Option, Some, None, Result, Ok, Err, refl, ap, sym, subst, ◌∙◌, arith}
use Rattle.std.specs.Prelude.{IsErrOf, OnOk, bytes_eq, filter, is_none, slice_index_or}
use Rattle.std.proofs.lemmas.Bool.{cases_lt}
use Rattle.station.specs.Moments.{HasGrown, LeavesOnly, Meaning}
use Rattle.station.specs.declared.station.Station.{Ghosts}
use Rattle.station.proofs.Moments.{goes_on_unchanged, joined, leaves_unchanged, weaker}
use Rattle.layout.specs.Places.{Blocks, blocks_of}
use Rattle.layout.specs.Root.{IsRoot}
use Rattle.layout.specs.SnapRoot.{Snapshot, snapshot_in}
use Rattle.layout.specs.declared.pointer.Pointer.{Pointer}
use Rattle.layout.specs.declared.pointer.Pointer.TheVariants.{Block, Hole}
use Rattle.layout.specs.declared.root.Root.{Root}
use Rattle.model.specs.Laws.{MountsForget}
use Rattle.model.specs.Paths.{Name, first_refusal}
use Rattle.model.specs.Records.{without_orphans}
use Rattle.model.specs.Room.{IsShort, Need, Room, Work, a_snapshot, logs, nothing}
use Rattle.model.specs.States.{State, ForgetsOpenFiles, with_snapshots}
use Rattle.model.specs.Steps.{deletes, frozen, take_tests, takes}
use Rattle.model.specs.Trees.{Description, Tree}
use Rattle.model.specs.Volumes.{Volume, tree_of}
use Rattle.model.specs.declared.command.Command.{Command}
use Rattle.model.specs.declared.errno.Errno.TheVariants.{NOSNAP}
use Rattle.model.specs.declared.reply.Reply.TheVariants.{Done}
use Rattle.buffers.specs.Disks.{ReadsOn}
use Rattle.buffers.specs.declared.error.BlockError.{BlockError}
use Rattle.buffers.specs.declared.error.BlockError.TheVariants as read_errors
use Rattle.images.specs.Roots.{slot, whole}
use Rattle.images.specs.Snapshots.{HasSnapshot}
use Rattle.images.specs.SnapshotSteps.{CanTake, HasNamed, IsSlotNumber}
use Rattle.oplog.specs.LogEnd.{LogEnd}
use Rattle.conspoint.specs.Errors.{plan_error}
use Rattle.conspoint.specs.declared.error.PlanError.{PlanError}
use Rattle.conspoint.specs.declared.error.PlanError.TheVariants as plan
use Rattle.snapshots.specs.Found.{FindsSnapshot, SpellsSnapshot, named, snapshot_found}
use Rattle.snapshots.specs.Taken.{MayTake}
use Rattle.snapshots.specs.declared.finding.FoundSnapshot.{FoundSnapshot}
use Rattle.snapshots.specs.declared.taking.Taking.{Taking}
use Rattle.snapshots.proofs.NamedLaws.{one_named}
use Rattle.snapshots.proofs.PreparedLaws.{passed}
use Rattle.snapshots.proofs.SlotLaws as slots
use Rattle.system.specs.Counting.{AgesBy, Counted, Failed, IsNoGeneration, LogsNothing, a_read, no_call, perhaps_reads, point_error_failed}
use Rattle.system.specs.Errors.{IsNotWritten, call_error}
use Rattle.system.specs.Images.{OpensTo}
use Rattle.system.specs.Points.{KeepsSlotsOn, MakesPointFrom}
use Rattle.system.specs.Room.{HasRoomToTake}
use Rattle.system.specs.Serving.{LeavesEither, ServesAsBefore, ServesState, WouldDo}
use Rattle.system.specs.CheckpointCommands.{Glances, IsRoomOf, LacksOrder, MakesCovered, Checkpoints, made_of}
use Rattle.system.specs.Slicing.{Finishes}
use Rattle.system.specs.Systems.{HasState, IsCovered, IsServing, Parts, disk_over, meaning_of}
use Rattle.system.specs.declared.error.CallError.{CallError}
use Rattle.system.specs.declared.error.PointError.{PointError}
use Rattle.system.specs.declared.error.PointError.TheVariants as point
use Rattle.system.specs.declared.system.System.{System}
use Rattle.system.proofs.CountingLaws.{all_read, all_written, counted_after, logged_twice, not_read, nothing_logged, perhaps_read, same_age, told_beside_reads}
use Rattle.system.proofs.CoveringLaws.{aged}
use Rattle.system.proofs.SystemLaws.{opens_same}
use Rattle.system.proofs.SystemLaws.{AllOpen}
use Rattle.system.proofs.SystemLaws.{extends_itself}
use Rattle.system.proofs.ViewLaws.{closed, snapshots_of}

module _ {S : Type 0} {G : Ghosts S} (old new : System S G) (reads : ReadsOn (meaning_of old) (meaning_of new)) (log : new.log ≡ old.log)
    (serves : (s : State) (served : ServesState old s) → ServesAsBefore old new s served) where
  -- blocks were read
  pub glanced : {T : Type 0} (x : T) → (meaning_of new).failed_reads ≡ (meaning_of old).failed_reads → Glances {T = T} old new (Ok x)
  glanced x same = record {
    reads = reads;
    counted = all_read (meaning_of old) (meaning_of new) reads same;
    log = log;
    refuses = tt;
    serves = serves;
    damaged = λ s served is. cc;
  }

  -- one wasn't
  pub not_glanced : {T : Type 0} (error : BlockError) (e : CallError) → e ≡ call_error error → (error ≡ read_errors.Device → HasGrown (meaning_of old).failed_reads (meaning_of new).failed_reads)
      → ((s : State) → ServesState old s → error ≡ read_errors.Damaged → ⊥) → Glances {T = T} old new (Err e)
  not_glanced {T} error e is fault damaged = subst (λ (x : CallError). Glances {T = T} old new (Err x)) (sym is) (by_case error fault damaged)
    where
      by_case : (error : BlockError) → (error ≡ read_errors.Device → HasGrown (meaning_of old).failed_reads (meaning_of new).failed_reads)
          → ((s : State) → ServesState old s → error ≡ read_errors.Damaged → ⊥) → Glances {T = T} old new (Err (call_error error))
      by_case read_errors.NoMemory fault damaged = record {
        reads = reads;
        counted = perhaps_read (meaning_of old) (meaning_of new) reads;
        log = log;
        refuses = (λ is. cc, λ is. cc, λ is. cc);
        serves = serves;
        damaged = λ s served is. cc;
      }
      by_case read_errors.Device fault damaged = record {
        reads = reads;
        counted = not_read (meaning_of old) (meaning_of new) reads (fault refl);
        log = log;
        refuses = (λ is. cc, λ is. cc, λ is. cc);
        serves = serves;
        damaged = λ s served is. cc;
      }
      by_case read_errors.Damaged fault damaged = record {
        reads = reads;
        counted = perhaps_read (meaning_of old) (meaning_of new) reads;
        log = log;
        refuses = (λ is. cc, λ is. cc, λ is. cc);
        serves = serves;
        damaged = λ s served is. damaged s served refl;
      }

-- ---- what comes before a command's own point

-- From a system to what has this meaning and this log nothing was logged, by a consistency point at most, and what it serves stays, also at a cut
-- at any moment.
pub record KeepsServing {S : Type 0} {G : Ghosts S} (why : Failed) (old : System S G) (n : Meaning) (log : LogEnd) (Has : (ℕ → Option Description) → State → Type 0) : Type 0 where
  pub counted : Counted (meaning_of old) n why
  pub unlogged : LogsNothing (meaning_of old) n
  pub epoch : AgesBy 1 old.log.epoch log.epoch
  pub runs : log.is_stopped ≡ old.log.is_stopped
  pub serves : (s : State) → ServesState old s → Has s.tree.descriptors s
  pub leaves : (s : State) → ServesState old s → LeavesOnly (meaning_of old) n (OpensTo (meaning_of old) s)

abbrev pub Keeps : {S : Type 0} {G : Ghosts S} → Failed → System S G → System S G → Type 0
Keeps why old new = KeepsServing why old (meaning_of new) new.log (HasState new)

module _ {S : Type 0} {G : Ghosts S} (old mid : System S G) where
  -- all was brought under the newest root
  pub covered_keeps : {u : Unit {0}} → MakesCovered old mid (Ok u) → Keeps no_call old mid
  covered_keeps made = record {
    counted = made.counted;
    unlogged = made.unlogged;
    epoch = made.epoch;
    runs = made.runs;
    serves = λ s served. (made.covered s served).serves;
    leaves = made.leaves;
  }

  -- the point under way was ended
  pub finished_keeps : {u : Unit {0}} → Finishes old mid (Ok u) → Keeps no_call old mid
  finished_keeps {u} does = record {
    counted = all_written IsNotWritten (meaning_of old) (meaning_of mid) u does.writes;
    unlogged = does.unlogged;
    epoch = same_age old.log.epoch mid.log.epoch (ap (λ (k : Parts). k.log.epoch) does.parts);
    runs = ap (λ (k : Parts). k.log.is_stopped) does.parts;
    serves = λ s served. (does.goes_on s.tree.descriptors s served).stays;
    leaves = λ s served. (does.goes_on s.tree.descriptors s served).leaves;
  }

  -- and blocks were read then
  pub read_keeps : (n : Meaning) {Has : (ℕ → Option Description) → State → Type 0} (why : Failed) → Keeps no_call old mid → ReadsOn (meaning_of mid) n → Counted (meaning_of mid) n why
      → AllOpen mid → ((s : State) → ServesState mid s → Has s.tree.descriptors s) → KeepsServing why old n mid.log Has
  read_keeps n why kept reads counted opens serves =
      let m = meaning_of old in
      let k = meaning_of mid in
      record {
        counted = counted_after m k n why kept.counted counted;
        unlogged = logged_twice m k n kept.unlogged (nothing_logged k n reads.goes);
        epoch = kept.epoch;
        runs = kept.runs;
        serves = λ s served. serves s (kept.serves s served);
        leaves = λ s served.
            joined m k n (OpensTo m s) (kept.leaves s served)
            (weaker k n (OpensTo k s) (OpensTo m s) (leaves_unchanged k n (OpensTo k s) (opens s (kept.serves s served)) reads.goes) (λ c here. opens_same m k s c kept.counted.uses.same.sectors here));
      }

-- two points at most
ages_two : (a b : ℕ) → AgesBy 1 a b → AgesBy 2 a b
ages_two a b age = record { ages = age.ages; lasts = omega (arith, age.lasts) }

ages_twice : (a b c : ℕ) → AgesBy 1 a b → AgesBy 1 b c → AgesBy 2 a c
ages_twice a b c one two = record { ages = omega (arith, one.ages, two.ages); lasts = omega (arith, one.lasts, two.lasts) }

-- no number is left for a point
late : (a b : ℕ) → AgesBy 1 a b → 2 ^ 62 ≤ b → 2 ^ 62 < a + 2
late a b age high = omega (arith, age.lasts, high)

none_left : (a b : ℕ) → AgesBy 1 a b → IsNoGeneration b → 1 ≤ a → 2 ^ 62 < a + 2
none_left a b age none first = elim (cases_lt b (2 ^ 62)) [
  | inl low ↦ absurd (none (omega (arith, age.ages, first), low))
  | inr high ↦ late a b age high
]

error_is : (x y : PointError) (r q : Result Bool PointError) → r ≡ Err x → q ≡ Err y → r ≡ q → x ≡ y
error_is x y r q first second is = cc

-- an error is passed on
told : (x y : PointError) → IsErrOf {T = Bool} (Err x) y → IsErrOf {T = Unit {0}} (Err x) y
told x y is = ap (λ e. Err e) (error_is x y (Err x) (Err y) refl refl is)

-- a cut leaves a state until a command begins, and then that or another
either_behind : (m mid new : Meaning) (s t : State) → mid.sectors ≡ m.sectors → LeavesOnly m mid (OpensTo m s) → LeavesEither mid new s t → LeavesEither m new s t
either_behind m mid new s t same before leaves =
    joined m mid new (λ c. OpensTo m s c ⊎ OpensTo m t c) (weaker m mid (OpensTo m s) (λ c. OpensTo m s c ⊎ OpensTo m t c) before (λ c here. inl here))
    (weaker mid new (λ c. OpensTo mid s c ⊎ OpensTo mid t c) (λ c. OpensTo m s c ⊎ OpensTo m t c) leaves (λ c here. elim here [
      | inl one ↦ inl (opens_same m mid s c same one)
      | inr other ↦ inr (opens_same m mid t c same other)
    ]))

-- What a command does to a state, and what its own point comes to from a system that serves that.
pub record Does {S : Type 0} {G : Ghosts S} (n : Meaning) (new : System S G) (r : Result (Unit {0}) PointError) (s : State) (c : Command) : Type 0 where
  pub after : State
  pub need : Room → Need
  pub step : WouldDo s c Done after need
  pub unlogged : (room : Room) (work : Work) → need room ≢ logs work
  pub covered : OnOk r (IsCovered new after.tree.descriptors after)
  pub moments : LeavesEither n (meaning_of new) s after
  pub roomy : IsErrOf r (point.NotPlanned plan.NoSpace) → ⊥
  pub damaged : IsErrOf r (point.NotPlanned plan.Damaged) → ⊥

-- by what is promised of that
pub does_by : {S : Type 0} {G : Ghosts S} {n : Meaning} {log : LogEnd} {Has : (ℕ → Option Description) → State → Type 0} {Leads : (table : ℕ → Option Description) (t : State) → Has table t → State → Type 0}
    {IsRoomy : Type 0} {new : System S G} (r : Result (Unit {0}) PointError) (s : State) (c : Command) → MakesPointFrom n log Has Leads IsRoomy new r → (serves : Has s.tree.descriptors s) (after : State)
    → after.tree.descriptors ≡ s.tree.descriptors → (need : Room → Need) → WouldDo s c Done after need → ((room : Room) (work : Work) → need room ≢ logs work)
    → Leads s.tree.descriptors s serves after → IsRoomy → Does n new r s c
does_by {new = new} r s c made serves after same need step unlogged leads roomy = record {
  after = after;
  need = need;
  step = step;
  unlogged = unlogged;
  covered = subst (λ (table : ℕ → Option Description). OnOk r (IsCovered new table after)) (sym same) (made.covered s.tree.descriptors s serves after leads roomy);
  moments = made.any_moment s.tree.descriptors s serves after leads roomy;
  roomy = made.roomy s.tree.descriptors s serves after leads roomy;
  damaged = made.damaged s.tree.descriptors s serves after leads;
}

module _ {S : Type 0} {G : Ghosts S} (old new : System S G) (P : State → Type 0) (c : Command) where
  -- ---- there was no point of its own

  -- all couldn't be brought under the newest root
  pub not_covered : (e : PointError) → MakesCovered old new (Err e) → ((s : State) → ServesState old s → P s → (after : State) × (need : (Room → Need)) × WouldDo s c Done after need)
      → Checkpoints old new P c (Err e)
  not_covered e made would = record {
    counted = made.counted;
    unlogged = made.unlogged;
    epoch = ages_two old.log.epoch new.log.epoch made.epoch;
    runs = made.runs;
    done = λ s served p. tt;
    stays = λ s served refused. (made.refused s served refused, made.leaves s served);
    broken = λ s served p is.
        let one = would s served p in
        record {
          reply = Done;
          after = one.0;
          need = one.1;
          step = one.2;
          leaves = weaker (meaning_of old) (meaning_of new) (OpensTo (meaning_of old) s) (λ c. OpensTo (meaning_of old) s c ⊎ OpensTo (meaning_of old) one.0 c) (made.leaves s served) (λ c here. inl here);
        };
    roomy = λ s served p is. made.roomy s served (told e _ is);
    damaged = λ s served p is. made.damaged s served (told e _ is);
    last = λ s served p is. late old.log.epoch old.log.epoch (same_age old.log.epoch old.log.epoch refl) (made.last s served (told e _ is));
    past = λ is. none_left old.log.epoch old.log.epoch (same_age old.log.epoch old.log.epoch refl) (made.past (told e _ is));
  }

  -- the command wasn't begun
  not_begun : (e : PointError) → e ≢ point.NotWritten → e ≢ point.NotPlanned plan.NoSpace → Keeps (point_error_failed e) old new
      → ((s : State) → ServesState old s → P s → e ≡ point.NotPlanned plan.Damaged → ⊥) → ((s : State) → ServesState old s → P s → e ≡ point.NoGeneration → 2 ^ 62 < old.log.epoch + 2)
      → (e ≡ point.NoGeneration → 1 ≤ old.log.epoch → 2 ^ 62 < old.log.epoch + 2) → Checkpoints old new P c (Err e)
  not_begun e wrote full kept damaged last past = record {
    counted = kept.counted;
    unlogged = kept.unlogged;
    epoch = ages_two old.log.epoch new.log.epoch kept.epoch;
    runs = kept.runs;
    done = λ s served p. tt;
    stays = λ s served _. (kept.serves s served, kept.leaves s served);
    broken = λ s served p is. absurd (wrote (error_is e _ (Err e) (Err point.NotWritten) refl refl is));
    roomy = λ s served p is. full (error_is e _ (Err e) (Err (point.NotPlanned plan.NoSpace)) refl refl is);
    damaged = λ s served p is. damaged s served p (error_is e _ (Err e) (Err (point.NotPlanned plan.Damaged)) refl refl is);
    last = λ s served p is. last s served p (error_is e _ (Err e) (Err point.NoGeneration) refl refl is);
    past = λ is. past (error_is e _ (Err e) (Err point.NoGeneration) refl refl is);
  }

  -- because a read was refused
  pub unread : (mid : System S G) → Keeps no_call old mid → AllOpen mid → ReadsOn (meaning_of mid) (meaning_of new) → new.log ≡ mid.log → ((s : State) → ServesState mid s → ServesState new s)
      → (error : BlockError) (e : PlanError) → e ≡ plan_error error → (error ≡ read_errors.Device → HasGrown (meaning_of mid).failed_reads (meaning_of new).failed_reads)
      → ((s : State) → ServesState old s → P s → error ≡ read_errors.Damaged → ⊥) → Checkpoints old new P c (Err (point.NotPlanned e))
  unread mid kept opens reads log serves error e is fault damaged = subst (λ (x : PlanError). Checkpoints old new P c (Err (point.NotPlanned x))) (sym is) (by_case error fault damaged)
    where
      read : (why : Failed) → Counted (meaning_of mid) (meaning_of new) why → Keeps why old new
      read why counted = subst (λ (l : LogEnd). KeepsServing why old (meaning_of new) l (HasState new)) (sym log) (read_keeps old mid (meaning_of new) why kept reads counted opens serves)

      by_case : (error : BlockError) → (error ≡ read_errors.Device → HasGrown (meaning_of mid).failed_reads (meaning_of new).failed_reads) → ((s : State) → ServesState old s → P s → error ≡ read_errors.Damaged → ⊥)
          → Checkpoints old new P c (Err (point.NotPlanned (plan_error error)))
      by_case read_errors.NoMemory fault damaged =
          not_begun (point.NotPlanned plan.NoMemory) (λ is. cc) (λ is. cc) (read perhaps_reads (perhaps_read (meaning_of mid) (meaning_of new) reads)) (λ s served p is. cc) (λ s served p is. cc) (λ is. cc)
      by_case read_errors.Device fault damaged =
          not_begun (point.NotPlanned plan.Device) (λ is. cc) (λ is. cc) (read a_read (not_read (meaning_of mid) (meaning_of new) reads (fault refl))) (λ s served p is. cc) (λ s served p is. cc) (λ is. cc)
      by_case read_errors.Damaged fault damaged =
          not_begun (point.NotPlanned plan.Damaged) (λ is. cc) (λ is. cc) (read perhaps_reads (perhaps_read (meaning_of mid) (meaning_of new) reads)) (λ s served p is. damaged s served p refl) (λ s served p is. cc) (λ is. cc)

  -- because there is no order number for a snapshot
  pub no_order : (e : PointError) → Keeps no_call old new → LacksOrder new e → ((s : State) → ServesState old s → P s → 2 ^ 62 ≤ new.log.epoch) → Checkpoints old new P c (Err e)
  no_order e kept lacks high = elim lacks [
    | inl (is, none) ↦
        subst (λ (x : PointError). Checkpoints old new P c (Err x)) (sym is)
        (not_begun point.NoGeneration (λ is. cc) (λ is. cc) beside_reads (λ s served p is. cc) (λ s served p is. late old.log.epoch new.log.epoch kept.epoch (high s served p))
        (λ is. none_left old.log.epoch new.log.epoch kept.epoch none))
    | inr (is, low) ↦
        subst (λ (x : PointError). Checkpoints old new P c (Err x)) (sym is)
        (not_begun (point.NotPlanned plan.Damaged) (λ is. cc) (λ is. cc) beside_reads (λ s served p is. let ge = high s served p in absurd (omega (arith, ge, low))) (λ s served p is. cc) (λ is. cc))
  ]
    where
      beside_reads : Keeps perhaps_reads old new
      beside_reads = record {
        counted = told_beside_reads (meaning_of old) (meaning_of new) no_call kept.counted;
        unlogged = kept.unlogged;
        epoch = kept.epoch;
        runs = kept.runs;
        serves = kept.serves;
        leaves = kept.leaves;
      }

  -- because the disk has no room
  pub no_space : Keeps no_call old new → ((s : State) → ServesState old s → P s → IsCovered new s.tree.descriptors s
      × ((after : State) × (need : (Room → Need)) × WouldDo s c Done after need × ((room : Room) → IsRoomOf new room → IsShort room (need room)))) → Checkpoints old new P c (Ok false)
  no_space kept short = record {
    counted = kept.counted;
    unlogged = kept.unlogged;
    epoch = ages_two old.log.epoch new.log.epoch kept.epoch;
    runs = kept.runs;
    done = λ s served p.
        let it = short s served p in
        record { after = it.1.0; need = it.1.1; step = it.1.2; short = it.1.3; covered = it.0; leaves = kept.leaves s served };
    stays = λ s served. tt;
    broken = λ s served p is. cc;
    roomy = λ s served p is. cc;
    damaged = λ s served p is. cc;
    last = λ s served p is. cc;
    past = λ is. cc;
  }

  -- ---- and its own point

  -- made or not
  pub pointed : {n : Meaning} {log : LogEnd} {Has : (ℕ → Option Description) → State → Type 0} {Leads : (table : ℕ → Option Description) (t : State) → Has table t → State → Type 0} {IsRoomy : Type 0}
      → KeepsServing no_call old n log Has → (r : Result (Unit {0}) PointError) → MakesPointFrom n log Has Leads IsRoomy new r → ((s : State) → ServesState old s → P s → Does n new r s c)
      → Checkpoints old new P c (made_of r)
  pointed {n} {log} kept (Ok u) made does =
      let m = meaning_of old in
      let age = aged log new.log (Ok u) made.log in
      record {
        counted = counted_after m n (meaning_of new) no_call kept.counted made.counted;
        unlogged = logged_twice m n (meaning_of new) kept.unlogged made.unlogged;
        epoch = ages_twice old.log.epoch log.epoch new.log.epoch kept.epoch age.0;
        runs = age.1 ∙ kept.runs;
        done = λ s served p.
            let it = does s served p in
            record {
              after = it.after;
              need = it.need;
              step = it.step;
              unlogged = it.unlogged;
              covered = it.covered;
              leaves = either_behind m n (meaning_of new) s it.after kept.counted.uses.same.sectors (kept.leaves s served) it.moments;
            };
        stays = λ s served. tt;
        broken = λ s served p is. cc;
        roomy = λ s served p is. cc;
        damaged = λ s served p is. cc;
        last = λ s served p is. cc;
        past = λ is. cc;
      }
  pointed {n} {log} kept (Err e) made does =
      let m = meaning_of old in
      let age = aged log new.log (Err e) made.log in
      record {
        counted = counted_after m n (meaning_of new) (point_error_failed e) kept.counted made.counted;
        unlogged = logged_twice m n (meaning_of new) kept.unlogged made.unlogged;
        epoch = ages_twice old.log.epoch log.epoch new.log.epoch kept.epoch age.0;
        runs = age.1 ∙ kept.runs;
        done = λ s served p. tt;
        stays = λ s served refused. (
          made.refused s.tree.descriptors s (kept.serves s served) refused,
          goes_on_unchanged m n (meaning_of new) (OpensTo m s) (kept.leaves s served) (made.kept refused),
        );
        broken = λ s served p is.
            let it = does s served p in
            record {
              reply = Done;
              after = it.after;
              need = it.need;
              step = it.step;
              leaves = either_behind m n (meaning_of new) s it.after kept.counted.uses.same.sectors (kept.leaves s served) it.moments;
            };
        roomy = λ s served p is. (does s served p).roomy (told e _ is);
        damaged = λ s served p is. (does s served p).damaged (told e _ is);
        last = λ s served p is. late old.log.epoch log.epoch kept.epoch (made.last s.tree.descriptors s (kept.serves s served) (told e _ is));
        past = λ is. none_left old.log.epoch log.epoch kept.epoch (made.past (told e _ is));
      }
