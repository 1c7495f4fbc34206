-- What calls and consistency points of a system come to for a command.
use Rattle.std.proofs.Common.{◌≡◌, ◌≢◌, ◌⊎◌, ◌≤◌, ◌^◌, inl, inr, ℕ, Bool, true, false, refl, sym, ap, subst, ◌∙◌, arith}
use Rattle.std.specs.Prelude.{IsTrue, IsFalse, Option, None}
use Rattle.std.proofs.lemmas.Bool.{false≢true}
use Rattle.layout.specs.Limits.{Sizes}
use Rattle.layout.specs.StateLimits.{limits_of}
use Rattle.conspoint.specs.declared.error.PlanError.TheVariants as plan
use Rattle.station.specs.Images.{Unchanged}
use Rattle.station.specs.Moments.{Meaning, EachCut, HasGrown, MayGrow, IsSameStation, Goes, LeavesOnly}
use Rattle.station.specs.Calls.{Uses}
use Rattle.station.proofs.Moments.{leaves_unchanged, weaker, same_none, started}
use Rattle.station.specs.declared.station.Station.{Ghosts}
use Rattle.model.specs.declared.errno.Errno.{Errno}
use Rattle.model.specs.declared.errno.Errno.TheVariants.{ENOSPC, ENOMEM, EIO}
use Rattle.model.specs.declared.reply.Reply.{Reply}
use Rattle.model.specs.declared.reply.Reply.TheVariants.{Done, Refused}
use Rattle.model.specs.declared.command.Command.{Command}
use Rattle.model.specs.declared.command.Command.TheVariants.{Sync}
use Rattle.model.specs.States.{State, going, failed, as_failed}
use Rattle.model.specs.Trees.{Description}
use Rattle.model.specs.Circumstances.{Circumstances, IsSure, IsDone, IsExcused, IsShortFor, Allowed, clear}
use Rattle.model.specs.Room.{Room, nothing}
use Rattle.model.specs.Records as records
use Rattle.model.specs.Records.{pledged_for}
use Rattle.model.specs.Runs.{IsWithin}
use Rattle.model.specs.Steps.{WouldStep}
use Rattle.system.specs.Errors.{IsRefused}
use Rattle.system.specs.Counting.{Counted, beside_reads, call_error_failed, point_error_failed}
use Rattle.system.specs.Images.{OpensTo}
use Rattle.layout.specs.Places.{blocks_of}
use Rattle.images.specs.Roots.{whole}
use Rattle.system.specs.Serving.{ServesState, IsBrokenOff}
use Rattle.dispatch.proofs.StoredLaws.{holes_read, settled_tells, stored_tells}
use Rattle.dispatch.specs.Serving.{IsCall, WouldCall, stored_of}
use Rattle.system.specs.CheckpointCommands.{IsRoomOf, IsCheckpointed}
use Rattle.dispatch.specs.Fulfilling.{IsFulfilled}
use Rattle.images.specs.Room.{free_under}
use Rattle.system.specs.Systems as systems
use Rattle.system.specs.declared.error.CallError.{CallError}
use Rattle.system.specs.declared.error.CallError.TheVariants as call
use Rattle.system.specs.declared.system.System.{System}
use Rattle.system.specs.declared.error.PointError.{PointError}
use Rattle.system.specs.declared.error.PointError.TheVariants as point
use Rattle.system.proofs.CoveredLaws.{all_covered}
use Rattle.system.proofs.RoomLaws.{free_is}
use Rattle.system.proofs.SystemLaws.{sizes}
use Rattle.mount.specs.Applying.{IsAppliedAt, Stays, TellsOfFault, HasRoomAtPoint}
use Rattle.mount.specs.Refusals.{errno_of_call, errno_of_point, fails_call, fails_point}
use Rattle.mount.specs.Systems.{OpensToSome, mounted, HasPoints, Serves}
use Rattle.mount.specs.declared.fs.Fs.{Fs}
use Rattle.mount.proofs.ApplyLemmas.{is_going, not_both, allowed_by, allowed_surely, no_room, done, stayed, broken, applied_after}
use Rattle.mount.proofs.CallLemmas.{no_checkpoint}
use Rattle.mount.proofs.OrphanLemmas.{orphans_kept, orphans_of, orphans_told}
use Rattle.mount.proofs.StationLemmas.{told}

-- what came in the way
abbrev pub came : Bool → Bool → Bool → Room → Circumstances
came read write memory room =
    record { read_failed = read; write_failed = write; memory_refused = memory; room = room }

-- the room of a system at a state that it serves
abbrev pub room_at : {S : Type 0} {G : Ghosts S} (f : System S G) (s : State) → ServesState f s → Bool → Room
room_at f s serves covered = record {
  costs = (limits_of serves.settled.root.geometry).costs;
  blocks = f.root.geometry.blocks;
  free = free_under (whole (blocks_of serves.settled.disk) serves.settled.root).active serves.settled.root.geometry.blocks;
  pledged = pledged_for (limits_of serves.settled.root.geometry) serves.settled.volume serves.lasts.replayed.changes;
  is_covered = covered;
  orphans_of = orphans_of f s serves;
  stored = stored_of f;
}

pub has_room : {S : Type 0} {G : Ghosts S} (f : System S G) (s : State) (serves : ServesState f s) (covered : Bool)
    → (IsTrue covered → records.CoversAll serves.settled.volume serves.running serves.lasts.replayed.changes) → HasRoomAtPoint f s (room_at f s serves covered)
has_room f s serves covered all = record { serves = serves; blocks = refl; free = refl; told = record { costs = refl; pledged = refl; covered = all }; orphans = orphans_told f s serves; stored = stored_tells f; settled = settled_tells f; holes = holes_read f s serves }

-- a refusal isn't what is answered to what is done
not_done : {X : Type 0} (errno : Errno) → Refused errno ≡ Done → X
not_done errno is = cc

-- a call that was done, be it sure or not
pub allowed_call : (s : State) (c : Command) (read : Bool) (room : Room) (reply : Reply) (t : State) → s.mark ≡ going → IsCall c → IsSure s c ⊎ ¬ IsSure s c
    → IsDone (came read false false room) s c reply t → Allowed (came read false false room) s c reply t
allowed_call s c read room reply t is is_call (inl sure) done = allowed_surely s c (came read false false room) reply t is sure refl done
allowed_call s c read room reply t is is_call (inr not_sure) done =
    allowed_by s c (came read false false room) reply t is not_sure (inl (done, λ checkpointing. absurd (no_checkpoint c is_call checkpointing)))

-- a system that goes on shows a state that does
pub still_going : {S : Type 0} {G : Ghosts S} (f : Fs S G) (s : State) → Serves (mounted f s) → IsFalse f.has_failed → s.mark ≡ going
still_going f s serves runs = serves.mark ∙ is_going f.has_failed runs

-- the same refusal
pub answered_as : {S : Type 0} {G : Ghosts S} (old new : Fs S G) (s : State) (command : Command) (x y : Errno) → y ≡ x → IsAppliedAt old s new command (Refused x)
    → IsAppliedAt old s new command (Refused y)
answered_as old new s command x y is applied = subst (λ (z : Errno). IsAppliedAt old s new command (Refused z)) (sym is) applied

-- no failed read fails a system
pub reads_fail_nothing : (e : CallError) (flag : Bool) → e ≢ call.NotWritten → IsFalse flag → flag ≡ fails_call e
reads_fail_nothing call.NotWritten flag other runs = absurd (other refl)
reads_fail_nothing e flag other runs = runs

-- what is left of a command that was cut short
pub cut_within : {S : Type 0} {G : Ghosts S} (f g : System S G) (s : State) (c : Command) → IsBrokenOff f g s c
    → LeavesOnly (systems.meaning_of f) (systems.meaning_of g) (OpensToSome (systems.meaning_of f) (IsWithin s c))
cut_within f g s c is =
    let m = systems.meaning_of f in
    weaker m (systems.meaning_of g) (λ i. OpensTo m s i ⊎ OpensTo m is.after i) (OpensToSome m (IsWithin s c)) is.leaves (λ i one. elim one [
      | inl first ↦ (s, first, inl refl)
      | inr last ↦ (is.after, last, inr (clear no_room, is.reply, (is.need no_room, is.step no_room)))
    ])

-- behind calls that left the state as it was
pub after_stay : {S : Type 0} {G : Ghosts S} (old mid new : Fs S G) (s : State) (command : Command) (reply : Reply) → Serves (mounted old s) → IsFalse old.has_failed → Stays old mid s
    → Uses (systems.meaning_of mid.system) (systems.meaning_of new.system) → MayGrow (systems.meaning_of old.system).failed_reads (systems.meaning_of mid.system).failed_reads
    → (systems.meaning_of mid.system).failed_writes ≡ (systems.meaning_of old.system).failed_writes → IsAppliedAt mid s new command reply → IsAppliedAt old s new command reply
after_stay old mid new s command reply serves runs stays uses reads writes applied =
    (applied.0, applied_after old mid new s applied.0 command reply serves (still_going old s serves runs) stays uses.same reads uses.reads writes applied.1)

module _ {S : Type 0} {G : Ghosts S} (old new : Fs S G) (s : State) where
  abbrev before : Meaning
  before = systems.meaning_of old.system

  abbrev behind : Meaning
  behind = systems.meaning_of new.system

  -- a system that goes on serves what its parts serve
  pub going_serves : (t : State) → behind.is_honest → t.mark ≡ going → IsFalse new.has_failed → ServesState new.system t → Serves (mounted new t)
  going_serves t honest still runs serves =
      record { honest = honest; mark = still ∙ sym (is_going new.has_failed runs); kept = λ _. serves; cut_short = λ stopped. not_both t.mark still stopped }

  module _ (serves : Serves (mounted old s)) (runs : IsFalse old.has_failed) where
    abbrev is_still : s.mark ≡ going
    is_still = still_going old s serves runs

    module _ (same : IsSameStation before behind) where
      pub stays_by : IsFalse new.has_failed → ServesState new.system s → LeavesOnly before behind (OpensTo before s) → Stays old new s
      stays_by runs_on served leaves = record { same = same; serves = going_serves s (same.honest.0 serves.honest) is_still runs_on served; leaves = leaves }

      -- where nothing was written
      pub stays_read : IsFalse new.has_failed → ServesState new.system s → Goes Unchanged before behind → EachCut before (OpensTo before s) → Stays old new s
      stays_read runs_on served goes opens = stays_by runs_on served (leaves_unchanged before behind (OpensTo before s) opens goes)

      -- a call that was answered
      pub called : (c : Command) (reply : Reply) → IsCall c → IsSure s c ⊎ ¬ IsSure s c → IsFalse new.has_failed → MayGrow before.failed_reads behind.failed_reads → behind.failed_writes ≡ before.failed_writes
          → {here : ServesState old.system s} → IsFulfilled old.system new.system s here c reply → ((t : State) → ServesState new.system t → EachCut behind (OpensTo behind t)) → IsAppliedAt old s new c reply
      called c reply is_call sure runs_on reads writes is opens =
          let does = is.done in
          let t = does.after in
          let still : t.mark ≡ going = ap (λ (u : State). u.mark) does.serves.state in
          let room = room_at new.system t does.serves false in
          let count = told before.failed_reads behind.failed_reads reads in (
            t,
            done old new s t c is_still still same (going_serves t (same.honest.0 serves.honest) still runs_on does.serves) serves.honest reply (came count.0 false false room)
                (record { reads = count.1; writes = writes; room = λ _. has_room new.system t does.serves false (λ e. absurd (false≢true e)) })
                (allowed_call s c count.0 room reply t is_still is_call sure (does.need, does.step room (stored_tells new.system)))
                is.leaves (opens t does.serves),
          )

      -- a command that was refused for a cause
      pub refused : (command : Command) → ¬ IsSure s command → Stays old new s → (read memory : Bool) (errno : Errno) → TellsOfFault read before.failed_reads behind.failed_reads
          → behind.failed_writes ≡ before.failed_writes → ((room : Room) → IsExcused (came read false memory room) s command (Refused errno))
          → IsAppliedAt old s new command (Refused errno)
      refused command not_sure stays read memory errno reads writes excused =
          let served = stays.serves.kept is_still in
          let room = room_at new.system s served false in
          let c = came read false memory room in (
            s,
            stayed old new s command serves is_still stays (Refused errno) c
                (record { reads = reads; writes = writes; room = λ _. has_room new.system s served false (λ e. absurd (false≢true e)) })
                (allowed_by s command c (Refused errno) s is_still not_sure (inr (excused room, refl))),
          )

      -- one that was cut short by a failed write
      pub cut_short : (command : Command) → ¬ IsSure s command → IsTrue new.has_failed → MayGrow before.failed_reads behind.failed_reads → HasGrown before.failed_writes behind.failed_writes
          → LeavesOnly before behind (OpensToSome before (IsWithin s command)) → IsAppliedAt old s new command (Refused EIO)
      cut_short command not_sure stopped reads writes leaves =
          let flag = told before.failed_reads behind.failed_reads reads in
          let c = came flag.0 true false no_room in (
            as_failed s,
            broken old new s command serves is_still stopped same c
                (record { reads = flag.1; writes = writes; room = λ still. not_both failed still refl })
                (allowed_by s command c (Refused EIO) (as_failed s) is_still not_sure (refl, refl)) leaves,
          )

      -- a call that wasn't answered, and was written in part
      pub broken_off : (c : Command) → ¬ IsSure s c → IsTrue new.has_failed → MayGrow before.failed_reads behind.failed_reads → HasGrown before.failed_writes behind.failed_writes
          → IsBrokenOff old.system new.system s c → IsAppliedAt old s new c (Refused EIO)
      broken_off c not_sure stopped reads writes is = cut_short c not_sure stopped reads writes (cut_within old.system new.system s c is)

    -- a call that wasn't answered
    pub not_answered : (c : Command) (e : CallError) → ¬ IsSure s c → e ≢ call.NoRoom → e ≢ call.LogFull → new.has_failed ≡ fails_call e
        → Counted before behind (beside_reads (call_error_failed false e)) → (e ≡ call.Damaged → ⊥)
        → (e ≢ call.NotWritten → ServesState new.system s × LeavesOnly before behind (OpensTo before s)) → (e ≡ call.NotWritten → IsBrokenOff old.system new.system s c)
        → IsAppliedAt old s new c (Refused (errno_of_call e))
    not_answered c call.NoMemory not_sure room full flag counted damaged stays off =
        let kept = stays (λ e. cc) in
        let count = told before.failed_reads behind.failed_reads counted.uses.reads in
        refused counted.uses.same c not_sure (stays_by counted.uses.same flag kept.0 kept.1) count.0 true ENOMEM count.1 counted.writes (λ _. refl)
    not_answered c call.NotRead not_sure room full flag counted damaged stays off =
        let kept = stays (λ e. cc) in
        refused counted.uses.same c not_sure (stays_by counted.uses.same flag kept.0 kept.1) true false EIO counted.reads counted.writes (λ _. refl)
    not_answered c call.Damaged not_sure room full flag counted damaged stays off = absurd (damaged refl)
    not_answered c call.NoRoom not_sure room full flag counted damaged stays off = absurd (room refl)
    not_answered c call.LogFull not_sure room full flag counted damaged stays off = absurd (full refl)
    not_answered c call.NotWritten not_sure room full flag counted damaged stays off = broken_off counted.uses.same c not_sure flag counted.uses.reads counted.writes (off refl)

    -- a command that a covered system has no room for
    pub short : (command : Command) → ¬ IsSure s command → Stays old new s → systems.IsCovered new.system s.tree.descriptors s → MayGrow before.failed_reads behind.failed_reads → behind.failed_writes ≡ before.failed_writes
        → ((room : Room) → IsRoomOf new.system room → IsShortFor room s command)
        → IsAppliedAt old s new command (Refused ENOSPC)
    short command not_sure stays covered reads writes is_short =
        let room = room_at new.system s covered.serves true in
        let count = told before.failed_reads behind.failed_reads reads in
        let c = came count.0 false false room in (
          s,
          stayed old new s command serves is_still stays (Refused ENOSPC) c
              (record { reads = count.1; writes = writes; room = λ _. has_room new.system s covered.serves true (λ _. all_covered new.system s.tree.descriptors s covered) })
              (allowed_by s command c (Refused ENOSPC) s is_still not_sure
              (inr (
                is_short room (record {
                  covered = refl;
                  costs = ap (λ (g : Sizes). (limits_of g).costs) (sizes covered.serves);
                  free = sym (free_is new.system s.tree.descriptors s covered.serves);
                  blocks = refl;
                  pledged = sym covered.serves.lasts.pledges;
                  orphans = orphans_kept new.system s covered.serves;
                }),
                refl,
              ))),
        )

    -- a command whose consistency point wasn't made
    pub no_point : (command : Command) (e : PointError) → ¬ IsSure s command → HasPoints 1 old → Counted before behind (point_error_failed e)
        → (e ≡ point.NotPlanned plan.NoSpace → ⊥) → (e ≡ point.NoGeneration → 2 ^ 62 ≤ old.system.log.epoch)
        → (e ≡ point.NotPlanned plan.Damaged → ⊥) → new.has_failed ≡ fails_point e → (IsRefused e → IsFalse new.has_failed → Stays old new s)
        → (e ≡ point.NotWritten → LeavesOnly before behind (OpensToSome before (IsWithin s command))) → IsAppliedAt old s new command (Refused (errno_of_point e))
    no_point command (point.NotPlanned plan.NoMemory) not_sure next counted full aged damaged flag stays off =
        let count = told before.failed_reads behind.failed_reads counted.uses.reads in
        refused counted.uses.same command not_sure (stays tt flag) count.0 true ENOMEM count.1 counted.writes (λ _. refl)
    no_point command (point.NotPlanned plan.Device) not_sure next counted full aged damaged flag stays off =
        refused counted.uses.same command not_sure (stays tt flag) true false EIO counted.reads counted.writes (λ _. refl)
    no_point command (point.NotPlanned plan.NoSpace) not_sure next counted full aged damaged flag stays off = absurd (full refl)
    no_point command (point.NotPlanned plan.Damaged) not_sure next counted full aged damaged flag stays off = absurd (damaged refl)
    no_point command point.NotWritten not_sure next counted full aged damaged flag stays off =
        cut_short counted.uses.same command not_sure flag counted.uses.reads counted.writes (off refl)
    no_point command point.NoGeneration not_sure next counted full aged damaged flag stays off = absurd (omega (arith, aged refl, next))

    -- one that was refused by its own tests
    pub own_refusal : (command : Command) → ¬ IsSure s command → Stays old new s → (errno : Errno) → behind.failed_reads ≡ before.failed_reads → behind.failed_writes ≡ before.failed_writes
        → WouldCall s command (Refused errno) s nothing → IsAppliedAt old s new command (Refused errno)
    own_refusal command not_sure stays errno reads writes step =
        let served = stays.serves.kept is_still in
        let room = room_at new.system s served false in
        let c = clear room in (
          s,
          stayed old new s command serves is_still stays (Refused errno) c
              (record { reads = reads; writes = writes; room = λ _. has_room new.system s served false (λ e. absurd (false≢true e)) })
              (allowed_by s command c (Refused errno) s is_still not_sure (inl ((nothing, step room), λ checkpointing done. not_done errno done))),
        )

    -- one that was done behind its consistency point
    pub settled : (command : Command) → ¬ IsSure s command → IsSameStation before behind → IsFalse new.has_failed → behind.failed_reads ≡ before.failed_reads → behind.failed_writes ≡ before.failed_writes
        → IsCheckpointed old.system new.system s command → ((t : State) → ServesState new.system t → EachCut behind (OpensTo behind t)) → IsAppliedAt old s new command Done
    settled command not_sure same runs_on reads writes is opens =
        let t = is.after in
        let covered = is.covered in
        let still : t.mark ≡ going = ap (λ (u : State). u.mark) covered.serves.state in
        let c = clear (room_at new.system t covered.serves true) in (
          t,
          done old new s t command is_still still same (going_serves t (same.honest.0 serves.honest) still runs_on covered.serves) serves.honest Done c
              (record { reads = reads; writes = writes; room = λ _. has_room new.system t covered.serves true (λ _. all_covered new.system t.tree.descriptors t covered) })
              (allowed_by s command c Done t is_still not_sure (inl ((is.need c.room, is.step c.room), λ _ _. refl)))
              is.leaves (opens t covered.serves),
        )

    -- `sync` on a system whose root covers all that is
    pub synced : Stays old new s → MayGrow before.failed_reads behind.failed_reads → behind.failed_writes ≡ before.failed_writes → systems.IsCovered new.system s.tree.descriptors s → IsAppliedAt old s new Sync Done
    synced stays reads writes covered =
        let count = told before.failed_reads behind.failed_reads reads in
        let c = came count.0 false false (room_at new.system s covered.serves true) in (
          s,
          stayed old new s Sync serves is_still stays Done c
              (record { reads = count.1; writes = writes; room = λ _. has_room new.system s covered.serves true (λ _. all_covered new.system s.tree.descriptors s covered) })
              (allowed_by s Sync c Done s is_still (λ no. no) (inl ((nothing, (refl, refl, refl)), λ _ _. refl))),
        )

-- a sure command that tells of the room and leaves the state
pub told_room : {S : Type 0} {G : Ghosts S} (f : Fs S G) (s : State) → Serves (mounted f s) → IsFalse f.has_failed → (room : Room) → HasRoomAtPoint f.system s room
    → (command : Command) (reply : Reply) → IsSure s command → WouldStep room s command reply s nothing
    → EachCut (systems.meaning_of f.system) (OpensTo (systems.meaning_of f.system) s) → IsAppliedAt f s f command reply
told_room f s serves runs room has command reply sure step opens =
    let m = systems.meaning_of f.system in
    let is = still_going f s serves runs in
    let c = clear room in
    let stays = stays_by f f s serves runs (same_none m) runs (serves.kept is) (started m (OpensTo m s) opens) in (
      s,
      stayed f f s command serves is stays reply c (record { reads = refl; writes = refl; room = λ _. has })
          (allowed_surely s command c reply s is sure refl (nothing, step)),
    )

-- an image that was opened
pub opened_serves : {S : Type 0} {G : Ghosts S} (f : Fs S G) (s : State) → IsFalse f.has_failed → systems.HasState f.system (λ d. None) s → Serves (mounted f s)
opened_serves f s runs serves =
    let still : s.mark ≡ going = ap (λ (u : State). u.mark) serves.state in
    let table : s.tree.descriptors ≡ (λ d. None) = ap (λ (u : State). u.tree.descriptors) serves.state in
    going_serves f f s s serves.honest still runs (subst (λ (t : ℕ → Option Description). systems.HasState f.system t s) (sym table) serves)
