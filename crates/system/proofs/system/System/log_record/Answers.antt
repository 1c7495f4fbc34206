use Rattle.std.proofs.Common.{Ok, Err, Option, ◌≡◌, ◌∙◌, ◌≤◌, ℕ, ◌+◌, ◌*◌, ◌^◌, true, length, ap, arith, sym, subst, ◌⊎◌, ◌≢◌, inl, inr, refl}
use Rattle.std.specs.Prelude.{IsFalse, IsErrOf}
use Rattle.layout.specs.StateLimits.{limits_of}
use Rattle.station.specs.Moments.{LeavesOnly}
use Rattle.layout.specs.Record.{change_of}
use Rattle.model.specs.Records.{applied}
use Rattle.model.specs.States.{State}
use Rattle.model.specs.Trees.{Description}
use Rattle.model.specs.Volumes.{swept}
use Rattle.replay.specs.Costs.{IsSizeBefore}
use Rattle.replay.specs.declared.costs.TheConstants.{MOST_COST}
use Rattle.system.specs.Images.{OpensTo}
use Rattle.system.specs.Logging.{Advances}
use Rattle.system.specs.Systems.{HasState, state_with}
use Rattle.oplog.specs.LogEnd.{HasRoomInHalf, LogEnd, logged_body, next_of}
use Rattle.oplog.specs.declared.log.AppendError.{AppendError}
use Rattle.oplog.specs.declared.log.AppendError.TheVariants.{Device, LogFull, NoMemory}
use Rattle.overlay.specs.Overlays.{FitsOver, HoldsSoFar}
use Rattle.system.proofs.LoggedLaws as laws
use Rattle.system.proofs.LoggedLaws.{same_overlay}
use Rattle.system.proofs.RoomLaws.{few_free, files_of, files_sized, free_is, had_room}
use Rattle.system.proofs.system.System.log_record.Given.{Over}
use Rattle.system.proofs.system.System.log_record.Goals.{After-append}
use Rattle.system.proofs.system.System.log_record.Goals as goal

no_error : {T E : Type 0} {e : E} (x : T) → Ok x ≡ Err e → ⊥
no_error x is = cc

pub overflow_add-self : goal.overflow_add-self
overflow_add-self g c =
    let f = c.args.self.now in
    let room : HasRoomInHalf f.log (length (logged_body (change_of c.args.change.now))) = had_room f.log _ (λ why. no_error c.in-Ok.field-0 (c.in-Ok.ensures.full.1 why)) (λ is. no_error c.in-Ok.field-0 (c.in-Ok.ensures.stopped is).0) in
    let size = files_of c.args.size in
    let sized = files_sized (change_of c.args.change.now) c.args.size in
    omega (
      arith,
      f.few,
      c.cost_of-cost.ensures.few,
      room,
      f.half,
      f.is_root.head.sizes.most_half,
      c.requires.room size sized,
      c.cost_of-cost.ensures.cost size sized,
      f.counted,
      few_free f.map.parts.items f.map.count,
      f.count,
      f.is_root.head.sizes.most_blocks,
    )

pub overflow_add-self-in-Ok : goal.overflow_add-self-in-Ok
overflow_add-self-in-Ok g c =
    let f = c.args.self.now in
    let room : HasRoomInHalf f.log (length (logged_body (change_of c.args.change.now))) = had_room f.log _ (λ why. no_error c.in-Ok.field-0 (c.in-Ok.ensures.full.1 why)) (λ is. no_error c.in-Ok.field-0 (c.in-Ok.ensures.stopped is).0) in
    omega (arith, f.few, c.cost_of-cost.ensures.few, room, f.half, f.is_root.head.sizes.most_half)

pub invariant_of-self : goal.invariant_of-self
invariant_of-self g c =
    let blocks = c.args.self.now.blocks in
    let same = c.append.ensures.writes.same in (
      subst (λ (n : ℕ). FitsOver n blocks.pending) (sym same.sectors) blocks.fits,
      (
        λ honest.
            let before = same.honest.1 honest in
            subst (HoldsSoFar blocks.pending) (sym (c.append.ensures.disk (g.S.Station.meaning blocks.buffers.station).seen.disk (before, refl)).1) (blocks.written before),
        tt,
      ),
    )

-- an error that isn't the device's
not_device : (e : AppendError) → e ≢ Device → IsErrOf {T = Unit {0}} (Err e) LogFull ⊎ IsErrOf {T = Unit {0}} (Err e) NoMemory
not_device NoMemory other = inr refl
not_device Device other = absurd (other refl)
not_device LogFull other = inl refl

pub returns-in-Err-clause-refused : goal.returns-in-Err-clause-refused
returns-in-Err-clause-refused g c = λ other.
    let same = c.in-Err.ensures.refused (not_device c.in-Err.error other) in
    (same_overlay {G = g.S.Station} _ c.args.self.now.blocks (λ i. record c.args.self.now.blocks.buffers { station = same.0 i }) refl, same.1)

-- what is reserved with the record
reserves : (g : Over) (c : After-append g) (table : ℕ → Option Description) (s : State) (serves : HasState {G = g.S.Station} c.args.self.now table s)
    → IsSizeBefore serves.running (change_of c.args.change.now) c.args.size
    → (advances : Advances (limits_of c.args.self.now.root.geometry) serves.running table (change_of c.args.change.now))
    → laws.Reserved c.cuts_open.ensures c.records_lead_on.ensures serves (change_of c.args.change.now) advances
reserves g c table s serves sized advances =
    let f = c.args.self.now in
    laws.reserves c.cuts_open.ensures c.records_lead_on.ensures serves (change_of c.args.change.now) advances f.free c.cost_of-cost.result (c.cost_of-cost.ensures.cost serves.running sized)
    (c.requires.room serves.running sized) (free_is {G = g.S.Station} f table s serves)

-- while it is appended a cut leaves the state before it or the one that it leads to
at_any_moment : (g : Over) (c : After-append g) (table : ℕ → Option Description) (s : State) (serves : HasState {G = g.S.Station} c.args.self.now table s)
    → IsSizeBefore serves.running (change_of c.args.change.now) c.args.size
    → (advances : Advances (limits_of c.args.self.now.root.geometry) serves.running table (change_of c.args.change.now))
    → let f = c.args.self.now in
    let m = g.S.Station.meaning f.blocks.buffers.station in
    let after = swept table (applied (change_of c.args.change.now) serves.running) in
    LeavesOnly m (g.S.Station.meaning c.append.new.station) (λ i. OpensTo m s i ⊎ OpensTo m (state_with (limits_of f.root.geometry) f.session after table serves.snapshots) i)
at_any_moment g c table s serves sized advances =
    let f = c.args.self.now in
    let change = change_of c.args.change.now in
    laws.at_any_moment c.cuts_open.ensures c.records_lead_on.ensures serves change advances c.cost_of-cost.result (c.cost_of-cost.ensures.cost serves.running sized)
    (reserves g c table s serves sized advances) f.sectors f.half (g.S.Station.meaning c.append.new.station)
    (c.append.ensures.any_moment serves.settled.root.generation serves.lasts.bodies (laws.log_stands c.cuts_open.ensures c.records_lead_on.ensures serves change advances))

pub returns-in-Err-clause-told : goal.returns-in-Err-clause-told
returns-in-Err-clause-told g c = λ table s serves sized advances. record {
  any_moment = at_any_moment g (goal.at.returns-in-Err-clause-told g c).After-append table s serves sized advances;
  logged = tt;
}

pub returns-in-Ok-clause-told : goal.returns-in-Ok-clause-told
returns-in-Ok-clause-told g c = λ table s serves sized advances.
    let f = c.args.self.now in
    let change = change_of c.args.change.now in
    let appended = goal.at.returns-in-Ok-clause-told g c in
    record {
      any_moment = at_any_moment g appended.After-append table s serves sized advances;
      logged = laws.logged c.cuts_open.ensures c.records_lead_on.ensures serves change advances c.cost_of-cost.result (c.cost_of-cost.ensures.cost serves.running sized)
          (reserves g appended.After-append table s serves sized advances)
          (g.S.Station.meaning c.append.new.station) c.append.new.self (ap (λ (l : LogEnd). l.epoch) c.in-Ok.ensures.end) c.append.ensures.disk c.append.ensures.writes.same
          (c.in-Ok.ensures.appended serves.settled.root.generation serves.lasts.bodies
          (laws.log_stands c.cuts_open.ensures c.records_lead_on.ensures serves change advances))
          (subst (λ (l : LogEnd). IsFalse l.is_stopped) (sym c.in-Ok.ensures.end) serves.goes);
    }

pub returns-in-Ok-clause-pledges : goal.returns-in-Ok-clause-pledges
returns-in-Ok-clause-pledges g c = λ v sized.
    let f = c.args.self.now in
    let costs = c.cost_of-cost.ensures.cost v sized in
    (ap (λ (n : ℕ). f.pledged + n) costs, ap (λ (n : ℕ). f.pledged_then + n) costs)

-- after an error the log is the old one, but that it may have stopped
error_keeps : {P : Type 0} (e : AppendError) (old new : LogEnd) → (IsErrOf {T = Unit {0}} (Err e) LogFull ⊎ IsErrOf {T = Unit {0}} (Err e) NoMemory → P × (new ≡ old))
    → (IsErrOf {T = Unit {0}} (Err e) Device → new ≡ record old { is_stopped = true }) → (new.half ≡ old.half) × (next_of new.end ≡ next_of old.end)
error_keeps NoMemory old new refused device = let same = (refused (inr refl)).1 in (ap (λ (l : LogEnd). l.half) same, ap (λ (l : LogEnd). next_of l.end) same)
error_keeps LogFull old new refused device = let same = (refused (inl refl)).1 in (ap (λ (l : LogEnd). l.half) same, ap (λ (l : LogEnd). next_of l.end) same)
error_keeps Device old new refused device = let same = device refl in (ap (λ (l : LogEnd). l.half) same, ap (λ (l : LogEnd). next_of l.end) same)

pub invariant_of-self-in-Err-1 : goal.invariant_of-self-in-Err-1
invariant_of-self-in-Err-1 g c =
    let f = c.args.self.now in
    let same = c.append.ensures.writes.same in
    let log = error_keeps c.in-Err.error f.log c.append.new.self c.in-Err.ensures.refused c.in-Err.ensures.device in
    record {
      sectors = same.sectors ∙ f.sectors;
      nvram = same.nvram_bytes ∙ f.nvram ∙ ap (λ (h : ℕ). 2 * h) (sym log.0);
      half = log.0 ∙ f.half;
      sizes = f.sizes;
      count = f.count;
      counted = f.counted;
      few = subst (λ (n : ℕ). f.pledged_then ≤ 2 ^ 32 + MOST_COST * n) (sym log.1) f.few;
      numbers = f.numbers;
      is_root = f.is_root;
    }
