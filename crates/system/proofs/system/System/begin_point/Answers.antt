use Rattle.std.proofs.Common.{◌≡◌, inl, inr, ℕ, ◌+◌, ◌-◌, ◌*◌, ◌<◌, Option, Err, refl, ap, sym, subst, ◌∙◌, arith}
use Rattle.std.specs.Prelude.{IfSome}
use Rattle.std.proofs.lemmas.Bool.{cases_lt, false≢true}
use Rattle.station.specs.Images.{Images, Sector}
use Rattle.station.specs.Moments.{HasGrown}
use Rattle.layout.specs.Limits.{Sizes}
use Rattle.layout.specs.Places.{blocks_of}
use Rattle.model.specs.Records.{count_orphans}
use Rattle.layout.specs.StateLimits.{fixed_of, limits_of}
use Rattle.model.specs.States.{State}
use Rattle.model.specs.Trees.{Description}
use Rattle.model.specs.Volumes.{IsMounted, Volume}
use Rattle.buffers.specs.Disks.{ReadsOn}
use Rattle.buffers.specs.Readings.{reads_none}
use Rattle.buffers.specs.declared.cache.Buffers.{Buffers}
use Rattle.blockmap.specs.Maps.{free_below, settled_at}
use Rattle.blockmap.specs.Space.{left}
use Rattle.blockmap.specs.declared.map.BlockMap.{BlockMap}
use Rattle.images.specs.Cuts.{IsPointWith, LeavesFree}
use Rattle.images.specs.Roots.{whole}
use Rattle.images.specs.SnapshotSteps.{SnapshotStep, CanStep, kept_after}
use Rattle.inofile.specs.Room.{memory_room}
use Rattle.inofile.specs.declared.inode_file.InodeFile.{InodeFile}
use Rattle.inofile.proofs.RoomLaws.{clean_room}
use Rattle.oplog.specs.LogEnd.{LogEnd}
use Rattle.oplog.specs.declared.log.End.TheVariants.{Unopened}
use Rattle.conspoint.specs.Finished.{disk_after}
use Rattle.conspoint.specs.Plans.{FitsDisk, IsPlanned, Planned}
use Rattle.conspoint.specs.Writes.{writes_of}
use Rattle.conspoint.specs.declared.error.PlanError.TheVariants.{Damaged, Device, NoSpace}
use Rattle.overlay.specs.Overlays.{ReadsOver, ShowsOver, planned_disk}
use Rattle.overlay.specs.declared.pending.PendingPoint.{PendingPoint}
use Rattle.planning.specs.Plans.{IsPlannable, PlansEntries}
use Rattle.planning.specs.Promises.{IsPointOver}
use Rattle.planning.specs.declared.points.Point.{Point}
use Rattle.records.specs.Opened.{HasNumbers}
use Rattle.system.specs.Images.{IsUnder}
use Rattle.system.specs.Memory.{HasEntriesToCome, IsInMemory}
use Rattle.system.specs.Points.{HasRoomToPlan, IsStepFor, MayCheckpoint}
use Rattle.system.specs.Systems.{HasStateBy}
use Rattle.system.proofs.CountingLaws.{all_read, not_planned, perhaps_read}
use Rattle.system.proofs.SystemLaws as served
use Rattle.system.proofs.PointLaws as points
use Rattle.system.proofs.PointLaws.{IsPlannedFrom, leaves_room, needs_fit, of_err, of_ok, on_ok}
use Rattle.system.proofs.SettledLaws as settled
use Rattle.system.proofs.RoomLaws.{all_left, still_counted}
use Rattle.system.proofs.system.System.begin_point.Given.{Over}
use Rattle.system.proofs.system.System.begin_point.Goals as goal
use Rattle.system.proofs.system.System.begin_point.Goals.{After-plan-map, In-Ok}

-- ---- what planning does

reads : (g : Over) (c : After-plan-map g)
    → ReadsOver (g.S.Station.meaning c.args.self.now.blocks.buffers.station) (g.S.Station.meaning c.plan-map.new.blocks.buffers.station) c.args.self.now.blocks.pending c.plan-map.new.blocks.pending
reads g c = c.plan-map.ensures.reads.reads c.args.self.now.blocks (record { below = reads_none (g.S.Station.meaning c.args.self.now.blocks.buffers.station); pending = refl })

-- the map that is given out of has the settled entries of the system's, and so has what comes back
given : (g : Over) (c : After-plan-map g) (b : ℕ) → settled_at c.give_up.new.self.parts.items b ≡ settled_at c.args.self.now.map.parts.items b
given g c b = c.give_up.ensures.settled b ∙ ap (λ (x : BlockMap). settled_at x.parts.items b) c.replace-map.ensures.value

given_count : (g : Over) (c : After-plan-map g) → c.give_up.new.self.count ≡ c.args.self.now.map.count
given_count g c = c.give_up.ensures.count ∙ ap (λ (x : BlockMap). x.count) c.replace-map.ensures.value

counted : (g : Over) (c : After-plan-map g) → c.args.self.now.free ≡ free_below c.plan-map.result.0.parts.items c.plan-map.result.0.count
counted g c = still_counted {G = g.S.Station} c.args.self.now c.plan-map.result.0 (c.plan-map.ensures.map.count ∙ given_count g c) (λ b. c.plan-map.ensures.map.settled b ∙ given g c b)

plannable : (g : Over) (c : After-plan-map g) (known : InodeFile) (table : ℕ → Option Description) (s : State) → (serves : HasStateBy {G = g.S.Station} known c.args.self.now table s) (base v : Volume)
    → MayCheckpoint {G = g.S.Station} c.args.change.now c.args.self.now c.args.self.now.inodes table base v
    → IsPlannable c.args.change.now c.args.self.now.root (g.S.Station.meaning c.args.self.now.blocks.buffers.station).seen.disk c.other_slot-slot.result c.in-Some.generation c.give_up.new.self c.args.self.now.inodes base v
plannable g c known table s serves base v may =
    points.plannable serves c.requires.rests (g.met.S.Station.seen_may_be_left c.args.self.now.blocks.buffers.station serves.honest) c.other_slot-slot.result c.in-Some.generation c.give_up.new.self
    c.other_slot-slot.ensures (c.in-Some.ensures.value ∙ c.get.ensures ∙ c.epoch.ensures) (given g c) c.args.change.now c.args.self.now.files c.args.self.now.inodes base v may

-- the point that was planned
made : (g : Over) (c : In-Ok g) → IsPointOver c.args.self.now.root c.other_slot-slot.result c.in-Some.generation c.in-Ok.point
made g c = of_ok c.plan-map.result.1 c.in-Ok.point (IsPointOver c.args.self.now.root c.other_slot-slot.result c.in-Some.generation) c.in-Ok.is c.plan-map.ensures.point

fits : (g : Over) (c : In-Ok g) → FitsDisk (8 * c.args.self.now.root.geometry.blocks) c.in-Ok.point.plan
fits g c = (made g c).fits (8 * c.args.self.now.root.geometry.blocks) (omega (arith, c.args.self.now.is_root.head.sizes)) (omega arith)

planned : (g : Over) (c : In-Ok g) (known : InodeFile) (table : ℕ → Option Description) (s : State) → (serves : HasStateBy {G = g.S.Station} known c.args.self.now table s) → (step : SnapshotStep) (base v : Volume)
    → IsStepFor {G = g.S.Station} c.args.change.now c.args.self.now step
    → IsPlannable c.args.change.now c.args.self.now.root (g.S.Station.meaning c.args.self.now.blocks.buffers.station).seen.disk c.other_slot-slot.result c.in-Some.generation c.give_up.new.self c.args.self.now.inodes base v
    → HasRoomToPlan {G = g.S.Station} c.args.change.now c.args.self.now (memory_room base c.args.self.now.inodes v)
    → IsPlannedFrom {G = g.S.Station} c.args.self.now base v step c.in-Ok.point.plan c.in-Ok.point.root
planned g c known table s serves step base v asked ready room =
    let f = c.args.self.now in
    let m = g.S.Station.meaning f.blocks.buffers.station in
    let q = c.in-Ok.point in
    let r = c.plan-map.result.1 in
    let epoch : c.in-Some.generation ≡ f.log.epoch = c.in-Some.ensures.value ∙ c.get.ensures ∙ c.epoch.ensures in
    let point = made g c in
    let slot = point.slot_is in
    let can = subst (λ (e : ℕ → Sector). CanStep step f.root (whole (blocks_of e) f.root)) (ap (λ (l : Option PendingPoint). planned_disk l m.seen.disk) c.requires.rests) asked.can in
    let rest = served.at_rest serves c.requires.rests in
    let over = c.plan-map.ensures.over m.seen.disk base v rest.shows ready in
    let sized : fixed_of c.give_up.new.self.count ≡ fixed_of f.root.geometry.blocks = ap fixed_of (c.give_up.ensures.count ∙ ap (λ (x : BlockMap). x.count) c.replace-map.ensures.value ∙ f.count) in
    let leaves = leaves_room {G = g.S.Station} known f table s serves c.requires.rests c.args.change.now step base v asked.is room (writes_of q.plan.blocks) q.root
    (λ none spent least. of_ok r q (λ (p : Point). LeavesFree spent f.root (blocks_of m.seen.disk) (writes_of p.plan.blocks) p.root) c.in-Ok.is
    (over.room c.give_up.ensures.next step asked.is none can spent least))
    (λ spent least. of_ok r q (λ (p : Point). LeavesFree spent f.root (blocks_of m.seen.disk) (writes_of p.plan.blocks) p.root) c.in-Ok.is
    (over.leaves c.give_up.ensures.next step asked.is can spent (omega (arith, least, sized)))) in (
      record {
        bytes = point.bytes;
        other = slot ∙ c.other_slot-slot.ensures;
        covers = point.generation_is ∙ epoch;
        fits = fits g c;
        point = subst (λ (n : ℕ). IsPointWith step f.root m.seen.disk (writes_of q.plan.blocks) n q.root v) (sym slot)
            (of_ok r q (λ (x : Point). IsPointWith step f.root m.seen.disk (writes_of x.plan.blocks) c.other_slot-slot.result x.root v) c.in-Ok.is
            (over.point step asked.is can));
        room = leaves.0;
      },
      leaves.1,
    )

pub plan-map-requires-clause-sizes : goal.plan-map-requires-clause-sizes
plan-map-requires-clause-sizes g c =
    let f = c.args.self.now in
    record { root_is = f.is_root; size = c.give_up.ensures.count ∙ ap (λ (x : BlockMap). x.count) c.replace-map.ensures.value ∙ f.count; disk = omega (arith, f.sectors); sizes = f.sizes }

-- ---- no generation is left

pub returns-in_default : goal.returns-in_default
returns-in_default g c =
    let f = c.args.self.now in
    let m = g.S.Station.meaning f.blocks.buffers.station in
    record {
      reads = reads_none m;
      counted = perhaps_read m m (reads_none m);
      unwritten = tt;
      why = tt;
      none = c.requires.rests;
      refused = λ known table s serves. serves;
      memory = refl;
      log = refl;
      same = tt;
      generation = tt;
      unchanged = tt;
      pending = λ known table s serves base v may step made room. tt;
      roomy = λ known table s serves base v may room is. cc;
      damaged = λ known table s serves base v may is. cc;
      last = λ known table s serves is.
          let here = g.met.S.Station.seen_may_be_left f.blocks.buffers.station serves.honest in
          let rest = served.at_rest serves c.requires.rests in
          let later : f.root.generation < f.log.epoch = points.later f.log f.root.generation rest.lasts.bodies m.seen.nvram (rest.left serves.honest m.seen here).log_stands in
          let number : c.get.result ≡ f.log.epoch = c.get.ensures ∙ c.epoch.ensures in
          elim (cases_lt f.log.epoch 4611686018427387904) [
            | inl lt ↦ absurd (false≢true (c.in_default.ensures.within.1 (omega (arith, number, later), omega (arith, number, lt))))
            | inr ge ↦ ge
          ];
      past = λ is within.
          let number : c.get.result ≡ f.log.epoch = c.get.ensures ∙ c.epoch.ensures in
          let low = within.0 in
          let high = within.1 in
          absurd (false≢true (c.in_default.ensures.within.1 (omega (arith, number, low), omega (arith, number, high))));
    }

-- ---- nothing was planned

pub returns-in-Err : goal.returns-in-Err
returns-in-Err g c =
    let f = c.args.self.now in
    let m = g.S.Station.meaning f.blocks.buffers.station in
    let mid = g.S.Station.meaning c.plan-map.new.blocks.buffers.station in
    let rests = c.requires.rests in
    let at = (goal.at.returns-in-Err g c).After-plan-map in
    let read_over = reads g at in
    let given_map = c.plan-map.result.0 in
    let r = c.plan-map.result.1 in
    let epoch : c.in-Some.generation ≡ f.log.epoch = c.in-Some.ensures.value ∙ c.get.ensures ∙ c.epoch.ensures in
    record {
      reads = read_over.below;
      counted = not_planned m mid c.in-Err.error read_over.below (of_err r c.in-Err.error (λ e. e ≡ Device → HasGrown m.failed_reads mid.failed_reads) c.in-Err.is c.plan-map.ensures.reads.device);
      unwritten = tt;
      why = tt;
      none = read_over.pending ∙ rests;
      refused = λ known table s serves.
          served.read_on serves rests mid c.plan-map.new.blocks.buffers.kept c.plan-map.new.blocks.pending given_map read_over c.plan-map.ensures.reads.same
          (λ b. c.plan-map.ensures.map.settled b ∙ given g at b);
      memory = refl;
      log = refl;
      same = tt;
      generation = tt;
      unchanged = tt;
      pending = λ known table s serves base v may step made room. tt;
      roomy = λ known table s serves base v may room is.
          let same : c.in-Err.error ≡ NoSpace = cc in
          let lacks = (c.plan-map.ensures.over m.seen.disk base v (served.at_rest serves rests).shows (plannable g at known table s serves base v may)).needs
          (c.in-Err.is ∙ ap Err same) in
          let left_is = all_left {G = g.S.Station} known f table s serves rests c.give_up.new.self c.give_up.ensures.next (given_count g at) (given g at) in
          let fixed_is = ap fixed_of (given_count g at ∙ f.count) in
          let enough = needs_fit c.args.change.now (fixed_of f.root.geometry.blocks) f.free (memory_room base f.inodes v) room in
          absurd (omega (arith, lacks, left_is, fixed_is, enough));
      damaged = λ known table s serves base v may is.
          let same : c.in-Err.error ≡ Damaged = cc in
          (c.plan-map.ensures.over m.seen.disk base v (served.at_rest serves rests).shows (plannable g at known table s serves base v may)).damaged
          (c.in-Err.is ∙ ap Err same);
      last = λ known table s serves is. cc;
      past = λ is. cc;
    }

pub invariant_of-self : goal.invariant_of-self
invariant_of-self g c =
    let f = c.args.self.now in
    let at = (goal.at.invariant_of-self g c).After-plan-map in
    let read_over = reads g at in
    let given_map = c.plan-map.result.0 in
    record {
      sectors = read_over.below.same.sectors ∙ f.sectors;
      nvram = read_over.below.same.nvram_bytes ∙ f.nvram;
      half = f.half;
      sizes = f.sizes;
      count = c.plan-map.ensures.map.count ∙ given_count g at ∙ f.count;
      counted = counted g at;
      few = f.few;
      numbers = f.numbers;
      is_root = f.is_root;
    }

-- ---- there was no memory for it

pub invariant_of-self-in-Err-take_memory : goal.invariant_of-self-in-Err-take_memory
invariant_of-self-in-Err-take_memory g c =
    let f = c.args.self.now in
    let at = (goal.at.invariant_of-self-in-Err-take_memory g c).After-plan-map in
    let read_over = reads g at in
    record {
      sectors = read_over.below.same.sectors ∙ f.sectors;
      nvram = read_over.below.same.nvram_bytes ∙ f.nvram;
      half = f.half;
      sizes = f.sizes;
      count = c.plan-map.ensures.map.count ∙ given_count g at ∙ f.count;
      counted = counted g at;
      few = f.few;
      numbers = f.numbers;
      is_root = f.is_root;
    }

pub returns-in-Err-take_memory : goal.returns-in-Err-take_memory
returns-in-Err-take_memory g c =
    let f = c.args.self.now in
    let m = g.S.Station.meaning f.blocks.buffers.station in
    let mid = g.S.Station.meaning c.plan-map.new.blocks.buffers.station in
    let at = (goal.at.returns-in-Err-take_memory g c).After-plan-map in
    let read_over = reads g at in
    record {
      reads = read_over.below;
      counted = perhaps_read m mid read_over.below;
      unwritten = tt;
      why = tt;
      none = read_over.pending ∙ c.requires.rests;
      refused = λ known table s serves.
          served.read_on serves c.requires.rests mid c.plan-map.new.blocks.buffers.kept c.plan-map.new.blocks.pending c.plan-map.result.0 read_over c.plan-map.ensures.reads.same
          (λ b. c.plan-map.ensures.map.settled b ∙ given g at b);
      memory = refl;
      log = refl;
      same = tt;
      generation = tt;
      unchanged = tt;
      pending = λ known table s serves base v may step made room. tt;
      roomy = λ known table s serves base v may room is. cc;
      damaged = λ known table s serves base v may is. cc;
      last = λ known table s serves is. cc;
      past = λ is. cc;
    }

-- ---- it is laid over the blocks

pub begin-requires-clause-none : goal.begin-requires-clause-none
begin-requires-clause-none g c =
    let f = c.args.self.now in
    let at = (goal.at.begin-requires-clause-none g c).After-plan-map in
    let read_over = reads g at in
    read_over.pending ∙ c.requires.rests

pub begin-requires-clause-unwritten : goal.begin-requires-clause-unwritten
begin-requires-clause-unwritten g c =
    ap (λ (p : Planned). p.written) c.in-Ok-take_memory.ensures.plan.0 ∙ (made g (goal.at.begin-requires-clause-unwritten g c).In-Ok).none

pub take_memory-requires : goal.take_memory-requires
take_memory-requires g c = record { size = (made g (goal.at.take_memory-requires g c).In-Ok).root_is.inode_file.size }

pub begin-requires-clause-fits : goal.begin-requires-clause-fits
begin-requires-clause-fits g c =
    let f = c.args.self.now in
    let at = (goal.at.begin-requires-clause-fits g c).After-plan-map in
    let read_over = reads g at in
    subst (λ (p : Planned). FitsDisk (g.S.Station.meaning c.plan-map.new.blocks.buffers.station).sectors p) (sym c.in-Ok-take_memory.ensures.plan.0)
    (subst (λ (n : ℕ). FitsDisk n c.in-Ok.point.plan) (sym (read_over.below.same.sectors ∙ f.sectors)) (fits g (goal.at.begin-requires-clause-fits g c).In-Ok))

pub invariant_of-self-in-Ok-take_memory : goal.invariant_of-self-in-Ok-take_memory
invariant_of-self-in-Ok-take_memory g c =
    let f = c.args.self.now in
    let q = c.in-Ok.point in
    let point = made g (goal.at.invariant_of-self-in-Ok-take_memory g c).In-Ok in
    let at = (goal.at.invariant_of-self-in-Ok-take_memory g c).After-plan-map in
    let read_over = reads g at in
    let same = subst (λ (b : Buffers g.row.S.Denot). ReadsOn (g.S.Station.meaning f.blocks.buffers.station) (g.S.Station.meaning b.station)) (sym c.begin.ensures.buffers) read_over.below in
    let sizes : q.root.geometry ≡ f.root.geometry =
    point.geometry in
    let half : c.go_on.new.self.half ≡ f.log.half = ap (λ (l : LogEnd). l.half) c.go_on.ensures.end in
    record {
      sectors = same.same.sectors ∙ f.sectors ∙ ap (λ (x : Sizes). 8 * x.blocks) (sym sizes);
      nvram = same.same.nvram_bytes ∙ f.nvram ∙ ap (λ (n : ℕ). 2 * n) (sym half);
      half = half ∙ f.half ∙ ap (λ (x : Sizes). x.half) (sym sizes);
      sizes = c.switch_to_new_root.ensures.geometry ∙ f.sizes ∙ sym sizes;
      count = c.plan-map.ensures.map.count ∙ given_count g at ∙ f.count ∙ ap (λ (x : Sizes). x.blocks) (sym sizes);
      counted = counted g at;
      few = omega (arith, c.open_orphans.ensures.few, c.cost_of_orphans-orphans.ensures);
      numbers = subst (λ (x : Sizes). HasNumbers x.inodes f.files) (sym c.switch_to_new_root.ensures.geometry) f.numbers;
      is_root = point.root_is;
    }

pub returns-in-Ok-take_memory : goal.returns-in-Ok-take_memory
returns-in-Ok-take_memory g c =
    let f = c.args.self.now in
    let m = g.S.Station.meaning f.blocks.buffers.station in
    let mid = g.S.Station.meaning c.plan-map.new.blocks.buffers.station in
    let now = g.S.Station.meaning c.begin.new.self.buffers.station in
    let q = c.in-Ok.point in
    let r = c.plan-map.result.1 in
    let point = made g (goal.at.returns-in-Ok-take_memory g c).In-Ok in
    let at = (goal.at.returns-in-Ok-take_memory g c).After-plan-map in
    let read_over = reads g at in
    let buffers = c.begin.ensures.buffers in
    let taken = c.in-Ok-take_memory.ensures in
    let p = c.in-Ok-take_memory.pending.plan in
    let new = q.root in
    let epoch : c.in-Some.generation ≡ f.log.epoch = c.in-Some.ensures.value ∙ c.get.ensures ∙ c.epoch.ensures in
    let next : c.epoch_after.result ≡ f.log.epoch + 1 = c.epoch_after.ensures ∙ ap (λ (n : ℕ). n + 1) epoch in
    let read : ReadsOn m now = subst (λ (b : Buffers g.row.S.Denot). ReadsOn m (g.S.Station.meaning b.station)) (sym buffers) read_over.below in
    record {
      reads = read;
      counted = all_read m now read (ap (λ (b : Buffers g.row.S.Denot). (g.S.Station.meaning b.station).failed_reads) buffers ∙ on_ok r q c.in-Ok.is c.plan-map.ensures.reads.counted);
      unwritten = subst (λ (l : Option PendingPoint). IfSome l (λ x. x.plan.written ≡ 0)) (sym c.begin.ensures.pending)
          (ap (λ (x : Planned). x.written) taken.plan.0 ∙ point.none);
      why = tt;
      none = tt;
      refused = λ known table s serves. tt;
      memory = tt;
      log = c.go_on.ensures.end ∙ ap (λ (n : ℕ). record f.log { epoch = n; end = Unopened }) next;
      same = (refl, refl, refl);
      generation = point.generation_is ∙ epoch;
      unchanged = c.switch_to_new_root.ensures.unchanged;
      pending = λ known table s serves base v may step made room.
          let rests = c.requires.rests in
          let here = g.met.S.Station.seen_may_be_left f.blocks.buffers.station serves.honest in
          let rest = served.at_rest serves rests in
          let seen = (read_over.below.goes serves.honest).seen in
          let both : IsPlannedFrom {G = g.S.Station} f base v step p new =
          subst (λ (x : Planned). IsPlannedFrom {G = g.S.Station} f base v step x new) (sym taken.plan.0)
          (planned g (goal.at.returns-in-Ok-take_memory g c).In-Ok known table s serves step base v made (plannable g at known table s serves base v may) room) in
          let plan = both.0 in
          let sound = subst IsPlanned (sym taken.plan.0) taken.plan.1 in
          let then : Images = record { disk = disk_after p m.seen.disk; nvram = m.seen.nvram } in
          let cuts = c.cuts_open.ensures in
          let roots = c.new_roots_hold.ensures in
          let has = c.points_go_on.ensures.is p m.seen sound in
          let disk : disk_after p m.seen.disk ≡ planned_disk c.begin.new.self.pending now.seen.disk =
          sym (ap (λ (l : Option PendingPoint). planned_disk l now.seen.disk) c.begin.ensures.pending
          ∙ ap (λ (b : Buffers g.row.S.Denot). disk_after p (g.S.Station.meaning b.station).seen.disk) buffers ∙ ap (λ (i : Images). disk_after p i.disk) seen) in
          let kept = kept_after step serves.first serves.snapshots in
          let slot : p.slot ≡ c.other_slot-slot.result =
          ap (λ (x : Planned). x.slot) taken.plan.0 ∙ point.slot_is in
          let entries : PlansEntries (blocks_of m.seen.disk) f.root p new c.plan-map.result.0 =
          subst (λ (x : Planned). PlansEntries (blocks_of m.seen.disk) f.root x new c.plan-map.result.0) (sym taken.plan.0)
          (of_ok r q (λ (x : Point). PlansEntries (blocks_of m.seen.disk) f.root x.plan x.root c.plan-map.result.0) c.in-Ok.is
          (c.plan-map.ensures.over m.seen.disk base v rest.shows (plannable g at known table s serves base v may)).entries) in
          let counted : c.cost_of_orphans-orphans.result ≡ 4 * count_orphans f.root.geometry.inodes v =
          c.cost_of_orphans-orphans.ensures ∙ ap (λ (n : ℕ). 4 * n) (c.open_orphans.ensures.counted (limits_of f.root.geometry) v may.volume
          (subst (λ (t : ℕ → Option Description). IsMounted v t) serves.opened may.mounted) may.fits) in
          record {
            pending = c.in-Ok-take_memory.pending;
            is = c.begin.ensures.pending;
            unwritten = ap (λ (x : Planned). x.written) taken.plan.0 ∙ point.none;
            sound = sound;
            slot = sym slot;
            planned = plan;
            under = subst (λ (n : ℕ). IsUnder n new v kept (planned_disk c.begin.new.self.pending now.seen.disk)) slot
                (subst (IsUnder p.slot new v kept) disk (settled.under cuts roots serves rests f.sectors f.half p new step v plan here then has));
            shows = subst (λ (d : ℕ → Sector). ShowsOver now c.begin.new.self.buffers.kept c.begin.new.self.pending (blocks_of d)) (ap (λ (i : Images). disk_after p i.disk) seen ∙ disk)
                (c.begin.ensures.shows (blocks_of m.seen.disk) (c.plan-map.ensures.reads.same (blocks_of m.seen.disk) rest.shows));
            memory = subst (λ (d : ℕ → Sector). IsInMemory (blocks_of d) new c.switch_to_new_root.new.self v) disk
                (settled.memory cuts roots serves rests f.sectors f.half p new step v plan here then has c.in-Ok-take_memory.file f.inodes c.switch_to_new_root.new.self f.sizes
                may.stands.mapped taken.file c.switch_to_new_root.ensures.volume);
            viewless = refl;
            entries = λ b. c.plan-map.ensures.map.settled b ∙ given g at b ∙ rest.entries b;
            to_come = subst (λ (d : ℕ → Sector). HasEntriesToCome (whole (blocks_of d) new).active c.plan-map.result.0) disk
                (λ b. sym (entries (blocks_of then.disk) (settled.has_all cuts roots serves rests f.sectors f.half p new step v plan here then has)
                (settled.agrees cuts roots serves rests f.sectors f.half p new step v plan here then has) b));
            newer = λ g bodies nvram first stands. c.go_on.ensures.newer g bodies nvram first (omega (arith, next, first)) stands;
            covered = λ g bodies nvram small stands. c.go_on.ensures.covered g bodies nvram small next stands;
            pledges = counted;
            saves = λ same few. let saved = both.1 same few in omega (arith, saved, counted);
            stored = omega (
              arith,
              clean_room c.switch_to_new_root.new.self v c.switch_to_new_root.ensures.unchanged c.switch_to_new_root.new.self.geometry.inodes,
              counted,
              ap (λ (x : Sizes). count_orphans x.inodes v) (c.switch_to_new_root.ensures.geometry ∙ f.sizes),
            );
          };
      roomy = λ known table s serves base v may room is. cc;
      damaged = λ known table s serves base v may is. cc;
      last = λ known table s serves is. cc;
      past = λ is. cc;
    }
