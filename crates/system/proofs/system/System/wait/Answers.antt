use Rattle.std.proofs.Common.{◌≡◌, ◌≤◌, ◌+◌, ◌∙◌, ℕ, Option, ap, arith, inl, inr, length, sym, subst}
use Rattle.std.specs.Prelude.{map}
use Rattle.std.proofs.Math.Bool.{not}
use Rattle.std.proofs.lemmas.Bool.{eq-eqb, false≢true}
use Rattle.layout.specs.StateLimits.{limits_of}
use Rattle.layout.specs.Limits.{Sizes}
use Rattle.layout.specs.Places.{blocks_of}
use Rattle.layout.specs.Record.{change_bytes, change_of}
use Rattle.model.specs.Records.{applied, work_of}
use Rattle.model.specs.Room.{cost}
use Rattle.model.specs.States.{State}
use Rattle.model.specs.Trees.{Description}
use Rattle.model.specs.Volumes.{IsMounted, Volume, swept}
use Rattle.descriptors.specs.Fits.{FitsVolume}
use Rattle.descriptors.specs.Tables.{table_of}
use Rattle.inofile.specs.Room.{memory_room}
use Rattle.inofile.specs.Volumes.{IsVolumeOf}
use Rattle.images.specs.Roots.{whole}
use Rattle.loading.specs.Images.{inodes_of}
use Rattle.records.specs.Opened.{HasNumbers}
use Rattle.replay.specs.Costs.{IsSizeBefore, KnowsFile}
use Rattle.system.specs.Ahead.{HasStateAhead}
use Rattle.system.specs.Systems.{disk_of}
use Rattle.system.specs.Waits.{Waits}
use Rattle.system.proofs.AheadLaws.{one_waits}
use Rattle.system.proofs.LoggedLaws.{reserves}
use Rattle.system.proofs.RoomLaws.{free_of, free_with}
use Rattle.system.proofs.system.System.wait.Given.{Over}
use Rattle.system.proofs.system.System.wait.Goals.{After-size_before-size}
use Rattle.system.proofs.system.System.wait.Goals as goal

-- the size of the file, as it is before the record
sized : (g : Over) (c : After-size_before-size g) (table : ℕ → Option Description) (s kept : State) (ahead : HasStateAhead {G = g.S.Station} c.args.self.now c.args.waiting.now table s kept)
    → KnowsFile c.args.self.now.inodes (change_of c.args.change.now) → IsSizeBefore ahead.shown.running (change_of c.args.change.now) c.size_before-size.result
sized g c table s kept ahead knows =
    let f = c.args.self.now in
    let disk = blocks_of (disk_of {G = g.S.Station} f) in
    c.size_before-size.ensures _ f.root.geometry.blocks disk (inodes_of (whole disk f.root).active) ahead.shown.running ahead.shown.memory.stands knows

pub returns-then-not-has_room_behind-clause-told : goal.returns-then-not-has_room_behind-clause-told
returns-then-not-has_room_behind-clause-told g c = λ table s kept ahead knows.
    let size = sized g (goal.at.returns-then-not-has_room_behind-clause-told g c).After-size_before-size table s kept ahead knows in
    record {
      room = tt;
      short = λ is room. false≢true (sym c.if-not-has_room_behind.true ∙ (c.has_room_behind.ensures ahead.shown.running size).1 room);
      done = λ advances does. tt;
    }

pub returns-then-ne-clause-full : goal.returns-then-ne-clause-full
returns-then-ne-clause-full g c = λ is. inl (λ same.
    let equal = eq-eqb c.epoch.result c.epoch_after.result (c.epoch.ensures ∙ same ∙ sym c.epoch_after.ensures) in
    false≢true (sym (ap not equal) ∙ sym c.ne.ensures ∙ c.if-ne.true))

pub returns-then-not-room_behind-clause-full : goal.returns-then-not-room_behind-clause-full
returns-then-not-room_behind-clause-full g c = λ is. inr (λ room.
    let long : length c.waiting.inside.batch ≡ length c.args.waiting.now.batch = ap (λ (w : Waits). length w.batch) c.waiting.view_is in
    false≢true (sym c.if-not-room_behind.true ∙ c.room_behind.ensures.1 (omega (arith, room, long, c.encoded_len.ensures))))

pub invariant_of-self-clause-sizes : goal.invariant_of-self-clause-sizes
invariant_of-self-clause-sizes g c = c.commit_swept.ensures.geometry ∙ c.args.self.now.sizes

pub invariant_of-self-clause-numbers : goal.invariant_of-self-clause-numbers
invariant_of-self-clause-numbers g c =
    let f = c.args.self.now in
    subst (λ (n : ℕ). HasNumbers n c.commit_swept.new.files) (sym (ap (λ (s : Sizes). s.inodes) c.commit_swept.ensures.geometry)) (c.commit_swept.ensures.numbers f.inodes.geometry.inodes f.numbers)

pub returns-clause-told : goal.returns-clause-told
returns-clause-told g c = λ table s kept ahead knows.
    let size = sized g (goal.at.returns-clause-told g c).After-size_before-size table s kept ahead knows in
    let room = (c.has_room_behind.ensures ahead.shown.running size).0 c.if-not-has_room_behind.false in
    record {
      room = room;
      short = λ is room. cc;
      done = λ advances does.
          let f = c.args.self.now in
          let change = change_of c.args.change.now in
          let records = c.records_lead_on.ensures in
          let shown = ahead.shown in
          let v = shown.running in
          let disk = blocks_of (disk_of {G = g.S.Station} f) in
          let settled = inodes_of (whole disk f.root).active in
          let count = f.root.geometry.blocks in
          let opened : table ≡ table_of f.files = shown.opened in
          let after : (ℕ → Option Description) → Volume = λ t. swept t (applied change v) in
          let mounted = subst (λ (t : ℕ → Option Description). IsMounted v t) opened shown.mounted in
          let within = subst (λ (t : ℕ → Option Description). memory_room ahead.shown.first c.commit_swept.new.inodes (after t) ≤ memory_room ahead.shown.first f.inodes v + cost (limits_of f.root.geometry).costs (work_of v change)) (sym opened)
          (subst (λ (z : Sizes). memory_room ahead.shown.first c.commit_swept.new.inodes (after (table_of f.files)) ≤ memory_room ahead.shown.first f.inodes v + cost (limits_of z).costs (work_of v change)) f.sizes
          (c.commit_swept.ensures.room ahead.shown.first count disk settled v change shown.memory.stands does mounted)) in
          let pledges = c.in-Ok.ensures.pledges in
          let costs_it = c.cost_of-cost.ensures.cost v size in
          let reserved = reserves c.cuts_open.ensures records shown change advances f.free c.cost_of-cost.result costs_it (omega (arith, room))
          (free_with {G = g.S.Station} ahead.then_inodes ahead.then_files ahead.then_session f ahead.then_table kept ahead.served ∙ ap free_of (sym ahead.base)) in
          one_waits ahead c.cuts_open.ensures records change advances c.cost_of-cost.result costs_it reserved
          c.add.new.self (c.in-Ok.ensures.added (map change_bytes ahead.waiting) ahead.batch) pledges
          c.commit_swept.new.inodes c.commit_swept.new.files
          (subst (λ (t : ℕ → Option Description). IsVolumeOf count disk settled c.commit_swept.new.inodes (after t)) (sym opened)
          (c.commit_swept.ensures.volume count disk settled v change shown.memory.stands does mounted))
          (omega (arith, within, shown.stored, pledges, costs_it))
          (opened ∙ sym c.commit_swept.ensures.opened)
          (subst (λ (t : ℕ → Option Description). FitsVolume c.commit_swept.new.files (after t)) (sym opened)
          (c.commit_swept.ensures.fits count disk settled v change shown.memory.stands does mounted shown.fits
          (subst (λ (t : ℕ → Option Description). IsMounted (after t) t) opened advances.mounted)));
    }
