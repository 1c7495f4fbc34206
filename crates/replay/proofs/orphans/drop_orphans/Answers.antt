use Rattle.std.proofs.Common.{rules, Err, sym, subst, ap, arith, ℕ, ◌≡◌, ◌+◌, ◌≤◌, ◌∙◌, refl}
use Rattle.std.proofs.lemmas.Result.{err_from_is_err_and}
use Rattle.layout.specs.StateLimits.{limits_of}
use Rattle.layout.specs.Limits.{Sizes}
use Rattle.model.specs.Volumes.{Volume}
use Rattle.inofile.specs.Room.{memory_room}
use Rattle.inofile.specs.Volumes.{IsVolumeIn}
use Rattle.replay.proofs.Errors.{passed}
use Rattle.model.specs.Records.{without_orphans}
use Rattle.records.specs.Preparing.{IsKnownVolume}
use Rattle.replay.proofs.GraphLaws.{known_graph, known_swept}
use Rattle.replay.proofs.SweepLaws.{dropped_below, starts, one_more, ends}
use Rattle.replay.proofs.orphans.drop_orphans.Goals as goal

pub loop-number-init : goal.loop-number-init
loop-number-init g c = record {
  read = search rules;
  geometry = refl;
  drops = λ detail disk settled v shows has.
      subst (λ (w : Volume). IsVolumeIn detail (g.B.Blocks.count c.args.blocks.now) disk settled c.args.inodes.now w) (starts c.args.inodes.now.geometry.inodes v (known_graph detail (limits_of c.args.inodes.now.geometry) v has.volume) has.memory.own) has.memory;
  room = λ detail base disk settled v shows has.
      subst (λ (w : Volume). memory_room base c.args.inodes.now w ≤ memory_room base c.args.inodes.now v) (starts c.args.inodes.now.geometry.inodes v (known_graph detail (limits_of c.args.inodes.now.geometry) v has.volume) has.memory.own) (omega arith);
}

pub loop-number-preserved : goal.loop-number-preserved
loop-number-preserved g c = record {
  read = search rules;
  geometry = c.in_ok-drop_if_orphan.ensures.geometry ∙ c.loop-number.invariant.geometry;
  drops = λ detail disk settled v shows has.
      let read = c.loop-number.invariant.read in
      let m = c.loop-number.number in
      subst (λ (n : ℕ). IsVolumeIn detail n disk settled c.drop_if_orphan.new.inodes (dropped_below (m + 1) v)) read.count
      (subst (λ (w : Volume). IsVolumeIn detail (g.B.Blocks.count c.loop-number.blocks) disk settled c.drop_if_orphan.new.inodes w) (one_more m v)
      (c.in_ok-drop_if_orphan.ensures.drops detail disk settled (dropped_below m v) (read.same disk shows)
      (subst (λ (n : ℕ). IsVolumeIn detail n disk settled c.loop-number.inodes (dropped_below m v)) (sym read.count) (c.loop-number.invariant.drops detail disk settled v shows has))));
  room = λ detail base disk settled v shows has.
      let read = c.loop-number.invariant.read in
      let m = c.loop-number.number in
      let here = c.in_ok-drop_if_orphan.ensures.room detail base disk settled (dropped_below m v) (read.same disk shows)
      (subst (λ (n : ℕ). IsVolumeIn detail n disk settled c.loop-number.inodes (dropped_below m v)) (sym read.count) (c.loop-number.invariant.drops detail disk settled v shows has)) in
      let on = subst (λ (w : Volume). memory_room base c.drop_if_orphan.new.inodes w ≤ memory_room base c.loop-number.inodes (dropped_below m v)) (one_more m v) here in
      omega (arith, on, c.loop-number.invariant.room detail base disk settled v shows has);
}

pub returns-in_err-drop_if_orphan-clause-drops : goal.returns-in_err-drop_if_orphan-clause-drops
returns-in_err-drop_if_orphan-clause-drops g c detail disk settled v shows has =
    let read = c.loop-number.invariant.read in
    let m = c.loop-number.number in
    let why = c.in_err-drop_if_orphan.ensures.drops detail disk settled (dropped_below m v) (read.same disk shows)
    (subst (λ (n : ℕ). IsVolumeIn detail n disk settled c.loop-number.inodes (dropped_below m v)) (sym read.count) (c.loop-number.invariant.drops detail disk settled v shows has)) in
    let at = err_from_is_err_and c.from_residual.result c.from_residual.ensures.1 in
    passed _ c.from_residual.result c.in_err-drop_if_orphan.field-0.0 (at.1 ∙ ap (λ e. Err e) at.2) why

pub returns-clause-drops : goal.returns-clause-drops
returns-clause-drops g c detail disk settled v shows has =
    let inodes = c.args.inodes.now.geometry.inodes in
    let sizes = c.geometry.ensures in
    let last : c.inodes-number-end.result ≡ inodes = c.inodes-number-end.ensures.value ∙ ap (λ (s : Sizes). s.inodes) sizes in
    let many : 4 ≤ inodes = omega (arith, last, c.inodes-number-end.ensures.value, c.inodes-number-end.ensures.within.least_inodes) in
    let at : c.loop-number.number ≡ inodes = omega (arith, last, many) in
    record {
      memory = subst (λ (w : Volume). IsVolumeIn detail (g.B.Blocks.count c.args.blocks.now) disk settled c.loop-number.inodes w)
          (ap (λ (n : ℕ). dropped_below n v) at ∙ ends inodes v (known_graph detail (limits_of c.args.inodes.now.geometry) v has.volume) many) (c.loop-number.invariant.drops detail disk settled v shows has);
      volume = subst (λ (s : Sizes). IsKnownVolume detail (limits_of s) (without_orphans v)) (sym c.loop-number.invariant.geometry)
          (known_swept detail (limits_of c.args.inodes.now.geometry) v (λ volume. (c.mounts_find_volumes.ensures (limits_of c.args.inodes.now.geometry) v volume).0) has.volume);
    }

pub returns-clause-room : goal.returns-clause-room
returns-clause-room g c detail base disk settled v shows has =
    let inodes = c.args.inodes.now.geometry.inodes in
    let last : c.inodes-number-end.result ≡ inodes = c.inodes-number-end.ensures.value ∙ ap (λ (s : Sizes). s.inodes) c.geometry.ensures in
    let many : 4 ≤ inodes = omega (arith, last, c.inodes-number-end.ensures.value, c.inodes-number-end.ensures.within.least_inodes) in
    let at : c.loop-number.number ≡ inodes = omega (arith, last, many) in
    subst (λ (w : Volume). memory_room base c.loop-number.inodes w ≤ memory_room base c.args.inodes.now v)
    (ap (λ (n : ℕ). dropped_below n v) at ∙ ends inodes v (known_graph detail (limits_of c.args.inodes.now.geometry) v has.volume) many) (c.loop-number.invariant.room detail base disk settled v shows has)
