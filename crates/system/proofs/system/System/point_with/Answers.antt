use Rattle.std.proofs.Common.{◌≡◌, refl, Result, Ok, Err, sym, subst}
use Rattle.std.specs.Prelude.{OnOk}
use Rattle.images.specs.SnapshotSteps.{unchanged}
use Rattle.inofile.specs.declared.inode_file.InodeFile.{InodeFile}
use Rattle.planning.specs.declared.change.SnapshotChange.{SnapshotChange}
use Rattle.system.specs.Points.{HasRoomToStep, IsStepFor, KeepsSlots, MakesPoint, StepsTo}
use Rattle.system.specs.Slicing.{Finishes}
use Rattle.system.specs.Systems.{HasStateBy}
use Rattle.system.specs.declared.error.PointError.{PointError}
use Rattle.system.proofs.PendingLaws.{kept_slots, made, not_made, steps_turn}
use Rattle.system.proofs.PointLaws.{passed_on}
use Rattle.system.proofs.system.System.point_with.Goals as goal

by_result : {A : Type 0} (r : Result (Unit {0}) PointError) → (r ≡ Ok tt → A) → OnOk r A
by_result (Ok u) is = is refl
by_result (Err e) is = tt

pub returns-in_err-begin_point-clause-makes : goal.returns-in_err-begin_point-clause-makes
returns-in_err-begin_point-clause-makes g c =
    let f = c.args.self.now in
    let new = c.begin_point.new.self in
    let begins = c.in_err-begin_point.ensures in
    passed_on (λ (r : Result (Unit {0}) PointError). MakesPoint (StepsTo {G = g.S.Station} c.args.change.now) (HasRoomToStep {G = g.S.Station} c.args.change.now) f new r)
    c.from_residual.result c.in_err-begin_point.field-0.0 c.from_residual.ensures.1
    (not_made c.cuts_open.ensures {G = g.S.Station} f new c.args.change.now c.in_err-begin_point.field-0.0 begins f.inodes
    (StepsTo {G = g.S.Station} c.args.change.now f) (HasRoomToStep {G = g.S.Station} c.args.change.now f) (steps_turn {G = g.S.Station} c.args.change.now f c.requires.rests)
    new refl refl refl (λ table s serves. subst (λ (i : InodeFile). HasStateBy {G = g.S.Station} i new table s) (sym begins.memory) serves))

pub returns-in_err-begin_point-clause-slots : goal.returns-in_err-begin_point-clause-slots
returns-in_err-begin_point-clause-slots g c = λ s served same. passed_on (λ (r : Result (Unit {0}) PointError). OnOk r (KeepsSlots {G = g.S.Station} c.args.self.now c.begin_point.new.self)) c.from_residual.result c.in_err-begin_point.field-0.0 c.from_residual.ensures.1 tt

pub returns-clause-slots : goal.returns-clause-slots
unfolding steps_turn
returns-clause-slots g c = λ s served same.
    let f = c.args.self.now in
    let new = c.finish.new.self in
    by_result c.finish.result (λ is.
    kept_slots c.cuts_open.ensures c.new_roots_hold.ensures c.points_go_on.ensures {G = g.S.Station} f c.begin_point.new.self new c.args.change.now c.requires.rests c.in_ok-begin_point.ensures f.inodes
    (g.met.S.Station.seen_may_be_left f.blocks.buffers.station) (g.met.S.Station.seen_may_be_left new.blocks.buffers.station) (g.met.S.Station.sized new.blocks.buffers.station)
    (StepsTo {G = g.S.Station} c.args.change.now f) (HasRoomToStep {G = g.S.Station} c.args.change.now f) (steps_turn {G = g.S.Station} c.args.change.now f c.requires.rests)
    (subst (λ (r : Result (Unit {0}) PointError). Finishes {G = g.S.Station} c.begin_point.new.self new r) is c.finish.ensures)
    s.tree.descriptors s served _ (unchanged, subst (λ (change : SnapshotChange). IsStepFor {G = g.S.Station} change f unchanged) (sym same) (record { is = refl; can = tt }), tt, refl)
    (subst (λ (change : SnapshotChange). HasRoomToStep {G = g.S.Station} change f) (sym same) tt) refl)

pub returns-clause-makes : goal.returns-clause-makes
returns-clause-makes g c =
    let f = c.args.self.now in
    let new = c.finish.new.self in
    made c.cuts_open.ensures c.new_roots_hold.ensures c.points_go_on.ensures {G = g.S.Station} f c.begin_point.new.self new c.args.change.now c.requires.rests c.in_ok-begin_point.ensures f.inodes
    (g.met.S.Station.seen_may_be_left f.blocks.buffers.station) (g.met.S.Station.seen_may_be_left new.blocks.buffers.station) (g.met.S.Station.sized new.blocks.buffers.station)
    (StepsTo {G = g.S.Station} c.args.change.now f) (HasRoomToStep {G = g.S.Station} c.args.change.now f) (steps_turn {G = g.S.Station} c.args.change.now f c.requires.rests)
    c.finish.result c.finish.ensures
