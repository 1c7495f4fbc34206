use Rattle.system.proofs.CoveringLaws.{not_ended, nothing_left, rests, whole_point}
use Rattle.system.proofs.system.System.checkpoint.Goals as goal

pub returns-in-Err : goal.returns-in-Err
returns-in-Err g c = not_ended {G = g.S.Station} c.args.self.now c.finish.new.self c.in-Err.error c.in-Err.ensures

pub returns-then-is_covered : goal.returns-then-is_covered
returns-then-is_covered g c =
    nothing_left {G = g.S.Station} c.args.self.now c.finish.new.self c.in_default.ensures (c.is_covered.ensures.told.0 c.if-is_covered.true)
    (λ s served. c.is_covered.ensures.covers s.tree.descriptors s served c.if-is_covered.true)

pub point-requires : goal.point-requires
point-requires g c = rests {G = g.S.Station} c.args.self.now c.finish.new.self c.in_default.ensures

pub returns : goal.returns
returns g c = whole_point {G = g.S.Station} c.args.self.now c.finish.new.self c.in_default.ensures c.point.new.self c.point.result c.point.ensures.makes c.point.ensures.slots
