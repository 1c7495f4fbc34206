use Rattle.mount.proofs.PointLemmas.{makes_none, makes_room}
use Rattle.mount.proofs.fs.Fs.checkpoint.Goals as goal

pub returns-in-Ok : goal.returns-in-Ok
returns-in-Ok g c = makes_room {G = g.S.Station} c.args.self.now _ c.requires _ c.in-Ok.ensures c.requires

pub returns-in-Err : goal.returns-in-Err
returns-in-Err g c = makes_none {G = g.S.Station} c.args.self.now _ c.requires c.in-Err.error _ c.errno_of_point.ensures c.in-Err.ensures c.fails_point-self.ensures
