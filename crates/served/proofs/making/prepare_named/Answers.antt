use Rattle.served.specs.Known.{known_of}
use Rattle.served.specs.Making as spec
use Rattle.served.proofs.MakingLaws.{came_prepare, came_no_place}
use Rattle.served.proofs.making.prepare_named.Goals as goal

pub returns-in-Ok : goal.returns-in-Ok
returns-in-Ok g c =
    came_prepare g.F.FileSystem c.args.files.now c.prepare_at.new.files (known_of c.args.memory.now) c.args.asker c.args.parent c.args.name.now c.in-Ok.path.items (spec.placed c.prepare_at.result) (record { starts = c.in-Ok.ensures.starts; goes_on = c.in-Ok.ensures.goes_on; one_name = c.in-Ok.ensures.one_name }) c.prepare_at.ensures

pub returns-in-Err : goal.returns-in-Err
returns-in-Err g c =
    came_no_place g.F.FileSystem c.args.files.now (known_of c.args.memory.now) c.args.asker c.args.parent c.args.name.now
