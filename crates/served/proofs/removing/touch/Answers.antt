use Rattle.served.specs.Known.{known_of}
use Rattle.served.proofs.RemovingLaws.{came_touches}
use Rattle.served.proofs.removing.touch.Goals as goal

pub returns : goal.returns
returns g c =
    came_touches g.F.FileSystem c.args.files.now (known_of c.args.memory.now) (known_of c.touch_directory.new.memory) c.args.asker c.args.parent c.handle_of-directory.result c.handle_of-directory.ensures c.touch_directory.ensures
