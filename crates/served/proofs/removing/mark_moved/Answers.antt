use Rattle.served.specs.Known.{known_of}
use Rattle.served.proofs.RemovingLaws.{came_marks}
use Rattle.served.proofs.removing.mark_moved.Goals as goal

pub returns : goal.returns
returns g c =
    came_marks g.F.FileSystem c.args.files.now (known_of c.args.memory.now) (known_of c.mark_changed.new.memory) (known_of c.touch.new.memory) (known_of c.touch-2.new.memory) c.args.asker c.args.moved.now c.args.parent c.args.new_parent c.handle_of-handle.result c.handle_of-handle.ensures c.mark_changed.ensures c.touch.ensures c.touch-2.ensures
