use Rattle.std.proofs.Common.{Ok, Err}
use Rattle.model.specs.declared.command.Command.TheVariants as command
use Rattle.served.specs.Commands.{moving}
use Rattle.served.specs.Known.{known_of}
use Rattle.served.specs.Turns.{told_done}
use Rattle.served.proofs.TurnLaws.{came_by}
use Rattle.served.proofs.RemovingLaws.{came_moved, came_unmoved}
use Rattle.served.proofs.removing.move_name.Goals as goal

pub returns-in-Ok : goal.returns-in-Ok
returns-in-Ok g c =
    let asked = came_by g.F.FileSystem c.args.files.now c.ask_done.new.files told_done (command.Path (moving c.args.flags c.args.path.now c.args.new_path.now)) c.moving.result (Ok tt) c.moving.ensures c.in-Ok.ensures in
    came_moved g.F.FileSystem c.args.files.now c.ask_done.new.files (known_of c.args.memory.now) (known_of c.mark_moved.new.memory) c.args.asker c.args.moved.now c.args.parent c.args.new_parent c.args.flags c.args.path.now c.args.new_path.now asked c.mark_moved.ensures

pub returns-in-Err : goal.returns-in-Err
returns-in-Err g c =
    let asked = came_by g.F.FileSystem c.args.files.now c.ask_done.new.files told_done (command.Path (moving c.args.flags c.args.path.now c.args.new_path.now)) c.moving.result (Err c.in-Err.errno) c.moving.ensures c.in-Err.ensures in
    came_unmoved g.F.FileSystem c.args.files.now c.ask_done.new.files (known_of c.args.memory.now) c.args.asker c.args.moved.now c.args.parent c.args.new_parent c.args.flags c.args.path.now c.args.new_path.now c.in-Err.errno asked
