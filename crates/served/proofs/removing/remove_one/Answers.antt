use Rattle.std.proofs.Common.{Ok, Err}
use Rattle.model.specs.declared.command.Command.TheVariants as command
use Rattle.served.specs.Commands.{removing}
use Rattle.served.specs.Known.{known_of}
use Rattle.served.specs.Turns.{told_done}
use Rattle.served.proofs.TurnLaws.{came_by}
use Rattle.served.proofs.RemovingLaws.{came_removed_one, came_one_refused}
use Rattle.served.proofs.removing.remove_one.Goals as goal

pub returns-in-Ok : goal.returns-in-Ok
returns-in-Ok g c =
    let asked = came_by g.F.FileSystem c.args.files.now c.ask_done.new.files told_done (command.Path (removing c.args.path.now c.args.is_directory)) c.removing.result (Ok tt) c.removing.ensures c.in-Ok.ensures in
    came_removed_one g.F.FileSystem c.args.files.now c.ask_done.new.files (known_of c.args.memory.now) (known_of c.mark_changed.new.memory) (known_of c.touch.new.memory) c.args.asker c.args.parent c.args.path.now c.args.is_directory c.args.handle asked c.mark_changed.ensures c.touch.ensures

pub returns-in-Err : goal.returns-in-Err
returns-in-Err g c =
    let asked = came_by g.F.FileSystem c.args.files.now c.ask_done.new.files told_done (command.Path (removing c.args.path.now c.args.is_directory)) c.removing.result (Err c.in-Err.errno) c.removing.ensures c.in-Err.ensures in
    came_one_refused g.F.FileSystem c.args.files.now c.ask_done.new.files (known_of c.args.memory.now) c.args.asker c.args.parent c.args.path.now c.args.is_directory c.args.handle c.in-Err.errno asked
