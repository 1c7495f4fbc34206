use Rattle.std.proofs.Common.{Ok, Err}
use Rattle.model.specs.declared.command.Command.TheVariants as command
use Rattle.served.specs.Commands.{moving}
use Rattle.served.specs.Known.{known_of}
use Rattle.served.specs.Turns.{told_done}
use Rattle.served.proofs.TurnLaws.{came_by}
use Rattle.served.proofs.RemovingLaws.{came_moved_over, came_over_refused, came_over_lost}
use Rattle.served.proofs.removing.move_over.Goals as goal

pub returns-in-Err : goal.returns-in-Err
returns-in-Err g c =
    let a = c.args in
    came_over_lost g.F.FileSystem (known_of a.memory.now) a.asker a.over.now a.moved.now a.parent a.new_parent a.flags a.path.now a.new_path.now c.handle_of-handle.result a.files.now c.remember.new.files
    (known_of c.remember.new.memory) c.in-Err.errno c.handle_of-handle.ensures c.in-Err.ensures

pub returns-in-Ok-ask_done : goal.returns-in-Ok-ask_done
returns-in-Ok-ask_done g c =
    let a = c.args in
    let asked = came_by g.F.FileSystem c.remember.new.files c.ask_done.new.files told_done (command.Path (moving a.flags a.path.now a.new_path.now)) c.moving.result (Ok tt) c.moving.ensures c.in-Ok-ask_done.ensures in
    came_moved_over g.F.FileSystem (known_of a.memory.now) a.asker a.over.now a.moved.now a.parent a.new_parent a.flags a.path.now a.new_path.now c.handle_of-handle.result a.files.now c.remember.new.files c.ask_done.new.files
    c.in-Ok.held (known_of c.remember.new.memory) (known_of c.mark_moved.new.memory) c.handle_of-handle.ensures c.in-Ok.ensures asked c.mark_moved.ensures

pub returns-in-Err-ask_done : goal.returns-in-Err-ask_done
returns-in-Err-ask_done g c =
    let a = c.args in
    let asked = came_by g.F.FileSystem c.remember.new.files c.ask_done.new.files told_done (command.Path (moving a.flags a.path.now a.new_path.now)) c.moving.result (Err c.in-Err-ask_done.errno) c.moving.ensures c.in-Err-ask_done.ensures in
    came_over_refused g.F.FileSystem (known_of a.memory.now) a.asker a.over.now a.moved.now a.parent a.new_parent a.flags a.path.now a.new_path.now c.handle_of-handle.result a.files.now c.remember.new.files c.ask_done.new.files c.stay.new.files
    c.in-Ok.held (known_of c.remember.new.memory) c.in-Err-ask_done.errno (c.stay.result, known_of c.stay.new.memory) c.handle_of-handle.ensures c.in-Ok.ensures asked c.stay.ensures
