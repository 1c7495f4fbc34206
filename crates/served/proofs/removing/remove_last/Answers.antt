use Rattle.std.proofs.Common.{Ok, Err}
use Rattle.model.specs.declared.command.Command.TheVariants as command
use Rattle.served.specs.Commands.{removing}
use Rattle.served.specs.Known.{known_of}
use Rattle.served.specs.Turns.{told_done}
use Rattle.served.proofs.TurnLaws.{came_by}
use Rattle.served.proofs.RemovingLaws.{came_removed_last, came_last_refused, came_last_lost}
use Rattle.served.proofs.removing.remove_last.Goals as goal

pub returns-in-Err : goal.returns-in-Err
returns-in-Err g c =
    let a = c.args in
    came_last_lost g.F.FileSystem (known_of a.memory.now) a.asker a.parent a.path.now a.is_directory a.handle a.stat.now a.files.now c.remember.new.files (known_of c.remember.new.memory) c.in-Err.errno c.in-Err.ensures

pub returns-in-Ok-ask_done : goal.returns-in-Ok-ask_done
returns-in-Ok-ask_done g c =
    let a = c.args in
    let asked = came_by g.F.FileSystem c.remember.new.files c.ask_done.new.files told_done (command.Path (removing a.path.now a.is_directory)) c.removing.result (Ok tt) c.removing.ensures c.in-Ok-ask_done.ensures in
    came_removed_last g.F.FileSystem (known_of a.memory.now) a.asker a.parent a.path.now a.is_directory a.handle a.stat.now a.files.now c.remember.new.files c.ask_done.new.files c.in-Ok.held (known_of c.remember.new.memory)
    (known_of c.touch.new.memory) c.in-Ok.ensures asked c.touch.ensures

pub returns-in-Err-ask_done : goal.returns-in-Err-ask_done
returns-in-Err-ask_done g c =
    let a = c.args in
    let asked = came_by g.F.FileSystem c.remember.new.files c.ask_done.new.files told_done (command.Path (removing a.path.now a.is_directory)) c.removing.result (Err c.in-Err-ask_done.errno) c.removing.ensures c.in-Err-ask_done.ensures in
    came_last_refused g.F.FileSystem (known_of a.memory.now) a.asker a.parent a.path.now a.is_directory a.handle a.stat.now a.files.now c.remember.new.files c.ask_done.new.files c.stay.new.files c.in-Ok.held (known_of c.remember.new.memory)
    c.in-Err-ask_done.errno (c.stay.result, known_of c.stay.new.memory) c.in-Ok.ensures asked c.stay.ensures
