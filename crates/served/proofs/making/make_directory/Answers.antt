use Rattle.std.proofs.Common.{Ok, Err, ◌∙◌}
use Rattle.std.proofs.Math.Path.{ap₂}
use Rattle.model.specs.declared.command.Command.TheVariants as command
use Rattle.model.specs.declared.command.PathCall.TheVariants as call
use Rattle.served.specs.Known.{known_of}
use Rattle.served.specs.Making as spec
use Rattle.served.specs.Turns.{told_done}
use Rattle.served.proofs.TurnLaws.{came_by}
use Rattle.served.proofs.MakingLaws.{came_directory, came_directory_refused, came_directory_unplaced}
use Rattle.served.proofs.making.make_directory.Goals as goal

pub returns-in-Err : goal.returns-in-Err
returns-in-Err g c =
    came_directory_unplaced g.F.FileSystem c.args.files.now c.prepare.new.files (known_of c.args.memory.now) c.args.asker c.args.parent c.args.name.now c.args.mode c.in-Err.errno c.in-Err.ensures

pub returns-in-Ok-ask_done : goal.returns-in-Ok-ask_done
returns-in-Ok-ask_done g c =
    let asked = came_by g.F.FileSystem c.prepare.new.files c.ask_done.new.files told_done (command.Path (call.Mkdir c.in-Ok.new.path.items (spec.directory_mode c.args.mode c.in-Ok.new.inherits))) c.mkdir.result (Ok tt) (c.mkdir.ensures ∙ ap₂ (λ p m. command.Path (call.Mkdir p m)) c.deref.ensures.value c.directory_mode-mode.ensures) c.in-Ok-ask_done.ensures in
    came_directory g.F.FileSystem c.args.files.now c.prepare.new.files c.ask_done.new.files c.tell_made.new.files (known_of c.args.memory.now) c.args.asker c.args.parent c.args.name.now c.args.mode (spec.place_of c.in-Ok.new) (c.tell_made.result, known_of c.tell_made.new.memory)
    c.in-Ok.ensures asked c.tell_made.ensures

pub returns : goal.returns
returns g c =
    let asked = came_by g.F.FileSystem c.prepare.new.files c.ask_done.new.files told_done (command.Path (call.Mkdir c.in-Ok.new.path.items (spec.directory_mode c.args.mode c.in-Ok.new.inherits))) c.mkdir.result (Err c.in-Err-ask_done.errno) (c.mkdir.ensures ∙ ap₂ (λ p m. command.Path (call.Mkdir p m)) c.deref.ensures.value c.directory_mode-mode.ensures) c.in-Err-ask_done.ensures in
    came_directory_refused g.F.FileSystem c.args.files.now c.prepare.new.files c.ask_done.new.files (known_of c.args.memory.now) c.args.asker c.args.parent c.args.name.now c.args.mode (spec.place_of c.in-Ok.new) c.in-Err-ask_done.errno c.in-Ok.ensures asked
