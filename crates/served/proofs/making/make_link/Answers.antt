use Rattle.std.proofs.Common.{Ok, Err, ap, ◌∙◌}
use Rattle.model.specs.declared.command.Command.TheVariants as command
use Rattle.model.specs.declared.command.PathCall.TheVariants as call
use Rattle.served.specs.Known.{known_of}
use Rattle.served.specs.Making as spec
use Rattle.served.specs.Turns.{told_done}
use Rattle.served.proofs.TurnLaws.{came_by}
use Rattle.served.proofs.MakingLaws.{came_link_made, came_link_refused, came_link_unplaced}
use Rattle.served.proofs.making.make_link.Goals as goal

pub returns-in-Err : goal.returns-in-Err
returns-in-Err g c =
    came_link_unplaced g.F.FileSystem c.args.files.now c.prepare.new.files (known_of c.args.memory.now) c.args.asker c.args.parent c.args.name.now c.args.text.now c.in-Err.errno c.in-Err.ensures

pub returns-in-Ok-ask_done : goal.returns-in-Ok-ask_done
returns-in-Ok-ask_done g c =
    let asked = came_by g.F.FileSystem c.prepare.new.files c.ask_done.new.files told_done (command.Path (call.Symlink c.args.text.now c.in-Ok.new.path.items)) c.symlink.result (Ok tt) (c.symlink.ensures ∙ ap (λ p. command.Path (call.Symlink c.args.text.now p)) c.deref.ensures.value) c.in-Ok-ask_done.ensures in
    came_link_made g.F.FileSystem c.args.files.now c.prepare.new.files c.ask_done.new.files c.tell_made.new.files (known_of c.args.memory.now) c.args.asker c.args.parent c.args.name.now c.args.text.now (spec.place_of c.in-Ok.new) (c.tell_made.result, known_of c.tell_made.new.memory)
    c.in-Ok.ensures asked c.tell_made.ensures

pub returns : goal.returns
returns g c =
    let asked = came_by g.F.FileSystem c.prepare.new.files c.ask_done.new.files told_done (command.Path (call.Symlink c.args.text.now c.in-Ok.new.path.items)) c.symlink.result (Err c.in-Err-ask_done.errno) (c.symlink.ensures ∙ ap (λ p. command.Path (call.Symlink c.args.text.now p)) c.deref.ensures.value) c.in-Err-ask_done.ensures in
    came_link_refused g.F.FileSystem c.args.files.now c.prepare.new.files c.ask_done.new.files (known_of c.args.memory.now) c.args.asker c.args.parent c.args.name.now c.args.text.now (spec.place_of c.in-Ok.new) c.in-Err-ask_done.errno c.in-Ok.ensures asked
