use Rattle.std.proofs.Common.{List, ℕ, Ok, Err, ap, ◌∙◌}
use Rattle.model.specs.declared.command.Command.TheVariants as command
use Rattle.model.specs.declared.command.PathCall.TheVariants as call
use Rattle.served.specs.Known.{known_of}
use Rattle.served.specs.Making as spec
use Rattle.served.specs.Setting.{Told}
use Rattle.served.specs.Turns.{told_done}
use Rattle.served.proofs.TurnLaws.{came_by, came_path}
use Rattle.served.proofs.MakingLaws.{came_link_at, came_link_at_refused, came_link_at_nowhere}
use Rattle.served.proofs.making.link_at.Goals as goal

pub returns-in_default : goal.returns-in_default
returns-in_default g c =
    came_link_at_nowhere g.F.FileSystem c.args.files.now (known_of c.args.memory.now) c.args.asker c.args.file c.args.parent c.args.path.now

pub returns-in-Ok-ask_done : goal.returns-in-Ok-ask_done
returns-in-Ok-ask_done g c =
    let asked = came_by g.F.FileSystem c.args.files.now c.ask_done.new.files told_done (command.Path (call.Link c.in-Ok.old.items c.args.path.now)) c.link.result (Ok tt)
    (c.link.ensures ∙ ap (λ p. command.Path (call.Link p c.args.path.now)) c.deref.ensures.value) c.in-Ok-ask_done.ensures in
    let told : Told = (c.tell_linked.result, known_of c.tell_linked.new.memory) in
    came_link_at g.F.FileSystem c.args.files.now c.ask_done.new.files c.tell_linked.new.files (known_of c.args.memory.now) c.args.asker c.args.file c.args.parent c.args.path.now c.in-Ok.old.items told (record { starts = c.in-Ok.ensures.starts; goes_on = c.in-Ok.ensures.goes_on; one_name = c.in-Ok.ensures.one_name }) asked
    (came_path g.F.FileSystem c.ask_done.new.files c.tell_linked.new.files {R = Told} (λ (p : List ℕ). spec.tell_linked (known_of c.args.memory.now) c.args.asker c.args.file c.args.parent p) c.deref-in-Ok-ask_done.result.now c.in-Ok.old.items told c.deref-in-Ok-ask_done.ensures.value c.tell_linked.ensures)

pub returns : goal.returns
returns g c =
    let asked = came_by g.F.FileSystem c.args.files.now c.ask_done.new.files told_done (command.Path (call.Link c.in-Ok.old.items c.args.path.now)) c.link.result (Err c.in-Err.errno)
    (c.link.ensures ∙ ap (λ p. command.Path (call.Link p c.args.path.now)) c.deref.ensures.value) c.in-Err.ensures in
    came_link_at_refused g.F.FileSystem c.args.files.now c.ask_done.new.files (known_of c.args.memory.now) c.args.asker c.args.file c.args.parent c.args.path.now c.in-Ok.old.items c.in-Err.errno (record { starts = c.in-Ok.ensures.starts; goes_on = c.in-Ok.ensures.goes_on; one_name = c.in-Ok.ensures.one_name }) asked
