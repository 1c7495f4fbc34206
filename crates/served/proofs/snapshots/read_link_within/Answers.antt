use Rattle.std.proofs.Common.{[], Ok, Err, refl, rules}
use Rattle.model.specs.declared.command.Command.TheVariants as command
use Rattle.model.specs.declared.command.PathCall.TheVariants as call
use Rattle.model.specs.declared.reply.Reply.TheVariants as reply
use Rattle.served.specs.Known.{seen_of}
use Rattle.served.specs.Looking.{no_memory}
use Rattle.served.specs.Snapshots.{read_link_within}
use Rattle.served.specs.Turns.{LeadsFrom}
use Rattle.served.proofs.TurnLaws.{came_along, came_done, came_given, came_nowhere, came_refused, came_by}
use Rattle.served.proofs.snapshots.read_link_within.Goals as goal

pub returns-in_default : goal.returns-in_default
unfolding read_link_within
returns-in_default g c = came_nowhere g.F.FileSystem c.args.files.now no_memory c.args.number [] _

pub returns-in-Ok-ask_text : goal.returns-in-Ok-ask_text
unfolding read_link_within
returns-in-Ok-ask_text g c =
    let G = g.F.FileSystem in
    let leads : LeadsFrom c.args.number [] c.in-Ok.path.items = record { starts = c.in-Ok.ensures.starts; goes_on = c.in-Ok.ensures.goes_on; one_name = c.in-Ok.ensures.one_name } in
    let asked = command.Within (seen_of c.args.snapshot.now).name (call.Readlink c.in-Ok.path.items) in
    came_along G c.args.files.now c.ask_text.new.files no_memory c.args.number [] c.in-Ok.path.items _ _ leads
    (came_done G c.args.files.now c.ask_text.new.files c.ask_text.new.files reply.Text asked _ _ c.in-Ok-ask_text.text _
    (came_by G c.args.files.now c.ask_text.new.files reply.Text asked c.readlink_within.result (Ok c.in-Ok-ask_text.text) (search rules) c.in-Ok-ask_text.ensures)
    (came_given G c.ask_text.new.files _ _ refl))

pub returns : goal.returns
unfolding read_link_within
returns g c =
    let G = g.F.FileSystem in
    let leads : LeadsFrom c.args.number [] c.in-Ok.path.items = record { starts = c.in-Ok.ensures.starts; goes_on = c.in-Ok.ensures.goes_on; one_name = c.in-Ok.ensures.one_name } in
    let asked = command.Within (seen_of c.args.snapshot.now).name (call.Readlink c.in-Ok.path.items) in
    came_along G c.args.files.now c.ask_text.new.files no_memory c.args.number [] c.in-Ok.path.items _ _ leads
    (came_refused G c.args.files.now c.ask_text.new.files c.ask_text.new.files reply.Text asked _ _ c.in-Err.errno _
    (came_by G c.args.files.now c.ask_text.new.files reply.Text asked c.readlink_within.result (Err c.in-Err.errno) (search rules) c.in-Err.ensures)
    (came_given G c.ask_text.new.files _ _ refl))
