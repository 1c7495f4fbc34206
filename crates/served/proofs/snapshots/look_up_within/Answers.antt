use Rattle.std.proofs.Common.{Ok, Err, rules}
use Rattle.model.specs.declared.command.Command.TheVariants as command
use Rattle.model.specs.declared.command.PathCall.TheVariants as call
use Rattle.model.specs.declared.reply.Reply.TheVariants as reply
use Rattle.served.specs.Known.{seen_of}
use Rattle.served.specs.Looking.{no_memory}
use Rattle.served.specs.Snapshots.{look_up_within}
use Rattle.served.specs.Turns.{LeadsFrom}
use Rattle.served.proofs.TurnLaws.{came_along, came_done, came_given, came_nowhere, came_refused, came_by}
use Rattle.served.proofs.snapshots.look_up_within.Goals as goal

pub returns-in_default : goal.returns-in_default
unfolding look_up_within
returns-in_default g c = came_nowhere g.F.FileSystem c.args.files.now no_memory c.args.parent c.args.name.now _

pub returns-in-Ok-ask_stat : goal.returns-in-Ok-ask_stat
unfolding look_up_within
returns-in-Ok-ask_stat g c =
    let G = g.F.FileSystem in
    let leads : LeadsFrom c.args.parent c.args.name.now c.in-Ok.path.items = record { starts = c.in-Ok.ensures.starts; goes_on = c.in-Ok.ensures.goes_on; one_name = c.in-Ok.ensures.one_name } in
    let asked = command.Within (seen_of c.args.snapshot.now).name (call.Lstat c.in-Ok.path.items) in
    came_along G c.args.files.now c.ask_stat.new.files no_memory c.args.parent c.args.name.now c.in-Ok.path.items _ _ leads
    (came_done G c.args.files.now c.ask_stat.new.files c.ask_stat.new.files reply.Stat asked _ _ c.in-Ok-ask_stat.stat _
    (came_by G c.args.files.now c.ask_stat.new.files reply.Stat asked c.lstat_within.result (Ok c.in-Ok-ask_stat.stat) (search rules) c.in-Ok-ask_stat.ensures)
    (came_given G c.ask_stat.new.files _ c.entry_within.result c.entry_within.ensures))

pub returns : goal.returns
unfolding look_up_within
returns g c =
    let G = g.F.FileSystem in
    let leads : LeadsFrom c.args.parent c.args.name.now c.in-Ok.path.items = record { starts = c.in-Ok.ensures.starts; goes_on = c.in-Ok.ensures.goes_on; one_name = c.in-Ok.ensures.one_name } in
    let asked = command.Within (seen_of c.args.snapshot.now).name (call.Lstat c.in-Ok.path.items) in
    came_along G c.args.files.now c.ask_stat.new.files no_memory c.args.parent c.args.name.now c.in-Ok.path.items _ _ leads
    (came_refused G c.args.files.now c.ask_stat.new.files c.ask_stat.new.files reply.Stat asked _ _ c.in-Err.errno _
    (came_by G c.args.files.now c.ask_stat.new.files reply.Stat asked c.lstat_within.result (Err c.in-Err.errno) (search rules) c.in-Err.ensures)
    (came_given G c.ask_stat.new.files _ c.missing.result c.missing.ensures))
