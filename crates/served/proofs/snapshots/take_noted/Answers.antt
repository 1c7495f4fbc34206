use Rattle.std.proofs.Common.{Ok, Err, ap}
use Rattle.model.specs.declared.command.Command.TheVariants as command
use Rattle.served.specs.Known.{Known, known_of}
use Rattle.served.specs.Snapshots.{look_up_snapshot, take_noted}
use Rattle.served.specs.Turns.{gives, told_done}
use Rattle.served.specs.declared.answer.Answer.{Answer}
use Rattle.served.specs.declared.answer.Answer.TheVariants as answer
use Rattle.served.proofs.TurnLaws.{came_done, came_gives, came_given, came_refused, came_by, came_then}
use Rattle.served.proofs.snapshots.take_noted.Goals as goal

pub returns-in-Ok : goal.returns-in-Ok
unfolding take_noted
returns-in-Ok g c =
    let G = g.F.FileSystem in
    let k = known_of c.args.memory.now in
    came_done G c.args.files.now c.ask_done.new.files c.look_up_snapshot.new.files told_done (command.SnapTake c.args.name.now) _ _ c.in-Ok.field-0 _
    (came_by G c.args.files.now c.ask_done.new.files told_done (command.SnapTake c.args.name.now) c.snap_take.result (Ok c.in-Ok.field-0) c.snap_take.ensures c.in-Ok.ensures)
    (came_then G c.ask_done.new.files c.look_up_snapshot.new.files c.look_up_snapshot.new.files (look_up_snapshot k c.args.name.now) (λ (told : Answer). gives (told, k)) c.look_up_snapshot.result (c.look_up_snapshot.result, k)
    c.look_up_snapshot.ensures (came_gives G c.look_up_snapshot.new.files (c.look_up_snapshot.result, k)))

pub returns-in-Err : goal.returns-in-Err
unfolding take_noted
returns-in-Err g c =
    let G = g.F.FileSystem in
    came_refused G c.args.files.now c.ask_done.new.files c.ask_done.new.files told_done (command.SnapTake c.args.name.now) _ _ c.in-Err.errno _
    (came_by G c.args.files.now c.ask_done.new.files told_done (command.SnapTake c.args.name.now) c.snap_take.result (Err c.in-Err.errno) c.snap_take.ensures c.in-Err.ensures)
    (came_given G c.ask_done.new.files _ _ (ap (λ (k : Known). (answer.Refused c.in-Err.errno, k)) c.drop_snapshot.ensures))
