use Rattle.std.proofs.Common.{List, ℕ, subst, refl}
use Rattle.model.specs.declared.command.Command.TheVariants as command
use Rattle.model.specs.declared.reply.Reply.TheVariants as reply
use Rattle.served.specs.Known.{known_of}
use Rattle.served.specs.Snapshots.{AreLearnt, Learnt, learns}
use Rattle.served.proofs.TurnLaws.{came_done, came_given, came_refused, came_some}
use Rattle.served.proofs.snapshots.learn_snapshots.Goals as goal

pub returns-in-Ok : goal.returns-in-Ok
unfolding learns
returns-in-Ok g c =
    let G = g.F.FileSystem in
    let k = known_of c.args.memory.now in
    let found : Learnt = (c.note_all.result, known_of c.note_all.new.memory) in
    came_done G c.args.files.now c.ask_snapshots.new.files c.ask_snapshots.new.files reply.Snaps command.SnapList _ _ c.in-Ok.names _ c.in-Ok.ensures
    (came_some G c.ask_snapshots.new.files (AreLearnt k c.in-Ok.names) found
    (subst (λ (names : List (List ℕ)). AreLearnt k names found) c.as_slice.ensures c.note_all.ensures))

pub returns-in-Err : goal.returns-in-Err
unfolding learns
returns-in-Err g c =
    let G = g.F.FileSystem in
    came_refused G c.args.files.now c.ask_snapshots.new.files c.ask_snapshots.new.files reply.Snaps command.SnapList _ _ c.in-Err.errno _ c.in-Err.ensures
    (came_given G c.ask_snapshots.new.files _ _ refl)
