use Rattle.std.proofs.Common.{Bool, Ok, subst}
use Rattle.model.specs.Circumstances.{IsSure}
use Rattle.model.specs.Replies.{IsReplyTo}
use Rattle.model.specs.States.{State}
use Rattle.model.specs.declared.reply.Reply.TheVariants.{Done}
use Rattle.snapshots.specs.Prepared.{command_prepared}
use Rattle.snapshots.specs.declared.preparing.PreparedSnapshot.{PreparedSnapshot}
use Rattle.snapshots.specs.declared.preparing.PreparedSnapshot.TheVariants.{Delete, Restore, Take}
use Rattle.system.specs.CheckpointCommands.{IsPrepared, Checkpoints}
use Rattle.mount.proofs.PointLemmas.{checkpoint_done, checkpoint_not_made, settles_short}
use Rattle.mount.proofs.fs.Fs.make_snapshot.Goals as goal

not_sure : (p : PreparedSnapshot) (s : State) → ¬ IsSure s (command_prepared p)
not_sure (Take name taking) s sure = sure
not_sure (Delete name found) s sure = sure
not_sure (Restore name found) s sure = sure

done : (p : PreparedSnapshot) → IsReplyTo (command_prepared p) Done
done (Take name taking) = tt
done (Delete name found) = tt
done (Restore name found) = tt

pub returns-in-Ok-true : goal.returns-in-Ok-true
returns-in-Ok-true g c =
    let p = c.args.prepared.now in
    let f = c.args.self.now.system in
    let told = subst (λ (b : Bool). Checkpoints {G = g.S.Station} f c.make_snapshot.new.self (λ s. IsPrepared {G = g.S.Station} f s p) (command_prepared p) (Ok b)) c.in-Ok-true.field-0-test c.in-Ok-true.ensures in
    checkpoint_done {G = g.S.Station} _ c.args.self.now _ (command_prepared p) c.requires.going (not_sure p) (done p) told c.requires.going
    (λ t here. c.served_states_open.ensures t.tree.descriptors t here)

pub returns-in-Ok-false : goal.returns-in-Ok-false
returns-in-Ok-false g c =
    let p = c.args.prepared.now in
    let f = c.args.self.now.system in
    let told = subst (λ (b : Bool). Checkpoints {G = g.S.Station} f c.make_snapshot.new.self (λ s. IsPrepared {G = g.S.Station} f s p) (command_prepared p) (Ok b)) c.in-Ok-false.field-0-test c.in-Ok-false.ensures in
    settles_short {G = g.S.Station} _ c.args.self.now _ (command_prepared p) c.requires.going (not_sure p) told c.requires.going

pub returns-in-Err : goal.returns-in-Err
returns-in-Err g c =
    let p = c.args.prepared.now in
    checkpoint_not_made {G = g.S.Station} _ c.args.self.now _ (command_prepared p) c.requires.going (not_sure p) c.in-Err.error _ c.errno_of_point.ensures c.in-Err.ensures c.fails_point-self.ensures
