use Rattle.std.proofs.Common.{◌≡◌, arith, subst, sym, Result}
use Rattle.std.specs.Prelude.{IfErr, IfOk, MatchResult}
use Rattle.model.specs.Circumstances.{IsSure}
use Rattle.model.specs.States.{State}
use Rattle.model.specs.declared.errno.Errno.{Errno}
use Rattle.snapshots.specs.Prepared.{Refuses, command_of, command_prepared}
use Rattle.snapshots.specs.declared.preparing.PreparedSnapshot.{PreparedSnapshot}
use Rattle.snapshots.specs.declared.preparing.SnapshotRequest.{SnapshotRequest}
use Rattle.snapshots.specs.declared.preparing.SnapshotRequest.TheVariants.{Delete, Restore, Take}
use Rattle.system.specs.Serving.{IsNoFault}
use Rattle.system.specs.CheckpointCommands.{IsPrepared}
use Rattle.mount.specs.Systems.{Serves, mounted}
use Rattle.mount.proofs.AnswerLemmas.{answers_so, behind_that}
use Rattle.mount.proofs.AttemptLemmas.{still_going}
use Rattle.mount.proofs.LogLemmas.{logs_kept}
use Rattle.mount.proofs.PointLemmas.{glance_fails, glance_keeps, glance_refuses}
use Rattle.mount.proofs.fs.Fs.snapshot.Goals as goal

not_sure : (r : SnapshotRequest) (s : State) → ¬ IsSure s (command_of r)
not_sure (Take name) s sure = sure
not_sure (Delete name) s sure = sure
not_sure (Restore name) s sure = sure

pub returns-in-Ok-Ok : goal.returns-in-Ok-Ok
returns-in-Ok-Ok g c =
    let fs = c.args.self.now in
    let r = c.args.request.now in
    let told = c.in-Ok-Ok.ensures in
    let p = c.in-Ok-Ok.prepared in
    let keeps = glance_keeps {G = g.S.Station} fs _ c.requires c.requires (λ t here. c.served_states_open.ensures t.tree.descriptors t here) _ told.glances in
    let same : command_prepared p ≡ command_of r = subst (λ (x : Result PreparedSnapshot Errno). IfOk x (λ q. command_prepared q ≡ command_of r)) c.in-Ok-Ok.field-0-is told.same in
    let leads = λ (s : State) (serves : Serves (mounted {G = g.S.Station} fs s)) (_ : Unit {0}).
    subst (λ (x : Result PreparedSnapshot Errno). MatchResult x (IsPrepared {G = g.S.Station} c.prepare_snapshot.new.self s) (Refuses s (command_of r))) c.in-Ok-Ok.field-0-is
    (told.tests s (serves.kept (still_going _ s serves c.requires))) in
    let then = answers_so 2 (λ s. IsPrepared {G = g.S.Station} c.prepare_snapshot.new.self s p) _ c.make_snapshot.new.self (command_prepared p) (command_of r) c.make_snapshot.result (sym same)
    c.make_snapshot.ensures in
    behind_that 2 0 2 _ _ fs _ _ (command_of r) c.make_snapshot.result (omega arith) c.requires keeps then
    (logs_kept 2 _ _ fs _ _ (command_of r) c.make_snapshot.result then leads keeps told.glances.serves) leads (λ s serves _. not_sure r s)

pub returns-in-Ok-Err : goal.returns-in-Ok-Err
returns-in-Ok-Err g c =
    let told = c.in-Ok-Err.ensures in
    let r = c.args.request.now in
    glance_refuses {G = g.S.Station} c.args.self.now _ c.requires c.requires (λ t here. c.served_states_open.ensures t.tree.descriptors t here) 2 (command_of r) (not_sure r) _
    c.in-Ok-Err.errno told.glances (subst (λ (x : Result PreparedSnapshot Errno). IfErr x IsNoFault) c.in-Ok-Err.field-0-is told.own)
    (λ s served. subst (λ (x : Result PreparedSnapshot Errno). MatchResult x (IsPrepared {G = g.S.Station} c.prepare_snapshot.new.self s) (Refuses s (command_of r))) c.in-Ok-Err.field-0-is (told.tests s served))

pub returns-in-Err : goal.returns-in-Err
returns-in-Err g c =
    glance_fails {G = g.S.Station} c.args.self.now _ c.requires c.requires (λ t here. c.served_states_open.ensures t.tree.descriptors t here) 2 (command_of c.args.request.now) (not_sure c.args.request.now)
    c.in-Err.error _ c.errno_of_call.ensures c.in-Err.ensures.glances (c.args.self.now.runs c.requires)
