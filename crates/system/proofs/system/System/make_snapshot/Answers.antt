use Rattle.std.proofs.Common.{◌≡◌, subst, sym}
use Rattle.snapshots.specs.Prepared.{command_prepared}
use Rattle.snapshots.specs.declared.preparing.PreparedSnapshot.{PreparedSnapshot}
use Rattle.snapshots.specs.declared.preparing.PreparedSnapshot.TheVariants.{Delete, Restore, Take}
use Rattle.system.specs.CheckpointCommands.{IsPrepared, Checkpoints}
use Rattle.system.proofs.system.System.make_snapshot.Goals as goal

pub returns-in-Take : goal.returns-in-Take
returns-in-Take g c =
    let is : c.args.prepared.now ≡ Take c.in-Take.name c.in-Take.taking = cc in
    subst (λ (p : PreparedSnapshot).
    Checkpoints {G = g.S.Station} c.args.self.now c.take.new.self (λ s. IsPrepared {G = g.S.Station} c.args.self.now s p) (command_prepared p) c.take.result)
    (sym is) c.take.ensures

pub returns-in-Delete : goal.returns-in-Delete
returns-in-Delete g c =
    let is : c.args.prepared.now ≡ Delete c.in-Delete.name c.in-Delete.found = cc in
    subst (λ (p : PreparedSnapshot).
    Checkpoints {G = g.S.Station} c.args.self.now c.delete.new.self (λ s. IsPrepared {G = g.S.Station} c.args.self.now s p) (command_prepared p) c.delete.result)
    (sym is) c.delete.ensures

pub returns-in-Restore : goal.returns-in-Restore
returns-in-Restore g c =
    let is : c.args.prepared.now ≡ Restore c.in-Restore.name c.in-Restore.found = cc in
    subst (λ (p : PreparedSnapshot).
    Checkpoints {G = g.S.Station} c.args.self.now c.restore.new.self (λ s. IsPrepared {G = g.S.Station} c.args.self.now s p) (command_prepared p) c.restore.result)
    (sym is) c.restore.ensures
