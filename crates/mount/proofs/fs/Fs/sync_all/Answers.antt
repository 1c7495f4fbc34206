use Rattle.std.proofs.Common.{arith, inl, refl}
use Rattle.station.proofs.Moments.{same_none, started}
use Rattle.model.specs.declared.command.Command.TheVariants.{Sync}
use Rattle.model.specs.declared.reply.Reply.TheVariants.{Done}
use Rattle.system.specs.Images.{OpensTo}
use Rattle.system.specs.Systems.{meaning_of}
use Rattle.mount.proofs.AnswerLemmas as answers
use Rattle.mount.proofs.AnswerLemmas.{at_once}
use Rattle.mount.proofs.ApplyLemmas.{no_room}
use Rattle.mount.proofs.LogLemmas.{idle_logs}
use Rattle.mount.proofs.PointLemmas.{synced_by}
use Rattle.mount.proofs.AttemptLemmas.{stays_by, still_going, synced}
use Rattle.mount.proofs.fs.Fs.sync_all.Goals as goal

pub returns-then-is_covered : goal.returns-then-is_covered
returns-then-is_covered g c =
    let fs = c.args.self.now in
    let m = meaning_of fs.system in
    at_once 2 _ fs Sync Done tt (λ is. cc) (λ is. cc) (λ s serves _ accepted served. idle_logs fs.system s served no_room Sync Done (refl, refl, refl)) (λ s serves young _.
    let served = serves.kept (still_going fs s serves c.requires) in
    let opens = c.served_states_open.ensures s.tree.descriptors s served in
    synced fs fs s serves c.requires (stays_by fs fs s serves c.requires (same_none m) c.requires served (started m (OpensTo m s) opens)) (inl refl) refl
    (c.is_covered.ensures.covers s.tree.descriptors s served c.if-is_covered.true))

pub returns-in-Ok : goal.returns-in-Ok
returns-in-Ok g c = synced_by 2 c.args.self.now _ c.requires (omega arith) c.in-Ok.ensures.made

pub returns-in-Err : goal.returns-in-Err
returns-in-Err g c = answers.no_room 2 _ _ _ Sync c.in-Err.errno (omega arith) c.in-Err.ensures (λ s _ no. no)
