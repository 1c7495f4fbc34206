use Rattle.std.proofs.Common.{false, refl}
use Rattle.std.proofs.lemmas.Bool.{false≢true}
use Rattle.model.specs.declared.command.Command.TheVariants.{Statfs}
use Rattle.mount.proofs.AttemptLemmas.{has_room, room_at, still_going, told_room}
use Rattle.mount.proofs.LogLemmas.{idle_logs}
use Rattle.mount.proofs.fs.Fs.usage.Goals as goal

pub returns-clause-applied : goal.returns-clause-applied
returns-clause-applied g c s serves runs =
    let fs = c.args.self.now in
    let served = serves.kept (still_going fs s serves runs) in
    let room = room_at fs.system s served false in
    let has = has_room fs.system s served false (λ e. absurd (false≢true e)) in
    let step = c.usage.ensures s.tree.descriptors s served room refl refl (record { costs = refl; pledged = refl; covered = λ e. absurd (false≢true e) }) in
    told_room fs s serves runs room has Statfs _ tt step (c.served_states_open.ensures s.tree.descriptors s served)

pub returns-clause-logs : goal.returns-clause-logs
returns-clause-logs g c s served =
    let fs = c.args.self.now in
    let room = room_at fs.system s served false in
    let step = c.usage.ensures s.tree.descriptors s served room refl refl (record { costs = refl; pledged = refl; covered = λ e. absurd (false≢true e) }) in
    idle_logs {G = g.S.Station} fs.system s served room Statfs _ step
