use Rattle.std.proofs.Common.{false, true, refl}
use Rattle.std.proofs.lemmas.Bool.{false≢true}
use Rattle.model.specs.Room.{Room}
use Rattle.system.specs.Room.{costs_on}
use Rattle.dispatch.proofs.StoredLaws.{holes_read, settled_tells, stored_tells}
use Rattle.dispatch.specs.Serving.{stored_of}
use Rattle.mount.proofs.AttemptLemmas.{still_going, told_room}
use Rattle.model.specs.declared.command.Command.TheVariants.{Df}
use Rattle.mount.proofs.LogLemmas.{idle_logs}
use Rattle.mount.proofs.OrphanLemmas.{orphans_of, orphans_told}
use Rattle.mount.proofs.fs.Fs.space.Goals as goal

pub returns-clause-applied : goal.returns-clause-applied
returns-clause-applied g c s serves runs =
    let fs = c.args.self.now in
    let served = serves.kept (still_going fs s serves runs) in
    let told = c.space-blocks.ensures in
    let room : Room = record { costs = costs_on fs.system; blocks = c.space-blocks.result.blocks; free = c.space-blocks.result.free; pledged = c.space-blocks.result.pledged; is_covered = false; orphans_of = orphans_of fs.system s served; stored = stored_of fs.system } in
    let opens = c.served_states_open.ensures s.tree.descriptors s served in
    told_room fs s serves runs room (record {
      serves = served;
      blocks = told.blocks;
      free = told.free s.tree.descriptors s served;
      told = told.told s.tree.descriptors s served (orphans_of fs.system s served) false (stored_of fs.system) (λ e. absurd (false≢true e));
      orphans = orphans_told fs.system s served;
      stored = stored_tells fs.system;
      settled = settled_tells fs.system;
      holes = holes_read fs.system s served;
    }) Df _ tt (refl, refl, refl) opens

pub returns-clause-logs : goal.returns-clause-logs
returns-clause-logs g c s served =
    let said = c.space-blocks.result in
    let room : Room = record { costs = costs_on c.args.self.now.system; blocks = said.blocks; free = said.free; pledged = said.pledged; is_covered = false; orphans_of = λ name. 0; stored = λ n k. true } in
    idle_logs {G = g.S.Station} c.args.self.now.system s served room Df _ (refl, refl, refl)
