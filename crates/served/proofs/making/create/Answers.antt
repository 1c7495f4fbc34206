use Rattle.std.proofs.Common.{Ok, Err, true, not, bit_and, ◌==◌, ◌%◌, ◌∙◌}
use Rattle.std.proofs.Math.Path.{ap₂}
use Rattle.model.specs.declared.command.Command.TheVariants as command
use Rattle.model.specs.declared.limits.TheConstants.{OPEN_FILES}
use Rattle.served.specs.Commands.{opening}
use Rattle.served.specs.Known.{known_of}
use Rattle.served.specs.Making as spec
use Rattle.served.specs.Turns.{told_open}
use Rattle.served.specs.declared.making.TheConstants.{EXCLUSIVE}
use Rattle.served.proofs.TurnLaws.{came_by}
use Rattle.served.proofs.MakingLaws.{came_created, came_uncreated, came_create_unplaced}
use Rattle.served.proofs.making.create.Goals as goal

pub returns-in-Err : goal.returns-in-Err
returns-in-Err g c =
    came_create_unplaced g.F.FileSystem c.args.files.now c.prepare.new.files (known_of c.args.memory.now) c.args.asker c.args.parent c.args.name.now c.args.mode c.args.flags c.in-Err.errno c.in-Err.ensures

pub returns-in-Ok-ask_opened : goal.returns-in-Ok-ask_opened
returns-in-Ok-ask_opened g c =
    let asked = came_by g.F.FileSystem c.prepare.new.files c.ask_opened.new.files told_open (command.OpenStat c.in-Ok.new.path.items (opening true (not (bit_and c.args.flags EXCLUSIVE == 0))) (c.args.mode % 4096) OPEN_FILES) c.open_stat.result (Ok (c.in-Ok-ask_opened.fd, c.in-Ok-ask_opened.stat))
    (c.open_stat.ensures ∙ ap₂ (λ p m. command.OpenStat p (opening true (not (bit_and c.args.flags EXCLUSIVE == 0))) m OPEN_FILES) c.deref.ensures.value c.mode_of.ensures) c.in-Ok-ask_opened.ensures in
    came_created g.F.FileSystem c.args.files.now c.prepare.new.files c.ask_opened.new.files (known_of c.args.memory.now) c.args.asker c.args.parent c.args.name.now c.args.mode c.args.flags (spec.place_of c.in-Ok.new) c.in-Ok-ask_opened.fd c.in-Ok-ask_opened.stat c.made-entry.result
    (known_of c.made-entry.new.memory) c.opened.result c.in-Ok.ensures asked c.made-entry.ensures c.opened.ensures

pub returns : goal.returns
returns g c =
    let asked = came_by g.F.FileSystem c.prepare.new.files c.ask_opened.new.files told_open (command.OpenStat c.in-Ok.new.path.items (opening true (not (bit_and c.args.flags EXCLUSIVE == 0))) (c.args.mode % 4096) OPEN_FILES) c.open_stat.result (Err c.in-Err-ask_opened.errno)
    (c.open_stat.ensures ∙ ap₂ (λ p m. command.OpenStat p (opening true (not (bit_and c.args.flags EXCLUSIVE == 0))) m OPEN_FILES) c.deref.ensures.value c.mode_of.ensures) c.in-Err-ask_opened.ensures in
    came_uncreated g.F.FileSystem c.args.files.now c.prepare.new.files c.ask_opened.new.files (known_of c.args.memory.now) c.args.asker c.args.parent c.args.name.now c.args.mode c.args.flags (spec.place_of c.in-Ok.new) c.in-Err-ask_opened.errno c.in-Ok.ensures asked
