use Rattle.std.proofs.Common.{Ok, Err, true, bit_and, ◌%◌, ◌∙◌}
use Rattle.std.proofs.lemmas.Bool.{eq-eqb, ne_eqb}
use Rattle.served.specs.declared.making.TheConstants.{FILE_KIND, KIND_BITS}
use Rattle.std.proofs.Math.Path.{ap₂}
use Rattle.model.specs.declared.command.Command.TheVariants as command
use Rattle.model.specs.declared.limits.TheConstants.{OPEN_FILES}
use Rattle.served.specs.Commands.{opening}
use Rattle.served.specs.Known.{known_of}
use Rattle.served.specs.Making as spec
use Rattle.served.specs.Turns.{told_open}
use Rattle.served.proofs.TurnLaws.{came_by}
use Rattle.served.proofs.MakingLaws.{came_node, came_unclosed, came_node_refused, came_node_unplaced, came_no_file}
use Rattle.served.proofs.making.make_node.Goals as goal

pub returns-then-mode-ne-FILE_KIND : goal.returns-then-mode-ne-FILE_KIND
returns-then-mode-ne-FILE_KIND g c =
    came_no_file g.F.FileSystem c.args.files.now (known_of c.args.memory.now) c.args.asker c.args.parent c.args.name.now c.args.mode (ne_eqb (bit_and c.args.mode KIND_BITS) FILE_KIND c.if-mode-ne-FILE_KIND.true)

pub returns-in-Err : goal.returns-in-Err
returns-in-Err g c =
    came_node_unplaced g.F.FileSystem c.args.files.now c.prepare.new.files (known_of c.args.memory.now) c.args.asker c.args.parent c.args.name.now c.args.mode c.in-Err.errno (eq-eqb (bit_and c.args.mode KIND_BITS) FILE_KIND c.if-mode-ne-FILE_KIND.false) c.in-Err.ensures

pub returns-in-Ok-ask_done : goal.returns-in-Ok-ask_done
returns-in-Ok-ask_done g c =
    let asked = came_by g.F.FileSystem c.prepare.new.files c.ask_opened.new.files told_open (command.OpenStat c.in-Ok.new.path.items (opening true true) (c.args.mode % 4096) OPEN_FILES) c.open_stat.result (Ok (c.in-Ok-ask_opened.fd, c.in-Ok-ask_opened.stat))
    (c.open_stat.ensures ∙ ap₂ (λ p m. command.OpenStat p (opening true true) m OPEN_FILES) c.deref.ensures.value c.mode_of.ensures) c.in-Ok-ask_opened.ensures in
    came_node g.F.FileSystem c.args.files.now c.prepare.new.files c.ask_opened.new.files c.ask_done.new.files (known_of c.args.memory.now) c.args.asker c.args.parent c.args.name.now c.args.mode (spec.place_of c.in-Ok.new) c.in-Ok-ask_opened.fd c.in-Ok-ask_opened.stat c.made-entry.result
    (known_of c.made-entry.new.memory) (eq-eqb (bit_and c.args.mode KIND_BITS) FILE_KIND c.if-mode-ne-FILE_KIND.false) c.in-Ok.ensures asked c.made-entry.ensures c.in-Ok-ask_done.ensures

pub returns-in-Ok-ask_opened : goal.returns-in-Ok-ask_opened
returns-in-Ok-ask_opened g c =
    let asked = came_by g.F.FileSystem c.prepare.new.files c.ask_opened.new.files told_open (command.OpenStat c.in-Ok.new.path.items (opening true true) (c.args.mode % 4096) OPEN_FILES) c.open_stat.result (Ok (c.in-Ok-ask_opened.fd, c.in-Ok-ask_opened.stat))
    (c.open_stat.ensures ∙ ap₂ (λ p m. command.OpenStat p (opening true true) m OPEN_FILES) c.deref.ensures.value c.mode_of.ensures) c.in-Ok-ask_opened.ensures in
    came_unclosed g.F.FileSystem c.args.files.now c.prepare.new.files c.ask_opened.new.files c.ask_done.new.files (known_of c.args.memory.now) c.args.asker c.args.parent c.args.name.now c.args.mode (spec.place_of c.in-Ok.new) c.in-Ok-ask_opened.fd c.in-Ok-ask_opened.stat c.made-entry.result
    (known_of c.made-entry.new.memory) c.in-Err-ask_done.errno (eq-eqb (bit_and c.args.mode KIND_BITS) FILE_KIND c.if-mode-ne-FILE_KIND.false) c.in-Ok.ensures asked c.made-entry.ensures c.in-Err-ask_done.ensures

pub returns : goal.returns
returns g c =
    let asked = came_by g.F.FileSystem c.prepare.new.files c.ask_opened.new.files told_open (command.OpenStat c.in-Ok.new.path.items (opening true true) (c.args.mode % 4096) OPEN_FILES) c.open_stat.result (Err c.in-Err-ask_opened.errno)
    (c.open_stat.ensures ∙ ap₂ (λ p m. command.OpenStat p (opening true true) m OPEN_FILES) c.deref.ensures.value c.mode_of.ensures) c.in-Err-ask_opened.ensures in
    came_node_refused g.F.FileSystem c.args.files.now c.prepare.new.files c.ask_opened.new.files (known_of c.args.memory.now) c.args.asker c.args.parent c.args.name.now c.args.mode (spec.place_of c.in-Ok.new) c.in-Err-ask_opened.errno (eq-eqb (bit_and c.args.mode KIND_BITS) FILE_KIND c.if-mode-ne-FILE_KIND.false) c.in-Ok.ensures asked
