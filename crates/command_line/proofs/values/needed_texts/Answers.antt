use Rattle.std.proofs.Common.{◌∙◌, sym, ap}
use Rattle.clap.proofs.WalkLemmas.{raw_values-rows}
use Rattle.clap.specs.Words.{found_of}
use Rattle.command_line.proofs.ReadingLemmas.{misunderstood_refuses}
use Rattle.command_line.specs.Values.{needed}
use Rattle.command_line.proofs.values.needed_texts.Goals as goal

pub returns-in-Some : goal.returns-in-Some
returns-in-Some c = ap needed (sym (raw_values-rows (found_of c.args.matches.now) c.args.id.now) ∙ sym c.in-Some.ensures)

pub returns-in-None : goal.returns-in-None
returns-in-None c =
    misunderstood_refuses _ _ (ap needed (sym (raw_values-rows (found_of c.args.matches.now) c.args.id.now) ∙ sym c.in-None.ensures)) c.missing.ensures
