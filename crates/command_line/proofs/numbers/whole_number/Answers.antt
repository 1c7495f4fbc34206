use Rattle.std.proofs.Common.{◌∙◌}
use Rattle.command_line.proofs.ValueLemmas.{number_parsed}
use Rattle.command_line.proofs.numbers.whole_number.Goals as goal

pub returns : goal.returns
returns c = c.ok.ensures.value ∙ number_parsed c.args.text.now c.parse.result c.parse.ensures.value.0
