use Rattle.std.proofs.Common.{◌∙◌, ap}
use Rattle.std.specs.Prelude.{option_and_then}
use Rattle.std.specs.Str.Parse.{ExplainsUnsignedError, HasUnsignedDigitsIfOk, ParsesUnsigned}
use Rattle.clap.proofs.WalkLemmas.{one_text-rows}
use Rattle.command_line.proofs.ValueLemmas.{number_read}
use Rattle.command_line.specs.Values.{spelled_number}
use Rattle.clap.specs.Words.{found_of}
use Rattle.command_line.proofs.values.number.Goals as goal

pub returns : goal.returns
returns c = number_read (λ bs r. ParsesUnsigned 32 10 bs r × ExplainsUnsignedError 10 bs r × HasUnsignedDigitsIfOk bs r) _ _ (λ t x g. g.0) c.get_one.ensures.none c.get_one.ensures.value ∙ ap (option_and_then spelled_number) (one_text-rows (found_of c.args.matches.now) c.args.id.now)
