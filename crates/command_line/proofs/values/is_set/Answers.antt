use Rattle.std.proofs.Common.{◌∙◌, ap, codes, false}
use Rattle.std.specs.Option.{option_map_or}
use Rattle.std.specs.Str.{bytes_eq}
use Rattle.clap.proofs.WalkLemmas.{one_text-rows}
use Rattle.command_line.proofs.ValueLemmas.{flag_read}
use Rattle.clap.specs.Words.{found_of}
use Rattle.command_line.proofs.values.is_set.Goals as goal

pub returns : goal.returns
returns c = c.unwrap_or.ensures ∙ flag_read _ _ _ c.get_one.ensures.none c.get_one.ensures.value ∙ ap (λ o. option_map_or (λ t. bytes_eq t (codes "true")) o false) (one_text-rows (found_of c.args.matches.now) c.args.id.now)
