use Rattle.script.proofs.NumberLemmas.{count_is_text, count_read}
use Rattle.script.proofs.numbers.parse_count.Goals as goal

pub returns-in_default : goal.returns-in_default
returns-in_default c = λ n fits e. absurd (c.in_default.ensures.cases.0 (count_is_text c.args.word.now n fits e))

pub returns : goal.returns
returns c = λ n fits e. count_read c.args.word.now c.in-Ok.text.now c.parse.result c.ok.result n c.in-Ok.ensures.cases.0 c.parse.ensures.value.0 c.ok.ensures.value fits e
