use Rattle.std.proofs.Common.{rules}
use borrow.Author.Tests.{tests}
use Rattle.paths.proofs.Numerals.{number_read, numeral_is_text}
use Rattle.paths.proofs.text.number_named.Goals as goal

pub returns-in_default : goal.returns-in_default
returns-in_default c = absurd (c.in_default.ensures.cases.0 (numeral_is_text _ (search (rules, tests))))

pub returns : goal.returns
returns c =
    number_read c.args.part.now c.in-Ok.text.now c.parse.result c.ok.result (search (rules, tests)) c.in-Ok.ensures.cases.0 (search (rules, tests)) c.parse.ensures.value.0 c.ok.ensures.value
