use Rattle.std.proofs.Common.{arith}
use Rattle.std.specs.Prelude.{None}
use Rattle.std.proofs.lemmas.Str.Pattern.{strip_suffix_char}
use Rattle.command_line.proofs.ValueLemmas.{no_suffix}
use Rattle.command_line.proofs.numbers.digits.Goals as goal

pub returns : goal.returns
returns c =
    let w = c.args.word.now in
    no_suffix w
    (strip_suffix_char 107 w None c.in_default.ensures.cases (omega arith))
    (strip_suffix_char 75 w None c.in_default-strip_suffix.ensures.cases (omega arith))
    (strip_suffix_char 77 w None c.in_default-strip_suffix-2.ensures.cases (omega arith))
    (strip_suffix_char 71 w None c.in_default-strip_suffix-3.ensures.cases (omega arith))
