use Rattle.std.proofs.Common.{map}
use Rattle.command_line.proofs.ReadingLemmas.{without_matches}
use Rattle.command_line.proofs.line.read_others.Goals as goal

pub returns-in-Err : goal.returns-in-Err
returns-in-Err c =
    let words = map (λ w. w.now) c.args.words.now in
    let read = without_matches words c.args.wait _ c.answer_without_matches.result c.answer_without_matches.ensures.help c.answer_without_matches.ensures.memory c.answer_without_matches.ensures.refusal c.in-Err.ensures.fault in
    record { line = read.line; help = read.help; refusal = read.refusal }
