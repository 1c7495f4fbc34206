use Rattle.script.proofs.DataLemmas.{decoded, not_decoded}
use Rattle.script.proofs.words.decode.Goals as goal

pub returns-in_default-clause-refused : goal.returns-in_default-clause-refused
returns-in_default-clause-refused c = λ _ bs good e. not_decoded c.args.word.now bs c.in-Err.error (decoded c.args.word.now bs good e) c.in_default.not-OutOfMemory c.in-Err.ensures.err
