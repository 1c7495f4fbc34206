use Rattle.std.proofs.Common.{rules}
use Rattle.script.proofs.WordLemmas.{not_a_text}
use Rattle.script.proofs.words.read_text.Goals as goal

pub returns-in_err-byte-clause-refused : goal.returns-in_err-byte-clause-refused
returns-in_err-byte-clause-refused c = λ _. not_a_text c.args.word.now c.loop-rest.bytes.items c.loop-rest.rest.now (search rules) c.loop-rest.invariant.0 c.loop-rest.invariant.1 (search rules) (search rules)
