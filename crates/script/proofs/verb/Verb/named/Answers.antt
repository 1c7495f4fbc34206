use Rattle.script.proofs.VerbLemmas.{no_verb}
use Rattle.script.proofs.verb.Verb.named.Goals as goal

pub returns-clause-none : goal.returns-clause-none
returns-clause-none c = no_verb c.find.result c.args.word.now c.find.ensures.none
