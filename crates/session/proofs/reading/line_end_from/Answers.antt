use Rattle.session.proofs.ReadingLemmas.{ends_behind, plain_behind}
use Rattle.session.proofs.reading.line_end_from.Goals as goal

pub returns-in-Some-clause-found : goal.returns-in-Some-clause-found
returns-in-Some-clause-found c = ends_behind c.args.bytes.now c.args.plain c.requires.plain c.in-Some.end c.in-Some.ensures.found

pub returns-in-None-clause-none : goal.returns-in-None-clause-none
returns-in-None-clause-none c = λ _. plain_behind c.args.bytes.now c.args.plain c.requires.plain (c.in-None.ensures.none search)
