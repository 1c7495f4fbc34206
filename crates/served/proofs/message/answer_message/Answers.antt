use Rattle.fuse.specs.Request.{request_of}
use Rattle.model.specs.declared.errno.Errno.TheVariants as errno
use Rattle.served.specs.Known.{known_of}
use Rattle.served.specs.Replying.{spelled}
use Rattle.served.proofs.ServingLaws.{answered, answered_none, asks_so, lost_so, refusal_by}
use Rattle.served.proofs.message.answer_message.Goals as goal

pub returns-in-Some-clause-answered : goal.returns-in-Some-clause-answered
returns-in-Some-clause-answered g c =
    let a = c.args in
    answered g.F.FileSystem a.durability a.files.now c.answer_in-answer.new.files (known_of a.memory.now) (known_of c.answer_in-answer.new.memory) a.now a.bytes.now (request_of c.in-Some.request) c.answer_in-answer.result
    c.in-Some.ensures.found c.in-Some.ensures.only c.answer_in-answer.ensures

pub returns-in-Some-clause-lost : goal.returns-in-Some-clause-lost
returns-in-Some-clause-lost g c =
    let unique = c.in-Some.request.head.unique in
    lost_so c.args.bytes.now (spelled unique c.answer_in-answer.result) unique
    (refusal_by errno.EIO c.args.bytes.now c.in-Some.ensures.head.1 c.in-Some.request.head c.in-Some.ensures.head.0 c.in-Some.ensures.head.2)

pub returns-in-Some-clause-settles : goal.returns-in-Some-clause-settles
returns-in-Some-clause-settles g c =
    asks_so c.args.bytes.now (request_of c.in-Some.request) c.settles.result c.in-Some.ensures.only c.settles.ensures

pub returns-in-None-clause-answered : goal.returns-in-None-clause-answered
returns-in-None-clause-answered g c =
    let a = c.args in
    answered_none g.F.FileSystem a.durability a.files.now (known_of a.memory.now) a.now a.bytes.now (spelled c.refuse.result.unique c.refuse.result.answer) c.in-None.ensures.only c.refuse.ensures.refused

pub returns-in-None-clause-lost : goal.returns-in-None-clause-lost
returns-in-None-clause-lost g c = c.refuse.ensures.lost

pub returns-in-None-clause-settles : goal.returns-in-None-clause-settles
returns-in-None-clause-settles g c = λ r is. absurd (c.in-None.ensures.only r is)
