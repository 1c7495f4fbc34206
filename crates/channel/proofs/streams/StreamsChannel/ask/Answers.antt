use Rattle.std.proofs.Common.{drop, refl, sym, take, take-append-drop}
use Rattle.channel.proofs.streams.StreamsChannel.ask.Goals as goal

pub returns-in-Ok-2-clause-asks : goal.returns-in-Ok-2-clause-asks
returns-in-Ok-2-clause-asks g c =
    let n = c.in-Ok-2.field-0 in
    let reply = c.args.question.now in
    (refl, (take n reply, (drop n reply, sym (take-append-drop n reply)), c.in-Ok-2.ensures.bytes))

pub returns-in-Ok-2-clause-goes : goal.returns-in-Ok-2-clause-goes
returns-in-Ok-2-clause-goes g c =
    let n = c.in-Ok-2.field-0 in
    let reply = c.args.question.now in
    (take n reply, (drop n reply, sym (take-append-drop n reply)), c.in-Ok-2.ensures.bytes)
