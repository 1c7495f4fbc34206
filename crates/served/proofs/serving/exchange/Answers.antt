use Rattle.std.proofs.Common.{length, length-take-le, refl, subst, sym, take}
use Rattle.served.specs.Known.{known_of}
use Rattle.served.specs.Replying.{spelled}
use Rattle.served.specs.Serving.{HasStopped, stage}
use Rattle.served.proofs.GoingLaws.{has_kept, stops_lacking}
use Rattle.served.proofs.ServingLaws.{hears_so, stops_silent}
use Rattle.served.proofs.serving.exchange.Goals as goal

pub returns-in-Err-clause-goes_on : goal.returns-in-Err-clause-goes_on
returns-in-Err-clause-goes_on g c = λ begun way. tt

pub returns-in-Err-clause-ended : goal.returns-in-Err-clause-ended
returns-in-Err-clause-ended g c = λ begun way.
    let a = c.args in
    let H = g.K.Channel in
    let now = stage a.files.now (known_of a.memory.now) a.channel.now a.batch.now.since in
    subst (HasStopped g.F.FileSystem H a.durability begun (stage a.files.now (known_of a.memory.now) c.receive.new.self a.batch.now.since)) (sym c.ending_of.ensures)
    (stops_silent g.F.FileSystem H a.durability begun now a.batch.now.kept c.receive.new.self c.in-Err.ended way
    (hears_so H a.channel.now c.receive.new.self (length a.room.now) _ c.requires c.in-Err.ensures.receives) c.in-Err.ensures.comes c.receive.ensures.gone)

pub slice_bounds-answer_message-end : goal.slice_bounds-answer_message-end
slice_bounds-answer_message-end g c = c.in-Ok.ensures.fits.1

pub slice_bounds-answer_message-end-2 : goal.slice_bounds-answer_message-end-2
slice_bounds-answer_message-end-2 g c = sym (length-take-le c.in-Ok.received.count c.receive.new.room c.in-Ok.ensures.fits.1)

pub returns-in-Ok-go_on-clause-goes_on : goal.returns-in-Ok-go_on-clause-goes_on
returns-in-Ok-go_on-clause-goes_on g c = λ begun way.
    let a = c.args in
    let H = g.K.Channel in
    let answered = c.answer_message-answered in
    let kept = has_kept g.F.FileSystem H a.durability begun a.batch.now.kept a.files.now answered.new.files (known_of a.memory.now) (known_of answered.new.memory) a.channel.now c.receive.new.self
    a.batch.now.since c.keep.new.self.since way c.now-now.result (take c.in-Ok.received.count c.receive.new.room) (spelled answered.result.unique answered.result.answer)
    (hears_so H a.channel.now c.receive.new.self (length a.room.now) _ c.requires c.in-Ok.ensures.receives) c.in-Ok.ensures.comes c.receive.ensures.gone answered.ensures.answered c.keep.ensures.since
    answered.result.unique c.keep.new.self.kept answered.result.settles answered.ensures.lost c.in-Ok-keep.ensures.ok answered.ensures.settles in
    c.in-Ok-go_on.ensures.goes_on begun (known_of answered.new.memory) kept

pub returns-in-Ok-keep-clause-ended : goal.returns-in-Ok-keep-clause-ended
returns-in-Ok-keep-clause-ended g c = λ begun way.
    let a = c.args in
    let H = g.K.Channel in
    let answered = c.answer_message-answered in
    let kept = has_kept g.F.FileSystem H a.durability begun a.batch.now.kept a.files.now answered.new.files (known_of a.memory.now) (known_of answered.new.memory) a.channel.now c.receive.new.self
    a.batch.now.since c.keep.new.self.since way c.now-now.result (take c.in-Ok.received.count c.receive.new.room) (spelled answered.result.unique answered.result.answer)
    (hears_so H a.channel.now c.receive.new.self (length a.room.now) _ c.requires c.in-Ok.ensures.receives) c.in-Ok.ensures.comes c.receive.ensures.gone answered.ensures.answered c.keep.ensures.since
    answered.result.unique c.keep.new.self.kept answered.result.settles answered.ensures.lost c.in-Ok-keep.ensures.ok answered.ensures.settles in
    subst (HasStopped g.F.FileSystem H a.durability begun (stage c.go_on.new.files (known_of answered.new.memory) c.go_on.new.channel c.go_on.new.batch.since)) (sym c.ending_of-in-Err-go_on.ensures)
    (c.in-Err-go_on.ensures.ended begun (known_of answered.new.memory) kept)

pub returns-clause-ended : goal.returns-clause-ended
returns-clause-ended g c = λ begun way.
    let a = c.args in
    let H = g.K.Channel in
    let answered = c.answer_message-answered in
    let sends = c.commit.ensures.sends in
    stops_lacking g.F.FileSystem H a.durability begun a.batch.now.kept a.files.now answered.new.files (known_of a.memory.now) (known_of answered.new.memory) a.channel.now c.receive.new.self
    a.batch.now.since c.keep.new.self.since way c.now-now.result (take c.in-Ok.received.count c.receive.new.room) (spelled answered.result.unique answered.result.answer)
    (hears_so H a.channel.now c.receive.new.self (length a.room.now) _ c.requires c.in-Ok.ensures.receives) c.in-Ok.ensures.comes c.receive.ensures.gone answered.ensures.answered c.keep.ensures.since
    (stage c.commit.new.files (known_of answered.new.memory) c.commit.new.channel c.commit.new.self.since) c.keep.new.self.kept sends.0 c.commit.result c.in-Err-keep.ensures.err
    (record { commits = sends.1; since = c.commit.ensures.since }) refl c.commit.ensures.coming (sends.2, sends.3, sends.4)
