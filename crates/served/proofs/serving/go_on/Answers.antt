use Rattle.std.proofs.Common.{[], ◌∷◌, arith, Ok, Option, refl, subst, sym}
use Rattle.fuse.specs.declared.time.Time.{Time}
use Rattle.served.specs.Serving.{Exchange, WaitsOn, stage}
use Rattle.served.specs.UnderWay.{IsUnderWay}
use Rattle.served.proofs.GoingLaws.{ends, goes_on, keeps_on, settles_so, settles_waiting, unasked, waits_so}
use Rattle.served.proofs.serving.go_on.Goals as goal

pub returns-then-is_ready-clause-goes_on : goal.returns-then-is_ready-clause-goes_on
returns-then-is_ready-clause-goes_on g c = λ begun known has.
    let a = c.args in
    let now = stage a.files.now known a.channel.now a.batch.now.since in
    let new = stage c.commit.new.files known c.commit.new.channel c.commit.new.self.since in
    let sends = c.commit.ensures.sends in
    goes_on g.F.FileSystem g.K.Channel a.durability begun now a.batch.now.kept a.now a.settles has
    c.is_ready.new.channel c.is_ready.ensures.asks c.is_ready.ensures.coming new sends.0
    (settles_so g.F.FileSystem g.K.Channel a.durability _ new has.before _ sends.0 has.answered.free (omega arith) (record { commits = sends.1; since = c.commit.ensures.since }))
    refl c.commit.ensures.coming c.is_ready.new.self.kept c.is_ready.ensures.kept c.commit.new.self.kept c.commit.ensures.kept c.commit.result (sends.2, sends.3, sends.4)

pub returns-then-is_ready-clause-ended : goal.returns-then-is_ready-clause-ended
returns-then-is_ready-clause-ended g c = λ begun known has.
    let a = c.args in
    let now = stage a.files.now known a.channel.now a.batch.now.since in
    let new = stage c.commit.new.files known c.commit.new.channel c.commit.new.self.since in
    let sends = c.commit.ensures.sends in
    ends g.F.FileSystem g.K.Channel a.durability begun now a.batch.now.kept a.now a.settles has
    c.is_ready.new.channel c.is_ready.ensures.asks c.is_ready.ensures.coming new sends.0
    (settles_so g.F.FileSystem g.K.Channel a.durability _ new has.before _ sends.0 has.answered.free (omega arith) (record { commits = sends.1; since = c.commit.ensures.since }))
    refl c.commit.ensures.coming c.is_ready.new.self.kept c.is_ready.ensures.kept c.commit.result (sends.2, sends.3, sends.4)

pub returns-else-is_ready-clause-goes_on : goal.returns-else-is_ready-clause-goes_on
returns-else-is_ready-clause-goes_on g c = λ begun known has.
    let a = c.args in
    let now = stage a.files.now known a.channel.now a.batch.now.since in
    subst (λ (since : Option Time). IsUnderWay g.F.FileSystem g.K.Channel a.durability begun (stage a.files.now known c.is_ready.new.channel since) c.is_ready.new.self.kept) (sym c.is_ready.ensures.since)
    (keeps_on g.F.FileSystem g.K.Channel a.durability begun now a.batch.now.kept a.now a.settles has
    c.is_ready.new.channel c.is_ready.ensures.asks c.is_ready.ensures.coming c.in-Together.is c.is_ready.new.self.kept c.is_ready.ensures.kept)

pub returns-then-may_wait-clause-goes_on : goal.returns-then-may_wait-clause-goes_on
returns-then-may_wait-clause-goes_on g c = λ begun known has.
    let a = c.args in
    let now = stage a.files.now known a.channel.now a.batch.now.since in
    let new = stage a.files.now known c.send.new.channel c.send.new.self.since in
    let e : Exchange = record has.last { asked = [] } in
    let may = c.may_wait.ensures in
    let waits : WaitsOn g.F.FileSystem c.in-Deferred.milliseconds c.in-Deferred.bytes now new e =
    waits_so g.F.FileSystem g.K.Channel a.durability c.in-Deferred.milliseconds c.in-Deferred.bytes c.waiting-in-Deferred.result now new c.may_wait.new.self.since e a.now a.settles refl c.waiting-in-Deferred.ensures has.time has.asks
    (may.asks_none c.if-may_wait.true) (may.few c.if-may_wait.true) c.send.ensures.since (may.since c.if-may_wait.true) (may.young c.if-may_wait.true) in
    goes_on g.F.FileSystem g.K.Channel a.durability begun now a.batch.now.kept a.now a.settles has
    a.channel.now (unasked g.F.FileSystem g.K.Channel a.durability a.channel.now) refl new (Ok tt)
    (settles_waiting g.F.FileSystem g.K.Channel a.durability c.in-Deferred.milliseconds c.in-Deferred.bytes now new has.before e c.in-Deferred.is has.answered.free waits)
    refl c.send.ensures.coming c.may_wait.new.self.kept may.kept c.send.new.self.kept c.send.ensures.kept c.send.result c.send.ensures.sends

pub returns-then-may_wait-clause-ended : goal.returns-then-may_wait-clause-ended
returns-then-may_wait-clause-ended g c = λ begun known has.
    let a = c.args in
    let now = stage a.files.now known a.channel.now a.batch.now.since in
    let new = stage a.files.now known c.send.new.channel c.send.new.self.since in
    let e : Exchange = record has.last { asked = [] } in
    let may = c.may_wait.ensures in
    let waits : WaitsOn g.F.FileSystem c.in-Deferred.milliseconds c.in-Deferred.bytes now new e =
    waits_so g.F.FileSystem g.K.Channel a.durability c.in-Deferred.milliseconds c.in-Deferred.bytes c.waiting-in-Deferred.result now new c.may_wait.new.self.since e a.now a.settles refl c.waiting-in-Deferred.ensures has.time has.asks
    (may.asks_none c.if-may_wait.true) (may.few c.if-may_wait.true) c.send.ensures.since (may.since c.if-may_wait.true) (may.young c.if-may_wait.true) in
    ends g.F.FileSystem g.K.Channel a.durability begun now a.batch.now.kept a.now a.settles has
    a.channel.now (unasked g.F.FileSystem g.K.Channel a.durability a.channel.now) refl new (Ok tt)
    (settles_waiting g.F.FileSystem g.K.Channel a.durability c.in-Deferred.milliseconds c.in-Deferred.bytes now new has.before e c.in-Deferred.is has.answered.free waits)
    refl c.send.ensures.coming c.may_wait.new.self.kept may.kept c.send.result c.send.ensures.sends

pub returns-else-may_wait-clause-goes_on : goal.returns-else-may_wait-clause-goes_on
returns-else-may_wait-clause-goes_on g c = λ begun known has.
    let a = c.args in
    let now = stage a.files.now known a.channel.now a.batch.now.since in
    let new = stage c.commit-else-may_wait.new.files known c.commit-else-may_wait.new.channel c.commit-else-may_wait.new.self.since in
    let e : Exchange = record has.last { asked = [] } in
    let sends = c.commit-else-may_wait.ensures.sends in
    goes_on g.F.FileSystem g.K.Channel a.durability begun now a.batch.now.kept a.now a.settles has
    a.channel.now (unasked g.F.FileSystem g.K.Channel a.durability a.channel.now) refl new sends.0
    (settles_so g.F.FileSystem g.K.Channel a.durability now new has.before (e ∷ []) sends.0 has.answered.free (omega arith) (record { commits = sends.1; since = c.commit-else-may_wait.ensures.since }))
    refl c.commit-else-may_wait.ensures.coming c.may_wait.new.self.kept c.may_wait.ensures.kept c.commit-else-may_wait.new.self.kept c.commit-else-may_wait.ensures.kept c.commit-else-may_wait.result (sends.2, sends.3, sends.4)

pub returns-else-may_wait-clause-ended : goal.returns-else-may_wait-clause-ended
returns-else-may_wait-clause-ended g c = λ begun known has.
    let a = c.args in
    let now = stage a.files.now known a.channel.now a.batch.now.since in
    let new = stage c.commit-else-may_wait.new.files known c.commit-else-may_wait.new.channel c.commit-else-may_wait.new.self.since in
    let e : Exchange = record has.last { asked = [] } in
    let sends = c.commit-else-may_wait.ensures.sends in
    ends g.F.FileSystem g.K.Channel a.durability begun now a.batch.now.kept a.now a.settles has
    a.channel.now (unasked g.F.FileSystem g.K.Channel a.durability a.channel.now) refl new sends.0
    (settles_so g.F.FileSystem g.K.Channel a.durability now new has.before (e ∷ []) sends.0 has.answered.free (omega arith) (record { commits = sends.1; since = c.commit-else-may_wait.ensures.since }))
    refl c.commit-else-may_wait.ensures.coming c.may_wait.new.self.kept c.may_wait.ensures.kept c.commit-else-may_wait.result (sends.2, sends.3, sends.4)
