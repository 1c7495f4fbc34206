use Rattle.std.proofs.Common.{ℕ, take, sym, subst}
use Rattle.std.specs.Io.KnownBytes.{Appends, Keeps}
use Rattle.session.proofs.AnswerLemmas.{appends_kept, kept_none}
use Rattle.session.proofs.streams.Sink.write.Goals as goal

pub returns-in-Ok-eq0-clause-bytes : goal.returns-in-Ok-eq0-clause-bytes
returns-in-Ok-eq0-clause-bytes g c =
    let old = g.W.Write.contents c.args.self.now.inner in
    let before = g.W.Write.contents c.loop.self.inner in
    let after = g.W.Write.contents c.write.new.self in
    let appended = rw c.in-Ok-eq0.is at c.write.ensures.bytes in
    let none = subst (λ (n : ℕ). Appends before after (take n c.args.bytes.now)) c.in-Ok-eq0.field-0-test appended in
    subst (λ w. Keeps old (g.W.Write.contents w)) (sym c.fail.ensures.inner) (kept_none old before after c.loop.invariant none)

pub returns-in-Ok-clause-bytes : goal.returns-in-Ok-clause-bytes
returns-in-Ok-clause-bytes g c =
    appends_kept (g.W.Write.contents c.args.self.now.inner) (g.W.Write.contents c.loop.self.inner) (g.W.Write.contents c.write.new.self)
    (take c.in-Ok.count c.args.bytes.now) c.loop.invariant c.in-Ok.ensures.bytes
