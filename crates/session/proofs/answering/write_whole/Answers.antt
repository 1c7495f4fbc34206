use Rattle.session.proofs.AnswerLemmas.{more_written}
use Rattle.session.proofs.answering.write_whole.Goals as goal

pub loop-at-preserved : goal.loop-at-preserved
loop-at-preserved g c =
    let more = more_written (g.O.Write.contents c.args.out.now.inner) (g.O.Write.contents c.loop-at.out.inner) (g.O.Write.contents c.write.new.self.inner) c.args.bytes.now c.loop-at.at c.in-Ok.count c.loop-at.invariant.within
    c.in-Ok.ensures.bound c.loop-at.invariant.so_far c.in-Ok.ensures.bytes in
    record { within = more.0; so_far = more.1 }
