use Rattle.std.proofs.Common.{Bool, false, Some, Option, inr, refl, sym, subst}
use Rattle.std.specs.Fn.{FnReturnsAt}
use Rattle.model.specs.declared.reply.Reply.{Reply}
use Rattle.mount.specs.Batching.{MayWait}
use Rattle.session.specs.UnderWay.{HasStopped}
use Rattle.session.specs.declared.status.Status.{Status}
use Rattle.session.proofs.TalkLemmas.{line_waits, stopped_waiting}
use Rattle.session.proofs.settling.do_command.Goals as goal

pub returns-in-Ok-clause-goes_on : goal.returns-in-Ok-clause-goes_on
returns-in-Ok-clause-goes_on g c d first o dialog line under_way is =
    let old = c.args.files.now in
    let new = c.wait.new.self in
    let step = Some (c.args.command.now, c.in-Some.reply) in
    record {
      step = step;
      comes = is;
      under_way = line_waits d first o old new (g.O.Write.contents c.args.out.now.inner) (g.O.Write.contents c.args.out.now.inner) c.args.kept.now c.keep_reply.new.self dialog false under_way line step c.is_promise.result refl c.is_promise.ensures
          (subst (λ (r : Option Reply). MayWait old new c.args.command.now r) c.in-Some.is c.wait.ensures) (c.in-Ok.ensures.kept line c.args.command.now);
      refused = c.is_refusal.ensures;
    }

pub returns-in-Some-clause-goes_on : goal.returns-in-Some-clause-goes_on
returns-in-Some-clause-goes_on g c d first o dialog line under_way is =
    let old = c.args.files.now in
    let new = c.wait.new.self in
    let cut = λ (b : Bool). FnReturnsAt g.C.Fn c.args.was_cut.now new.fs.system.blocks.buffers.station b in
    let step = Some (c.args.command.now, c.in-Some.reply) in
    subst (λ (x : Status). HasStopped d first new o (g.O.Write.contents c.args.out.now.inner) cut dialog x) (sym c.in-Err.ensures.memory)
    (stopped_waiting d first o old new (g.O.Write.contents c.args.out.now.inner) (g.O.Write.contents c.args.out.now.inner) c.args.kept.now c.args.kept.now dialog false under_way cut line step (subst (λ (r : Option Reply). MayWait old new c.args.command.now r) c.in-Some.is c.wait.ensures))

pub returns-clause-goes_on : goal.returns-clause-goes_on
returns-clause-goes_on g c d first o dialog line under_way is =
    let tried = subst (λ (r : Option Reply). MayWait c.args.files.now c.wait.new.self c.args.command.now r) c.in-None.is c.wait.ensures in
    c.do_alone.ensures.goes_on d first c.args.files.now o dialog line under_way (inr (c.args.command.now, tried)) is
