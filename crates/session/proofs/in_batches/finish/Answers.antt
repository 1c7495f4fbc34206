use Rattle.std.proofs.Common.{Result, Err, inr, subst}
use Rattle.model.specs.declared.errno.Errno.{Errno}
use Rattle.mount.specs.Batching.{CommitsAll}
use Rattle.session.proofs.in_batches.finish.Goals as goal

pub returns-in-Err-2 : goal.returns-in-Err-2
returns-in-Err-2 g c = record {
  commits = (
    Err c.in-Err.field-0,
    subst (λ (r : Result (Unit {0}) Errno). CommitsAll c.args.files.now c.commit.new.self r) c.in-Err.is c.commit.ensures,
    inr (c.tell_lost.ensures.status, (c.args.unsettled.commands, c.tell_lost.ensures.tells)),
  );
}
