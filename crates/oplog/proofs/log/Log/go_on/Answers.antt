use Rattle.std.proofs.Common.{sym, subst}
use Rattle.oplog.specs.LogEnd.{LogEnd, no_bodies, StandsAt}
use Rattle.oplog.specs.declared.log.End.TheVariants.{Unopened}
use Rattle.oplog.proofs.Covering.{covered}
use Rattle.oplog.proofs.log.Log.go_on.Goals as goal

pub returns-clause-covered : goal.returns-clause-covered
returns-clause-covered c gen bodies nvram fits next stands =
    subst (λ (l : LogEnd). StandsAt l c.args.self.now.epoch no_bodies nvram) (λ i. record (sym c.self.view_is i) { epoch = sym next i; end = Unopened })
    (covered c.args.self.now gen bodies nvram fits stands)
