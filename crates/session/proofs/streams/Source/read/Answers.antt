use Rattle.std.proofs.Common.{take}
use Rattle.session.proofs.ReadingLemmas.{consumes_kept}
use Rattle.session.proofs.streams.Source.read.Goals as goal

pub returns-in-Ok-clause-bytes : goal.returns-in-Ok-clause-bytes
returns-in-Ok-clause-bytes g c =
    let told = c.in-Ok.ensures.bytes in (
      consumes_kept (g.R.Read.remaining c.args.self.now.inner) (g.R.Read.remaining c.loop.self.inner) (g.R.Read.remaining c.read.new.self)
          (take c.in-Ok.count c.read.new.buf) c.loop.invariant told.0,
      told.1,
    )
