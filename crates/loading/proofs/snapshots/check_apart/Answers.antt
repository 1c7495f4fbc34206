use Rattle.buffers.proofs.ReadLaws.{only_more, only_ok, reads_err}
use Rattle.loading.proofs.snapshots.check_apart.Goals as goal

pub returns-in_err-apart-clause-reads : goal.returns-in_err-apart-clause-reads
returns-in_err-apart-clause-reads g c = reads_err c.from_residual.result c.from_residual.ensures.1 (only_more _ c.loop-earlier.invariant.read c.in_err-apart.ensures.reads)

pub returns-clause-reads : goal.returns-clause-reads
returns-clause-reads g c = only_ok c.loop-earlier.invariant.read
