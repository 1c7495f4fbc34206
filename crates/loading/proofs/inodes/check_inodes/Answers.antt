use Rattle.buffers.proofs.ReadLaws.{only_more, only_ok, reads_err}
use Rattle.loading.proofs.inodes.check_inodes.Goals as goal

pub returns-in_err-location-clause-reads : goal.returns-in_err-location-clause-reads
returns-in_err-location-clause-reads g c = reads_err c.from_residual.result c.from_residual.ensures.1 (only_more _ c.loop-i.invariant.read c.in_err-location.ensures.reads)

pub returns-clause-reads : goal.returns-clause-reads
returns-clause-reads g c = only_ok c.loop-i.invariant.read
