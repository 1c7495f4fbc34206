use Rattle.std.proofs.Common.{rules}
use Rattle.checker.proofs.ReadLaws.{looked_at, looked_none, looks_err, looks_ok}
use Rattle.checker.proofs.uncached_reads.read_block.Goals as goal

pub returns-in-Ok-clause-reads : goal.returns-in-Ok-clause-reads
returns-in-Ok-clause-reads g c = looks_ok (looked_at g.met.B.Blocks.reads_nothing g.met.B.UncachedReads.grows c.make_resident.ensures.count c.make_resident.ensures.reads c.make_resident.ensures.same)

pub returns-in-Err-Damaged-clause-reads : goal.returns-in-Err-Damaged-clause-reads
returns-in-Err-Damaged-clause-reads g c = looks_ok (looked_at g.met.B.Blocks.reads_nothing g.met.B.UncachedReads.grows c.make_resident.ensures.count c.make_resident.ensures.reads c.make_resident.ensures.same)

pub returns-in-Err-NoMemory-clause-reads : goal.returns-in-Err-NoMemory-clause-reads
returns-in-Err-NoMemory-clause-reads g c =
    looks_err (looked_none c.args.blocks.now) (looked_at g.met.B.Blocks.reads_nothing g.met.B.UncachedReads.grows c.make_resident.ensures.count c.make_resident.ensures.reads c.make_resident.ensures.same) (λ is. absurd (cc))

pub returns-in-Err-Device-clause-reads : goal.returns-in-Err-Device-clause-reads
returns-in-Err-Device-clause-reads g c =
    looks_err (looked_none c.args.blocks.now) (looked_at g.met.B.Blocks.reads_nothing g.met.B.UncachedReads.grows c.make_resident.ensures.count c.make_resident.ensures.reads c.make_resident.ensures.same) (λ is. c.in-Err-Device.ensures.device (search rules))

pub returns-in-Err-Damaged-clause-whole : goal.returns-in-Err-Damaged-clause-whole
returns-in-Err-Damaged-clause-whole g c disk shows broken = c.in-Err-Damaged.ensures.damaged disk shows (search rules)
