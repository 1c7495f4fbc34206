use Rattle.std.proofs.Common.{refl, rules}
use Rattle.checker.proofs.RootLaws.{apart_unread}
use Rattle.checker.proofs.ReadLaws.{looked_none, looked_of, looks_err, looks_ok}
use Rattle.checker.proofs.snapshots.differ.Goals as goal

pub returns-in-Ok-clause-reads : goal.returns-in-Ok-clause-reads
returns-in-Ok-clause-reads g c = looks_ok (looked_of g.met.B.Blocks.reads_nothing g.met.B.UncachedReads.grows c.are_apart.ensures.reads)

pub returns-in-Err-Damaged-clause-reads : goal.returns-in-Err-Damaged-clause-reads
returns-in-Err-Damaged-clause-reads g c = looks_ok (looked_of g.met.B.Blocks.reads_nothing g.met.B.UncachedReads.grows c.are_apart.ensures.reads)

pub returns-in-Err-NoMemory-clause-reads : goal.returns-in-Err-NoMemory-clause-reads
returns-in-Err-NoMemory-clause-reads g c = looks_err (looked_none c.args.blocks.now) (looked_of g.met.B.Blocks.reads_nothing g.met.B.UncachedReads.grows c.are_apart.ensures.reads) (λ is. absurd (cc))

pub returns-in-Err-Device-clause-reads : goal.returns-in-Err-Device-clause-reads
returns-in-Err-Device-clause-reads g c = looks_err (looked_none c.args.blocks.now) (looked_of g.met.B.Blocks.reads_nothing g.met.B.UncachedReads.grows c.are_apart.ensures.reads) (λ is. c.in-Err-Device.ensures.reads.device (search rules))

pub returns-in-Err-Damaged-clause-apart : goal.returns-in-Err-Damaged-clause-apart
returns-in-Err-Damaged-clause-apart g c disk shows =
    ((λ yes. apart_unread c.args.geometry.layout disk c.args.a c.args.b (c.in-Err-Damaged.ensures.damaged disk shows (search rules))), (λ apart. refl))
