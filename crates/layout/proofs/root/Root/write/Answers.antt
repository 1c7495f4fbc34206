use Rattle.layout.proofs.WritingLaws.{writes_both}
use Rattle.layout.proofs.root.Root.write.Goals as goal

pub returns-clause-wrote : goal.returns-clause-wrote
returns-clause-wrote c =
    writes_both c.put_head.ensures (writes_both c.put.ensures (writes_both c.put_snapshots.ensures c.put_zeros.ensures))
