use Rattle.layout.proofs.WritingLaws.{writes_both}
use Rattle.layout.proofs.snap_root.SnapRoot.write.Goals as goal

pub returns-clause-wrote : goal.returns-clause-wrote
returns-clause-wrote c =
    writes_both c.put_u64.ensures (writes_both c.put_name.ensures (writes_both c.put.ensures c.put_zeros.ensures))
