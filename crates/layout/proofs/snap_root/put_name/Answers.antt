use Rattle.std.proofs.Common.{arith}
use Rattle.layout.proofs.WritingLaws.{writes_both, written_to}
use Rattle.layout.proofs.snap_root.put_name.Goals as goal

pub returns : goal.returns
returns c = writes_both c.put_u8.ensures (writes_both c.put_bytes.ensures (written_to {end = 72} (omega arith) c.put_zeros.ensures))
