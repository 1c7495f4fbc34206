use Rattle.layout.proofs.WritingLaws.{writes_both}
use Rattle.layout.proofs.record_write.put_name.Goals as goal

pub returns : goal.returns
returns c =
    writes_both c.put_u8.ensures c.put_bytes.ensures
