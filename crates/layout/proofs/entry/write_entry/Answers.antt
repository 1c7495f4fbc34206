use Rattle.layout.proofs.WritingLaws.{writes_both}
use Rattle.layout.proofs.entry.write_entry.Goals as goal

pub returns : goal.returns
returns c = rw (← c.get.ensures) (writes_both c.put_u32.ensures (writes_both c.put_u8.ensures c.put_bytes.ensures))
