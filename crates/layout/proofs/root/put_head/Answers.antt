use Rattle.layout.specs.Root.{head_bytes}
use Rattle.layout.proofs.RootLaws.{magic_is}
use Rattle.layout.proofs.WritingLaws.{writes_both}
use Rattle.layout.proofs.root.put_head.Goals as goal

pub returns : goal.returns
unfolding head_bytes
returns c =
    let magic = rw magic_is at c.put_u64.ensures in
    rw (← c.get.ensures.value, ← c.blocks-2.ensures.value, ← c.inodes.ensures.value, ← c.half.ensures.value)
    (writes_both magic (writes_both c.put_u32.ensures (writes_both c.put_u64-2.ensures (writes_both c.put_u32-2.ensures (writes_both c.put_u32-3.ensures c.put_u32-4.ensures)))))
