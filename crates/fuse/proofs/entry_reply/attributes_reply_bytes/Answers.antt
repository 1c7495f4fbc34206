use Rattle.std.proofs.Common.{◌≡◌, ◌+◌, length, refl, arith}
use Rattle.layout.proofs.WritingLaws.{wrote_all, written_to}
use Rattle.fuse.proofs.Chains.{◌⨾◌}
use Rattle.fuse.specs.Replies.{attributes_reply_text}
use Rattle.fuse.proofs.entry_reply.attributes_reply_bytes.Goals as goal

pub returns : goal.returns
unfolding attributes_reply_text
returns c =
    let end : 16 + length c.attributes_bytes.result ≡ 104 = omega arith in
    rw (← c.attributes_bytes.ensures) (wrote_all 104 _ _ _ (
    c.put_u64.ensures
    ⨾ c.put_u32.ensures
    ⨾ c.put_u32-2.ensures
    ⨾ written_to end c.put_bytes.ensures) refl)
