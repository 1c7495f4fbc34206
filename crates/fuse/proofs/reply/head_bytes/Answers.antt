use Rattle.std.proofs.Common.{refl}
use Rattle.layout.proofs.WritingLaws.{wrote_all}
use Rattle.fuse.proofs.Chains.{◌⨾◌}
use Rattle.fuse.specs.Replies.{head_text}
use Rattle.fuse.proofs.reply.head_bytes.Goals as goal

pub returns : goal.returns
unfolding head_text
returns c =
    wrote_all 16 _ _ _ (
    c.put_u32.ensures
    ⨾ c.put_u32-2.ensures
    ⨾ c.put_u64.ensures) refl
