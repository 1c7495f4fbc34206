use Rattle.std.proofs.Common.{refl}
use Rattle.layout.proofs.WritingLaws.{wrote_all}
use Rattle.fuse.proofs.Chains.{◌⨾◌}
use Rattle.fuse.specs.Replies.{count_text}
use Rattle.fuse.proofs.reply.count_bytes.Goals as goal

pub returns : goal.returns
unfolding count_text
returns c =
    wrote_all 8 _ _ _ (
    c.put_u32.ensures
    ⨾ c.put_u32-2.ensures) refl
