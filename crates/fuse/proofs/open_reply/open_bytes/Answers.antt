use Rattle.std.proofs.Common.{refl}
use Rattle.layout.proofs.WritingLaws.{wrote_all}
use Rattle.fuse.proofs.Chains.{◌⨾◌}
use Rattle.fuse.specs.Replies.{open_text}
use Rattle.fuse.proofs.open_reply.open_bytes.Goals as goal

pub returns : goal.returns
unfolding open_text
returns c =
    wrote_all 16 _ _ _ (
    c.put_u64.ensures
    ⨾ c.put_u32.ensures
    ⨾ c.put_u32-2.ensures) refl
