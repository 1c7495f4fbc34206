use Rattle.std.proofs.Common.{refl}
use Rattle.layout.proofs.WritingLaws.{wrote_all}
use Rattle.fuse.proofs.Chains.{◌⨾◌}
use Rattle.fuse.specs.Replies.{statfs_text}
use Rattle.fuse.proofs.statfs_reply.statfs_bytes.Goals as goal

pub returns : goal.returns
unfolding statfs_text
returns c =
    wrote_all 80 _ _ _ (
    c.put_u64.ensures
    ⨾ c.put_u64-2.ensures
    ⨾ c.put_u64-3.ensures
    ⨾ c.put_u64-4.ensures
    ⨾ c.put_u64-5.ensures
    ⨾ c.put_u32.ensures
    ⨾ c.put_u32-2.ensures
    ⨾ c.put_u32-3.ensures
    ⨾ c.put_zeros.ensures) refl
