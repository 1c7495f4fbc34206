use Rattle.std.proofs.Common.{refl}
use Rattle.layout.proofs.WritingLaws.{wrote_all}
use Rattle.fuse.proofs.Chains.{◌⨾◌}
use Rattle.fuse.specs.Replies.{init_text}
use Rattle.fuse.proofs.init_reply.init_bytes.Goals as goal

pub returns : goal.returns
unfolding init_text
returns c =
    wrote_all 64 _ _ _ (
    c.put_u32.ensures
    ⨾ c.put_u32-2.ensures
    ⨾ c.put_u32-3.ensures
    ⨾ c.put_u32-4.ensures
    ⨾ c.put_u16.ensures
    ⨾ c.put_u16-2.ensures
    ⨾ c.put_u32-5.ensures
    ⨾ c.put_u32-6.ensures
    ⨾ c.put_u16-3.ensures
    ⨾ c.put_zeros.ensures) refl
