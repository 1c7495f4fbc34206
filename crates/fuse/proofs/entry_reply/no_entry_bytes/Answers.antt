use Rattle.std.proofs.Common.{refl}
use Rattle.layout.proofs.WritingLaws.{wrote_all}
use Rattle.fuse.proofs.Chains.{◌⨾◌}
use Rattle.fuse.specs.Replies.{no_entry_text}
use Rattle.fuse.proofs.entry_reply.no_entry_bytes.Goals as goal

pub returns : goal.returns
unfolding no_entry_text
returns c =
    wrote_all 128 _ _ _ (
    c.put_u64.ensures
    ⨾ c.put_u64-2.ensures
    ⨾ c.put_u64-3.ensures
    ⨾ c.put_u64-4.ensures
    ⨾ c.put_u32.ensures
    ⨾ c.put_u32-2.ensures
    ⨾ c.put_zeros.ensures) refl
