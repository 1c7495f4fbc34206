use Rattle.std.proofs.Common.{◌≡◌, ◌+◌, length, refl, arith}
use Rattle.layout.proofs.WritingLaws.{wrote_all, written_to}
use Rattle.fuse.proofs.Chains.{◌⨾◌}
use Rattle.fuse.specs.Replies.{created_text}
use Rattle.fuse.proofs.open_reply.created_bytes.Goals as goal

pub returns : goal.returns
unfolding created_text
returns c =
    let first : 0 + length c.entry_bytes.result ≡ 128 = omega arith in
    let end : 128 + length c.open_bytes.result ≡ 144 = omega arith in
    rw (← c.entry_bytes.ensures, ← c.open_bytes.ensures) (wrote_all 144 _ _ _ (
    written_to first c.put_bytes.ensures
    ⨾ written_to end c.put_bytes-2.ensures) refl)
