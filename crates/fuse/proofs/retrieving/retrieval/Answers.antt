use Rattle.std.proofs.Common.{◌≡◌, ◌+◌, length, refl, arith}
use Rattle.layout.proofs.WritingLaws.{wrote_all, written_to}
use Rattle.fuse.proofs.Chains.{◌⨾◌}
use Rattle.fuse.specs.Retrieval.{retrieval_text}
use Rattle.fuse.proofs.retrieving.retrieval.Goals as goal

pub returns : goal.returns
unfolding retrieval_text
returns c =
    let end : 0 + length c.head_bytes.result ≡ 16 = omega arith in
    rw (← c.head_bytes.ensures) (wrote_all 48 _ _ _ (
    written_to end c.put_bytes.ensures
    ⨾ c.put_u64.ensures ⨾ c.put_u64-2.ensures
    ⨾ c.put_u64-3.ensures
    ⨾ c.put_u32.ensures ⨾ c.put_u32-2.ensures) refl)
