use Rattle.std.proofs.Common.{◌≡◌, ◌+◌, length, refl, arith}
use Rattle.layout.proofs.WritingLaws.{wrote_all, written_to}
use Rattle.fuse.proofs.Chains.{◌⨾◌}
use Rattle.fuse.specs.Attributes.{entry_text}
use Rattle.fuse.proofs.attributes.entry_bytes.Goals as goal

pub returns : goal.returns
unfolding entry_text
returns c =
    let end : 40 + length c.attributes_bytes.result ≡ 128 = omega arith in
    rw (← c.attributes_bytes.ensures) (wrote_all 128 _ _ _ (
    c.put_u64.ensures ⨾ c.put_u64-2.ensures
    ⨾ c.put_u64-3.ensures ⨾ c.put_u64-4.ensures
    ⨾ c.put_u32.ensures ⨾ c.put_u32-2.ensures
    ⨾ written_to end c.put_bytes.ensures) refl)
