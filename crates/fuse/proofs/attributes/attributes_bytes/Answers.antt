use Rattle.std.proofs.Common.{refl}
use Rattle.layout.proofs.WritingLaws.{wrote_all}
use Rattle.fuse.proofs.Chains.{◌⨾◌}
use Rattle.fuse.specs.Attributes.{attributes_text}
use Rattle.fuse.proofs.attributes.attributes_bytes.Goals as goal

pub returns : goal.returns
unfolding attributes_text
returns c = wrote_all 88 _ _ _ (
    c.put_u64.ensures ⨾ c.put_u64-2.ensures ⨾ c.put_u64-3.ensures
    ⨾ c.put_u64-4.ensures ⨾ c.put_u64-5.ensures ⨾ c.put_u64-6.ensures
    ⨾ c.put_u32.ensures ⨾ c.put_u32-2.ensures ⨾ c.put_u32-3.ensures
    ⨾ c.put_u32-4.ensures ⨾ c.put_u32-5.ensures ⨾ c.put_u32-6.ensures ⨾ c.put_u32-7.ensures
    ⨾ c.put_u32-8.ensures ⨾ c.put_u32-9.ensures ⨾ c.put_u32-10.ensures) refl
