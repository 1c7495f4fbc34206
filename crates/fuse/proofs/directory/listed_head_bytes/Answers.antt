use Rattle.std.proofs.Common.{refl}
use Rattle.layout.proofs.WritingLaws.{wrote_all}
use Rattle.fuse.proofs.Chains.{◌⨾◌}
use Rattle.fuse.specs.Directory.{listed_head_text}
use Rattle.fuse.proofs.directory.listed_head_bytes.Goals as goal

pub returns : goal.returns
unfolding listed_head_text
returns c = rw (← c.code_of.ensures) (wrote_all 24 _ _ _ (
    c.put_u64.ensures ⨾ c.put_u64-2.ensures ⨾ c.put_u32.ensures ⨾ c.put_u32-2.ensures) refl)
