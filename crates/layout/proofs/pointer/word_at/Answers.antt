use Rattle.std.proofs.Common.{ap, ◌∙◌}
use Rattle.byteorder.specs.Endian.{little_number}
use Rattle.layout.specs.Bytes.{number}
use Rattle.layout.proofs.pointer.word_at.Goals as goal

pub returns : goal.returns
unfolding number
returns c = c.read_u32.ensures ∙ ap (little_number 4) c.split_at.ensures.back
