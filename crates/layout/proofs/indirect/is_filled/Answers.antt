use Rattle.std.proofs.Common.{◌∙◌}
use Rattle.layout.proofs.IndirectLaws.{filled}
use Rattle.layout.proofs.indirect.is_filled.Goals as goal

pub returns : goal.returns
returns c = λ yes.
    filled c.args.used c.min-count.result c.min-count.ensures c.args.bytes.now (c.are_zero_from.ensures c.if-not-are_zero_from.false) c.args.blocks c.told-bytes
    (λ hole. let is = (c.is_hole.ensures).1 (c.indirect_pointer-first.ensures ∙ hole) in let is_not = c.if-is_hole.false in cc) (c.all_fit.ensures yes)
