use Rattle.std.proofs.Common.{eqb, sym, ap, ◌∙◌, arith, w32}
use lib.Count.{count_trailing_zeros}
use lib.Lanes.{chunk}
use Rattle.std.proofs.lemmas.Simd.{length-chunk, bitmask_splat, leading_from_mask_l, trailing_mask_l}
use Rattle.blockmap.proofs.lanes.before_zero_in.Goals as goal

pub returns-then-zeros-eq0 : goal.returns-then-zeros-eq0
returns-then-zeros-eq0 c =
    let v = chunk c.args.at 8 c.args.entries.now in
    let long = length-chunk c.args.at 8 c.args.entries.now c.requires in
    let hits = bitmask_splat w32 eqb v 8 0 long (omega arith) in
    sym (leading_from_mask_l (λ x. eqb x 0) v (sym hits ∙ c.if-zeros-eq0.true) ∙ long)

pub returns-else-zeros-eq0 : goal.returns-else-zeros-eq0
returns-else-zeros-eq0 c =
    let v = chunk c.args.at 8 c.args.entries.now in
    let long = length-chunk c.args.at 8 c.args.entries.now c.requires in
    let hits = bitmask_splat w32 eqb v 8 0 long (omega arith) in
    ap (count_trailing_zeros 64) hits ∙ trailing_mask_l (λ x. eqb x 0) 64 v (omega arith) (omega arith)
