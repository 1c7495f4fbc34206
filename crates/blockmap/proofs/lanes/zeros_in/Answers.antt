use Rattle.std.proofs.Common.{eqb, ap, ◌∙◌, arith, w32}
use lib.Count.{ones}
use lib.Lanes.{chunk}
use Rattle.std.proofs.lemmas.Simd.{bitmask_splat, ones-mask_l, length-chunk}
use Rattle.blockmap.proofs.lanes.zeros_in.Goals as goal

pub returns : goal.returns
returns c =
    let v = chunk c.args.at 8 c.args.entries.now in
    ap ones (bitmask_splat w32 eqb v 8 0 (length-chunk c.args.at 8 c.args.entries.now c.requires) (omega arith)) ∙ ones-mask_l (λ x. eqb x 0) v
