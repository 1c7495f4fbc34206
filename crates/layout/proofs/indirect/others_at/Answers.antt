use Rattle.std.proofs.Common.{◌∙◌, get_or, sym, arith, w8}
use Rattle.std.proofs.lemmas.Simd.{length-chunk, bitmask_splat, none_from_empty_mask}
use lib.Lanes.{chunk}
use Rattle.layout.proofs.IndirectLaws.{differs, is_zero}
use Rattle.layout.proofs.indirect.others_at.Goals as goal

pub returns : goal.returns
returns c = λ none k low high.
    let xs = c.args.bytes.now in
    let hits = bitmask_splat w8 differs (chunk c.args.at 64 xs) 64 0 (length-chunk c.args.at 64 xs c.requires) (omega arith) in
    is_zero (get_or xs k 0) (none_from_empty_mask (λ x. differs x 0) xs c.args.at 64 0 c.requires (sym hits ∙ none) k low high)
