use Rattle.std.proofs.Common.{get_or, ap, ◌∙◌, arith}
use lib.Bits.{bit_and}
use lib.Lanes.{chunk}
use Rattle.std.proofs.lemmas.Simd.{length-chunk, get_or-chunk, get_or-put_chunk_below, get_or-put_chunk_above}
use Rattle.blockmap.proofs.LaneLemmas.{put_inside, splat_lane, splat_long}
use Rattle.blockmap.proofs.lanes.and_in.Goals as goal

pub returns-clause-inside : goal.returns-clause-inside
returns-clause-inside c =
    let xs = c.args.entries.now in
    let eight = chunk c.args.at 8 xs in
    let long = length-chunk c.args.at 8 xs c.requires in
    put_inside xs _ c.args.at (λ k. bit_and (get_or xs k 0) c.args.mask) c.requires (splat_long bit_and eight c.args.mask long)
    (λ j lt. splat_lane bit_and eight c.args.mask long j lt ∙ ap (λ n. bit_and n c.args.mask) (get_or-chunk c.args.at 8 xs j 0 lt))

pub returns-clause-below : goal.returns-clause-below
returns-clause-below c = λ k lt. get_or-put_chunk_below c.args.at c.args.entries.now _ k 0 lt

pub returns-clause-above : goal.returns-clause-above
returns-clause-above c = λ k le.
    let eight = length-chunk c.args.at 8 c.args.entries.now c.requires in
    get_or-put_chunk_above c.args.at c.args.entries.now _ k 0 (omega (arith, le, splat_long bit_and (chunk c.args.at 8 c.args.entries.now) c.args.mask eight))
