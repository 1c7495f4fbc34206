use Rattle.std.proofs.Common.{ℕ, List, ◌+◌, ◌*◌, ◌%◌, ◌^◌, ◌<◌, ◌≤◌, ◌≡◌, length, get_or, replicate, ap, ap₂, sym, ◌∙◌, arith}
use lib.Bits.{bit_and, bit_or}
use lib.Lanes.{chunk, zip2}
use Rattle.std.proofs.lemmas.Simd.{length-chunk, length-zip2, get_or-chunk, get_or-zip2, get_or-put_chunk_below, get_or-put_chunk_above}
use Rattle.blockmap.proofs.LaneLemmas.{put_inside, splat_lane, splat_long}
use Rattle.blockmap.proofs.lanes.take_in.Goals as goal

abbrev times : ℕ → ℕ → ℕ
times a b = a * b % 2 ^ 32

module _ (xs ys : List ℕ) (at mask bit : ℕ) (room : at + 8 ≤ length xs) (others : at + 8 ≤ length ys) where
  long_xs : length (chunk at 8 xs) ≡ 8
  long_xs = length-chunk at 8 xs room

  long_ys : length (chunk at 8 ys) ≡ 8
  long_ys = length-chunk at 8 ys others

  abbrev kept : List ℕ
  kept = zip2 bit_and (chunk at 8 xs) (replicate 8 mask)

  abbrev low : List ℕ
  low = zip2 bit_and (chunk at 8 ys) (replicate 8 1)

  abbrev taken : List ℕ
  taken = zip2 times low (replicate 8 bit)

  abbrev lanes : List ℕ
  lanes = zip2 bit_or kept taken

  low_long : length low ≡ 8
  low_long = splat_long bit_and (chunk at 8 ys) 1 long_ys

  kept_long : length kept ≡ 8
  kept_long = splat_long bit_and (chunk at 8 xs) mask long_xs

  taken_long : length taken ≡ 8
  taken_long = splat_long times low bit low_long

  long : length lanes ≡ 8
  long = length-zip2 bit_or kept taken (kept_long ∙ sym taken_long) ∙ kept_long

  abbrev is : ℕ → ℕ
  is k = bit_or (bit_and (get_or xs k 0) mask) (bit_and (get_or ys k 0) 1 * bit % 2 ^ 32)

  lane : (j : ℕ) → j < 8 → get_or lanes j 0 ≡ is (at + j)
  lane j lt =
      get_or-zip2 bit_or kept taken j 0 0 0 (omega (arith, lt, kept_long)) (omega (arith, lt, taken_long))
      ∙ ap₂ bit_or
      (splat_lane bit_and (chunk at 8 xs) mask long_xs j lt ∙ ap (λ n. bit_and n mask) (get_or-chunk at 8 xs j 0 lt))
      (splat_lane times low bit low_long j lt ∙ ap (λ n. times n bit) (splat_lane bit_and (chunk at 8 ys) 1 long_ys j lt ∙ ap (λ n. bit_and n 1) (get_or-chunk at 8 ys j 0 lt)))

pub returns-clause-inside : goal.returns-clause-inside
returns-clause-inside c =
    let xs = c.args.entries.now in
    let ys = c.args.settled.now in
    put_inside xs (lanes xs ys c.args.at c.args.mask c.args.bit c.requires.room c.requires.others) c.args.at (is xs ys c.args.at c.args.mask c.args.bit c.requires.room c.requires.others) c.requires.room
    (long xs ys c.args.at c.args.mask c.args.bit c.requires.room c.requires.others) (lane xs ys c.args.at c.args.mask c.args.bit c.requires.room c.requires.others)

pub returns-clause-below : goal.returns-clause-below
returns-clause-below c = λ k lt. get_or-put_chunk_below c.args.at c.args.entries.now _ k 0 lt

pub returns-clause-above : goal.returns-clause-above
returns-clause-above c = λ k le.
    get_or-put_chunk_above c.args.at c.args.entries.now (lanes c.args.entries.now c.args.settled.now c.args.at c.args.mask c.args.bit c.requires.room c.requires.others) k 0
    (omega (arith, le, long c.args.entries.now c.args.settled.now c.args.at c.args.mask c.args.bit c.requires.room c.requires.others))
