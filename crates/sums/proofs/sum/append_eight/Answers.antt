use Rattle.std.proofs.Common.{◌≡◌, ℕ, ◌/◌, ◌%◌, List, length, slice_index_or, ap, arith}
use Rattle.sums.proofs.RemainderLaws.{eight_bytes}
use Rattle.sums.proofs.sum.append_eight.Goals as goal

pub returns : goal.returns
returns c =
    let r = c.args.remainder in
    let low = c.to_le_bytes.result in
    let low_0 : slice_index_or low 0 0 ≡ r % 256 = ap (λ (bytes : List ℕ). slice_index_or bytes 0 0) c.to_le_bytes.ensures in
    let low_1 : slice_index_or low 1 0 ≡ r / 256 % 256 = ap (λ (bytes : List ℕ). slice_index_or bytes 1 0) c.to_le_bytes.ensures in
    let low_2 : slice_index_or low 2 0 ≡ r / 65536 % 256 = ap (λ (bytes : List ℕ). slice_index_or bytes 2 0) c.to_le_bytes.ensures in
    let low_3 : slice_index_or low 3 0 ≡ r / 16777216 % 256 = ap (λ (bytes : List ℕ). slice_index_or bytes 3 0) c.to_le_bytes.ensures in
    let long : length c.args.bytes.now ≡ 8 = omega arith in
    let law = eight_bytes r c.args.bytes.now (omega arith) long in
    cc
