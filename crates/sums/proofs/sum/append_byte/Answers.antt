use Rattle.std.proofs.Common.{◌≡◌, ℕ, ◌/◌, ◌%◌, slice_index_or, List, sym, ap, ◌∙◌}
use Rattle.std.specs.Prelude.{bit_xor}
use Rattle.sums.specs.Sums.{bit_steps}
use Rattle.sums.proofs.RemainderLaws.{remainder-single}
use Rattle.sums.proofs.sum.append_byte.Goals as goal

pub returns : goal.returns
returns c =
    let r = c.args.remainder in
    let last : slice_index_or c.to_le_bytes.result 0 0 ≡ r % 256 = ap (λ (bytes : List ℕ). slice_index_or bytes 0 0) c.to_le_bytes.ensures in
    ap (λ (x : ℕ). bit_xor (r / 256) x) (c.divided.ensures ∙ ap (λ (x : ℕ). bit_steps 8 (bit_xor x c.args.byte)) last) ∙ sym (remainder-single r c.args.byte)
