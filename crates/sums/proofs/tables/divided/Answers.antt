use Rattle.std.proofs.Common.{◌+◌, ◌*◌, ℕ, List, [], slice_index_or, ap, ◌∙◌, arith}
use Rattle.std.proofs.lemmas.List.FromFn.{get_or-map-range_with_len}
use Rattle.sums.specs.Sums.{bit_steps}
use Rattle.sums.specs.Tables.{all_divided, divided_bytes}
use Rattle.sums.proofs.tables.divided.Goals as goal

pub returns : goal.returns
unfolding all_divided
returns c =
    let k = c.args.behind in
    let byte = c.args.byte in
    ap (λ (tables : List (List ℕ)). slice_index_or (slice_index_or tables k []) byte 0) c.tables.ensures
    ∙ ap (λ (table : List ℕ). slice_index_or table byte 0) (get_or-map-range_with_len divided_bytes 0 8 k k [] (omega arith) (omega arith))
    ∙ get_or-map-range_with_len (bit_steps (8 * k + 8)) 0 256 byte byte 0 (omega arith) (omega arith)
