-- Tables of divided bytes.
use Rattle.std.specs.Prelude.{◌+◌, ◌*◌, ℕ, List, map}
use Rattle.std.specs.List.{range_with_len}
use Rattle.sums.specs.Sums.{bit_steps}

-- each byte, divided with so many bytes behind it
abbrev pub divided_bytes : ℕ → List ℕ
divided_bytes behind = map (bit_steps (8 * behind + 8)) (range_with_len 0 256)

-- the same with no byte behind it, with one, and so on up to seven
unfoldable pub all_divided : List (List ℕ)
all_divided = map divided_bytes (range_with_len 0 8)
