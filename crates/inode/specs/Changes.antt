-- A prepared change over a function from indexes to blocks.
use Rattle.std.specs.Prelude.{ℕ, List, nat_lt, if◌then◌else◌}
use Rattle.layout.specs.Bytes.{zeros}
use Rattle.buffers.specs.Positions.{laid}
use Rattle.blocktree.specs.Places.{block_count}

-- these blocks with others from one index on, and zeros past a size
abbrev pub changed_block : (ℕ → List ℕ) → ℕ → ℕ → List (List ℕ) → ℕ → List ℕ
changed_block blocks size first pieces i =
    if nat_lt i (block_count size) then laid blocks first pieces i else zeros 4096
