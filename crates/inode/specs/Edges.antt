-- A file's bytes as a list, and the two changes of it.
use Rattle.std.specs.Prelude.{ℕ, ◌+◌, ◌-◌, List, ◌++◌, length, take, drop}
use Rattle.layout.specs.Bytes.{zeros}

-- the first bytes of a list, with zeros up to so many
abbrev pub filled : ℕ → List ℕ → List ℕ
filled n bytes = take n bytes ++ zeros (n - length bytes)

-- a file's bytes after a write: a gap before the offset reads as zeros
abbrev pub written_list : List ℕ → ℕ → List ℕ → List ℕ
written_list file offset bytes = filled offset file ++ (bytes ++ drop (offset + length bytes) file)
