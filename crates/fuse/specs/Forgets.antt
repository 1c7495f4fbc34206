-- What the kernel forgets of several nodes.
use Rattle.std.specs.Prelude.{ℕ, zero, suc, ◌/◌, List, [], ◌∷◌, length, drop}
use Rattle.layout.specs.Bytes.{number}
use Rattle.fuse.specs.declared.forgets.Forget.{Forget}
use Rattle.fuse.specs.declared.forgets.Forgets.{Forgets}

-- the first so many: node, and how many of the times that the kernel was told of it
unfoldable pub forgets_in : ℕ → List ℕ → List Forget
forgets_in zero bytes = []
forgets_in (suc count) bytes =
    record { node = number 8 bytes; lookups = number 8 (drop 8 bytes) } ∷ forgets_in count (drop 16 bytes)

-- all that the bytes hold, sixteen bytes for each
abbrev pub all_forgets : List ℕ → List Forget
all_forgets bytes = forgets_in (length bytes / 16) bytes

abbrev pub forgets_of : Forgets → List Forget
forgets_of forgets = all_forgets forgets.bytes.now
