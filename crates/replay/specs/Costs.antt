-- What the cost of a record takes of the volume before it.
use Rattle.std.specs.Prelude.{ℕ, ◌≡◌}
use Rattle.model.specs.Records.{Change, Edit, set_file, write, truncate, size_before}
use Rattle.model.specs.Volumes.{Volume}
pub use Rattle.records.specs.Prepared.{KnowsFile}

-- the file that a record writes to or gives a size has this size in the volume; of any other record no
-- size is asked
abbrev pub IsSizeBy : Volume → Edit → ℕ → Type 0
IsSizeBy v (write number offset bytes) size = size ≡ size_before v number
IsSizeBy v (truncate number new) size = size ≡ size_before v number
IsSizeBy v (set_file number mode new) size = size ≡ size_before v number
IsSizeBy v edit size = Unit {0}

abbrev pub IsSizeBefore : Volume → Change → ℕ → Type 0
IsSizeBefore v change size = IsSizeBy v change.edit size
