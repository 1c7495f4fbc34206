-- The numbers of open files.
use Rattle.std.specs.Prelude.{ℕ, ◌≡◌, Some}
use Rattle.paths.specs.Numbers.{IsInodeNumber}
use Rattle.descriptors.specs.Tables.{open_at}
use Rattle.descriptors.specs.declared.open_file.OpenFile.{OpenFile}
use Rattle.descriptors.specs.declared.table.Descriptors.{Descriptors}

-- the open files have numbers of objects, in an image of so many inodes
pub record HasNumbers (inodes : ℕ) (table : Descriptors) : Type 0 where
  pub numbers : (fd : ℕ) (f : OpenFile) → open_at table fd ≡ Some f → IsInodeNumber inodes f.number
