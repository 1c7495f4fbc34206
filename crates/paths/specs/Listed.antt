-- Names that are listed with their numbers, whatever memory stands for.
use Rattle.std.specs.Prelude.{ℕ, List, All}
use Rattle.dirs.specs.Listings.{AreInOrder}
use Rattle.dirs.specs.declared.directory.NumberedName.{NumberedName}
use Rattle.paths.specs.Numbers.{IsInodeNumber}

-- the names are in their order, each once, and each number is one of an object
pub record IsListedWithin (inodes : ℕ) (listed : List NumberedName) : Type 0 where
  pub ordered : AreInOrder listed
  pub numbers : All (λ n. IsInodeNumber inodes n.number) listed
