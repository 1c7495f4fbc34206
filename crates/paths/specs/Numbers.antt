-- Numbers of objects.
use Rattle.std.specs.Prelude.{ℕ, ◌<◌, ◌≤◌, List, All}
use Rattle.model.specs.declared.limits.TheConstants.{ROOT_NUMBER}

-- the number of the root or of another object, in an image of so many inodes
abbrev pub IsInodeNumber : ℕ → ℕ → Type 0
IsInodeNumber inodes number = (ROOT_NUMBER ≤ number) × (number < inodes)

abbrev pub AreInodeNumbers : ℕ → List ℕ → Type 0
AreInodeNumbers inodes numbers = All (IsInodeNumber inodes) numbers
