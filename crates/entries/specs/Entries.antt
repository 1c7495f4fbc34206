-- Entries in a row: one taken away, and how long they are.
use Rattle.std.specs.Prelude.{ℕ, ◌≡◌, ◌+◌, ◌<◌, ◌≤◌, List, [], ◌∷◌, length, bytes_eq, if◌then◌else◌}
use Rattle.layout.specs.Directory.{Named, entry_bytes}
use Rattle.model.specs.declared.limits.TheConstants.{FIRST_NUMBER}
use Rattle.model.specs.Paths.{Name}

-- the number of an object, in an image of so many inodes
abbrev pub IsObjectNumber : ℕ → ℕ → Type 0
IsObjectNumber inodes number = (FIRST_NUMBER ≤ number) × (number < inodes)

-- these entries without a name
abbrev pub without : Name → List Named → List Named
without name [] = []
without name (e ∷ entries) = if bytes_eq name e.name then entries else e ∷ without name entries

-- how many bytes these entries have
abbrev pub used_by : List Named → ℕ
used_by [] = 0
used_by (e ∷ entries) = length (entry_bytes e) + used_by entries

-- one entry of so many bytes less
pub record IsOneFewer (bytes : ℕ) (entries others : List Named) : Type 0 where
  pub names : length entries ≡ length others + 1
  pub used : used_by entries ≡ used_by others + bytes
