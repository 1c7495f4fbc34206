-- A search for what lies below an object.
use Rattle.std.specs.Prelude.{ℕ, ◌≡◌, ◌+◌, ◌≤◌, ◌⊎◌, Bool, true, false, if◌then◌else◌, List, Some, length, slice_index_or}
use Rattle.std.specs.List.{Contains, sum_by}
use Rattle.model.specs.Paths.{Name}
use Rattle.model.specs.Records.{IsBelow}
use Rattle.model.specs.Volumes.{Entries}

-- a name of the object d stands for n
abbrev pub IsChild : Entries → ℕ → ℕ → Type 0
IsChild e d n = (x : Name) × (e d x ≡ Some n)

-- a number is marked
abbrev pub IsMarkedNumber : List Bool → ℕ → Type 0
IsMarkedNumber marks n = slice_index_or marks n false ≡ true

-- how many numbers aren't marked yet
abbrev pub count_unmarked : List Bool → ℕ
count_unmarked marks = sum_by (λ mark. if mark then 0 else 1) marks

-- A search from an object on has marked only what lies below it, and marks what has a name in each
-- marked object that isn't left to be looked into.
pub record Searches (e : Entries) (top : ℕ) (marks : List Bool) (left : List ℕ) : Type 0 where
  pub itself : IsMarkedNumber marks top
  pub below : (n : ℕ) → IsMarkedNumber marks n → IsBelow e top n
  pub marked : (n : ℕ) → Contains left n → IsMarkedNumber marks n
  pub closed : (d n : ℕ) → IsMarkedNumber marks d → IsChild e d n → IsMarkedNumber marks n ⊎ Contains left d

-- Marks come, and none goes; what is marked then is left to be looked into.
pub record MarksMore (marks after : List Bool) (left rest : List ℕ) : Type 0 where
  pub same_length : length after ≡ length marks
  pub fewer : count_unmarked after + length rest ≤ count_unmarked marks + length left
  pub kept : (n : ℕ) → IsMarkedNumber marks n → IsMarkedNumber after n
  pub still_left : (n : ℕ) → Contains left n → Contains rest n
  pub fresh : (n : ℕ) → IsMarkedNumber after n → IsMarkedNumber marks n ⊎ Contains rest n
  pub marked : ((n : ℕ) → Contains left n → IsMarkedNumber marks n) → (n : ℕ) → Contains rest n → IsMarkedNumber after n
