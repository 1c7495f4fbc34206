-- What making an object over a path comes to.
use Rattle.std.specs.Prelude.{ℕ, ◌≡◌, ◌⊎◌, ◌≤◌, ◌<◌, Option, None, IsSome, Result, Ok, Err}
use Rattle.model.specs.declared.limits.Limits.{Limits}
use Rattle.model.specs.Paths.{Name}
use Rattle.model.specs.Records.{Made, IsMade, TakesName, create, stamped}
use Rattle.model.specs.Volumes.{Volume}
use Rattle.model.specs.declared.errno.Errno.{Errno}
use Rattle.model.specs.declared.errno.Errno.TheVariants.{DIRFULL, NONUMBER}
use Rattle.model.specs.declared.limits.TheConstants.{FIRST_NUMBER}
use Rattle.model.specs.declared.time.Time.{Time}
use Rattle.calls.specs.Changing.{change_by}
use Rattle.paths.specs.Numbers.{IsInodeNumber}
use Rattle.calls.specs.declared.changed.Changing.{Changing}
use Rattle.calls.specs.declared.changed.OwnedChange.{OwnedChange}
use Rattle.calls.specs.declared.changed.OwnedChange.TheVariants as owned

-- each number that an object may have is taken
abbrev pub HasNoNumber : ℕ → Volume → Type 0
HasNoNumber inodes v = (n : ℕ) → FIRST_NUMBER ≤ n → n < inodes → IsSome (v n)

-- the least number that no object has
pub record IsLeastFree (inodes : ℕ) (v : Volume) (n : ℕ) : Type 0 where
  pub low : FIRST_NUMBER ≤ n
  pub high : n < inodes
  pub free : v n ≡ None
  pub least : (k : ℕ) → FIRST_NUMBER ≤ k → k < n → IsSome (v k)

-- what is told of a name that a directory of a volume doesn't have, at this time
abbrev pub MakesIn : Limits → Option Time → Volume → ℕ → Name → Made → Result Changing Errno → Type 0
MakesIn limits now v parent name made (Err errno) =
    ((errno ≡ DIRFULL) × (TakesName limits v parent name → ⊥)) ⊎ ((errno ≡ NONUMBER) × TakesName limits v parent name × HasNoNumber limits.inodes v)
MakesIn limits now v parent name made (Ok c) =
    (n : ℕ) × (change_by c ≡ stamped now (create n parent made name)) × IsMade limits made × TakesName limits v parent name × IsLeastFree limits.inodes v n

-- what is changed is that an object of this number is made
abbrev pub CreatesNumber : ℕ → OwnedChange → Type 0
CreatesNumber n (owned.Create creation) = creation.number ≡ n
CreatesNumber n _ = ⊥

-- the same of some number of an image of so many inodes
abbrev pub CreatesObject : ℕ → OwnedChange → Type 0
CreatesObject inodes change = (n : ℕ) × CreatesNumber n change × IsInodeNumber inodes n
