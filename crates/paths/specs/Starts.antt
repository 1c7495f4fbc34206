-- Where the text of a path leads, from the root or from the number of an object.
use Rattle.std.specs.Prelude.{ℕ, ◌≡◌, ◌≢◌, ◌⊎◌, Bool, true, false, List, Some, None}
use Rattle.model.specs.declared.errno.Errno.TheVariants.{ELOOP, ENOTDIR, ESTALE}
use Rattle.model.specs.Finding.{IsPlaceAt}
use Rattle.model.specs.Paths.{Name, Path, is_empty, parts_behind, start_number}
use Rattle.model.specs.Resolution.{Resolution, refused, resolve, resolve_within}
use Rattle.model.specs.Trees.{HasPath, IsNumbered, IsPathOf, Object, Tree, directory, is_directory, symlink}
use Rattle.model.specs.Volumes.{Volume, object_of}
use Rattle.paths.specs.Numbers.{IsInodeNumber}
use Rattle.paths.specs.Places.{IsPlaceWithin, model_place_of}
use Rattle.paths.specs.Ends.{EndsWell, IsAtName, TellsName}
use Rattle.paths.specs.Steps.{found_in}
use Rattle.paths.specs.declared.lookup.Found.TheVariants as found
use Rattle.paths.specs.declared.place.Target.{Target}
use Rattle.paths.specs.declared.place.Target.TheVariants as target

-- names lead from the directory with a number, at its path
pub record FromDirectory (t : Tree) (follow : Bool) (names : List Name) (n : ℕ) (r : Resolution) : Type 0 where
  pub path : Path
  pub object : IsNumbered t n (directory n)
  pub stands : IsPathOf t n path
  pub is : r ≡ resolve_within 0 t follow path names

-- names stand behind an object that is no directory
pub record FromOther (t : Tree) (names : List Name) (n : ℕ) (r : Resolution) : Type 0 where
  pub object : Object
  pub has : IsNumbered t n object
  pub other : is_directory (Some object) ≡ false
  pub some : is_empty names ≡ false
  pub is : r ≡ refused ENOTDIR

-- a link itself would be followed
pub record FromLink (t : Tree) (follow : Bool) (names : List Name) (n : ℕ) (r : Resolution) : Type 0 where
  pub text : List ℕ
  pub has : IsNumbered t n (symlink n text)
  pub none : is_empty names ≡ true
  pub follows : follow ≡ true
  pub is : r ≡ refused ELOOP

-- nothing with the number stands at a path
pub record FromNothing (t : Tree) (n : ℕ) (r : Resolution) : Type 0 where
  pub none : ¬ HasPath t n
  pub is : r ≡ refused ESTALE

-- where names lead from a number
abbrev pub LeadsFrom : Tree → Bool → List Name → ℕ → Resolution → Type 0
LeadsFrom t follow names n r = FromDirectory t follow names n r ⊎ FromOther t names n r ⊎ FromLink t follow names n r ⊎ FromNothing t n r

-- where a text leads
abbrev pub Reaches : Tree → Bool → List ℕ → Resolution → Type 0
Reaches t follow text r = elim (start_number text) [
  | None ↦ r ≡ resolve t follow text
  | Some n ↦ LeadsFrom t follow (parts_behind text) n r
]

-- a number alone leads to an object that is no directory, and no link that would be followed
pub record IsAlone (t : Tree) (v : Volume) (follow : Bool) (names : List Name) (n : ℕ) : Type 0 where
  pub object : Object
  pub here : object_of n (v n) ≡ Some object
  pub has : IsNumbered t n object
  pub other : is_directory (Some object) ≡ false
  pub none : is_empty names ≡ true
  pub unfollowed : follow ≡ true → found_in (v n) ≢ found.Link

-- this is where names lead from a number
abbrev pub TellsFrom : Tree → Volume → Bool → List Name → ℕ → Target → Type 0
TellsFrom t v follow names n (target.Place p) = (r : Resolution) × LeadsFrom t follow names n r × IsPlaceAt v (model_place_of p) r
TellsFrom t v follow names n (target.Object k) = (k ≡ n) × IsAlone t v follow names n

-- and where a text leads
abbrev pub TellsTarget : Tree → Volume → Bool → List ℕ → Target → Type 0
TellsTarget t v follow text (target.Place p) = (r : Resolution) × Reaches t follow text r × IsPlaceAt v (model_place_of p) r
TellsTarget t v follow text (target.Object k) = (start_number text ≡ Some k) × IsAlone t v follow (parts_behind text) k

-- each number that is told is one of an object
abbrev pub IsTargetWithin : ℕ → Target → Type 0
IsTargetWithin inodes (target.Place p) = IsPlaceWithin inodes p
IsTargetWithin inodes (target.Object n) = IsInodeNumber inodes n

-- a last link that is followed isn't where it leads
abbrev pub TargetEndsWell : Volume → Bool → Target → Type 0
TargetEndsWell v follow (target.Place p) = EndsWell v follow (model_place_of p)
TargetEndsWell v follow (target.Object n) = follow ≡ true → found_in (v n) ≢ found.Link

-- it leads to a name of a directory, or nowhere
abbrev pub IsTargetAtName : Target → Type 0
IsTargetAtName (target.Place p) = IsAtName (model_place_of p)
IsTargetAtName (target.Object n) = ⊥

-- what a directory has at a name that is told is so
abbrev pub TargetTellsName : Volume → Target → Type 0
TargetTellsName v (target.Place p) = TellsName v (model_place_of p)
TargetTellsName v (target.Object n) = Unit {0}
