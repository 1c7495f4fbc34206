-- The tree of a file system: what stands at each path, and what each file holds.
use Rattle.std.specs.Prelude.{ℕ, ◌≡◌, ◌≢◌, ◌⊎◌, ◌↔◌, ◌≤◌, ◌<◌, ◌==◌, if◌then◌else◌, Bool, true, false, IsTrue, IsSome, List, [], ◌∷◌, ◌++◌, length, All, Option, Some, None, IfSome}
use Rattle.model.specs.declared.attributes.Attributes.{Attributes}
use Rattle.model.specs.declared.limits.TheConstants.{ROOT_NUMBER, FIRST_NUMBER, GREATEST_OFFSET, OPEN_FILES}
use Rattle.model.specs.declared.limits.Limits.{Limits}
use Rattle.model.specs.Attributes.{FitAttributes, mode_alone, new_attributes}
use Rattle.model.specs.Counting.{CountsUpTo}
use Rattle.model.specs.Limits.{AreLimits}
use Rattle.model.specs.Paths.{Path, IsName, IsLinkText, path_eq}

-- what can stand at a path, with its inode number
pub data Object : Type 0 where
  directory : ℕ → Object
  symlink : ℕ → List ℕ → Object  -- and its text
  file : ℕ → Object

-- an object's inode number
abbrev pub number_of_object : Object → ℕ
number_of_object (directory n) = n
number_of_object (symlink n text) = n
number_of_object (file n) = n

-- a directory stands there
abbrev pub is_directory : Option Object → Bool
is_directory (Some (directory n)) = true
is_directory _ = false

-- an open file description (POSIX.1-2017, Base Definitions, "Open File Description")
pub record Description : Type 0 where
  pub number : ℕ
  pub offset : ℕ
  pub reads : Bool
  pub writes : Bool
  pub appends : Bool

-- four maps: what stands at each path, the bytes and the attributes by number, and the descriptors
pub record Tree : Type 0 where
  pub objects : Path → Option Object
  pub bytes : ℕ → Option (List ℕ)  -- of the files, by their numbers
  pub attributes : ℕ → Option Attributes  -- of each object, by its number
  pub descriptors : ℕ → Option Description

-- an object of this number and kind stands at a path
abbrev pub StandsAtPath : Tree → (ℕ → Object) → ℕ → Type 0
StandsAtPath t kind n = (p : Path) × (t.objects p ≡ Some (kind n))

-- the number stands at a path
abbrev pub HasPath : Tree → ℕ → Type 0
HasPath t n = (p : Path) × (o : Object) × (t.objects p ≡ Some o) × (number_of_object o ≡ n)

-- the number stands in a descriptor
abbrev pub IsOpen : Tree → ℕ → Type 0
IsOpen t n = (d : ℕ) × (f : Description) × (t.descriptors d ≡ Some f) × (f.number ≡ n)

-- the number stands at a path or in a descriptor
abbrev pub IsUsed : Tree → ℕ → Type 0
IsUsed t n = HasPath t n ⊎ IsOpen t n

-- an object with this number stands at a path
abbrev pub HasNumber : Tree → ℕ → Object → Type 0
HasNumber t n o = (p : Path) × (t.objects p ≡ Some o) × (number_of_object o ≡ n)

-- the one object that has a number, at whichever paths
pub record IsNumbered (t : Tree) (n : ℕ) (o : Object) : Type 0 where
  pub has : HasNumber t n o
  pub only : (r : Object) → HasNumber t n r → r ≡ o

-- the one path of the directory with a number
pub record IsPathOf (t : Tree) (n : ℕ) (p : Path) : Type 0 where
  pub stands : t.objects p ≡ Some (directory n)
  pub only : (q : Path) → t.objects q ≡ Some (directory n) → q ≡ p

-- what makes the four maps a tree within limits
pub record IsTree (limits : Limits) (t : Tree) : Type 0 where
  pub can_be : AreLimits limits
  pub root : t.objects [] ≡ Some (directory ROOT_NUMBER)
  pub above : (p q : Path) → q ≢ [] → IsSome (t.objects (p ++ q)) → IsTrue (is_directory (t.objects p))
  pub names : (p : Path) → IsSome (t.objects p) → All IsName p
  -- only a file may stand at several paths
  pub single : (p q : Path) (o r : Object) → t.objects p ≡ Some o → t.objects q ≡ Some r → number_of_object o ≡ number_of_object r → (p ≡ q) ⊎ ((o ≡ file (number_of_object o)) × (r ≡ o))
  pub bytes : (n : ℕ) → IsSome (t.bytes n) ↔ (StandsAtPath t file n ⊎ IsOpen t n)
  pub attributes : (n : ℕ) → IsSome (t.attributes n) ↔ IsUsed t n
  pub opened : (n : ℕ) (p : Path) (o : Object) → IsOpen t n → t.objects p ≡ Some o → number_of_object o ≡ n → o ≡ file n
  -- and the limits
  pub numbers : (n : ℕ) → IsUsed t n → (n ≡ ROOT_NUMBER) ⊎ ((FIRST_NUMBER ≤ n) × (n < limits.inodes))
  pub texts : (p : Path) (n : ℕ) (text : List ℕ) → t.objects p ≡ Some (symlink n text) → IsLinkText limits.path_bytes text
  pub children : (p : Path) → IsTrue (is_directory (t.objects p)) → CountsUpTo limits.directory_names (λ name. IsSome (t.objects (p ++ name ∷ [])))
  pub links : (n : ℕ) → CountsUpTo limits.file_names (λ p. t.objects p ≡ Some (file n))
  pub sizes : (n : ℕ) → IfSome (t.bytes n) (λ bytes. length bytes ≤ limits.file_bytes)
  pub fit : (n : ℕ) → IfSome (t.attributes n) (FitAttributes limits.has_attributes)
  pub table : (d : ℕ) → OPEN_FILES ≤ d → t.descriptors d ≡ None
  pub offsets : (d : ℕ) (f : Description) → t.descriptors d ≡ Some f → f.offset ≤ GREATEST_OFFSET

-- the tree of a root directory alone
abbrev pub root_alone : ℕ → Tree
root_alone mode = record {
  objects = λ p. if path_eq p [] then Some (directory ROOT_NUMBER) else None;
  bytes = λ n. None;
  attributes = λ n. if n == ROOT_NUMBER then Some (new_attributes (mode_alone mode)) else None;
  descriptors = λ d. None;
}
