-- The tree as numbered objects: what the file system has, and the tree that it stands for.
use Rattle.std.specs.Prelude.{ℕ, zero, suc, ◌||◌, ◌≡◌, ◌≢◌, ◌⊎◌, ◌+◌, ◌-◌, ◌≤◌, ◌<◌, ◌==◌, ◌&&◌, if◌then◌else◌, IsSome, IfSome, Bool, true, false, IsTrue, IsFalse, List, length, fold, bytes_eq, not, Option, Some, None, is_some}
use Rattle.model.specs.declared.limits.TheConstants.{ROOT_NUMBER, FIRST_NUMBER, GREATEST_OFFSET, OPEN_FILES}
use Rattle.model.specs.declared.attributes.Attributes.{Attributes}
use Rattle.model.specs.declared.limits.Limits.{Limits}
use Rattle.model.specs.Attributes.{FitAttributes}
use Rattle.model.specs.Counting.{Counts, CountsUpTo}
use Rattle.model.specs.Limits.{AreLimits}
use Rattle.model.specs.Paths.{Name, Path, IsName, IsLinkText}
use Rattle.model.specs.Trees.{Tree, Object, directory, symlink, file, Description}

-- an object with its attributes: a directory with the numbers of its names, a file with its count
-- of names and its bytes, or a link with its text. The count stands beside the attributes, since
-- the names of the volume give it.
pub data Node : Type 0 where
  directory_node : Attributes → (Name → Option ℕ) → Node
  file_node : Attributes → ℕ → List ℕ → Node
  link_node : Attributes → List ℕ → Node

-- each number's object
abbrev pub Volume : Type 0
Volume = ℕ → Option Node

-- which number each directory has at each name
abbrev pub Entries : Type 0
Entries = ℕ → Name → Option ℕ

-- the number that an object has at a name: only a directory has any
abbrev pub names_in : Option Node → Name → Option ℕ
names_in (Some (directory_node attributes names)) x = names x
names_in _ x = None

-- the entries of a volume's directories
abbrev pub entries : Volume → Entries
entries v n x = names_in (v n) x

-- one step down from a number, by a name
abbrev pub enter : Entries → Option ℕ → Name → Option ℕ
enter e None x = None
enter e (Some n) x = e n x

-- the number at a path: from the root on, name by name
abbrev pub number_at : Entries → Path → Option ℕ
number_at e p = fold (enter e) (Some ROOT_NUMBER) p

-- what a number stands for in a tree of paths, by its object
abbrev pub object_of : ℕ → Option Node → Option Object
object_of n None = None
object_of n (Some (directory_node attributes names)) = Some (directory n)
object_of n (Some (file_node attributes links bytes)) = Some (file n)
object_of n (Some (link_node attributes text)) = Some (symlink n text)

-- what stands where this number is found, if one is
abbrev pub object_at : Volume → Option ℕ → Option Object
object_at v None = None
object_at v (Some n) = object_of n (v n)

-- a file's bytes; no other object has any
abbrev pub bytes_of_node : Option Node → Option (List ℕ)
bytes_of_node (Some (file_node attributes links bytes)) = Some bytes
bytes_of_node _ = None

-- an object's attributes
abbrev pub attributes_of : Option Node → Option Attributes
attributes_of None = None
attributes_of (Some (directory_node attributes names)) = Some attributes
attributes_of (Some (file_node attributes links bytes)) = Some attributes
attributes_of (Some (link_node attributes text)) = Some attributes

-- the tree that a volume stands for, with these descriptors
abbrev pub tree_of : Volume → (ℕ → Option Description) → Tree
tree_of v table = record {
  objects = λ p. object_at v (number_at (entries v) p);
  bytes = λ n. bytes_of_node (v n);
  attributes = λ n. attributes_of (v n);
  descriptors = table;
}

-- the volume with another object, or none, at a number
abbrev pub with_node : ℕ → Option Node → Volume → Volume
with_node n node v k = if k == n then node else v k

-- the entries with another number, or none, at a name of a directory
abbrev pub with_edge : ℕ → Name → Option ℕ → Entries → Entries
with_edge d x to e n y = if n == d && bytes_eq y x then to else e n y

-- a directory with another number, or none, at a name
abbrev pub set_name : Name → Option ℕ → Option Node → Option Node
set_name x to (Some (directory_node attributes names)) = Some (directory_node attributes (λ y. if bytes_eq y x then to else names y))
set_name x to o = o

-- the volume with another number, or none, at a name of a directory
abbrev pub with_entry : ℕ → Name → Option ℕ → Volume → Volume
with_entry d x to v = with_node d (set_name x to (v d)) v

-- the object is a file
abbrev pub is_file_node : Option Node → Bool
is_file_node (Some (file_node attributes links bytes)) = true
is_file_node _ = false

-- the object is a directory
abbrev pub is_directory_node : Option Node → Bool
is_directory_node (Some (directory_node attributes names)) = true
is_directory_node _ = false

-- so many names lead to the number n
abbrev pub HasNames : Entries → ℕ → ℕ → Type 0
HasNames e n count = Counts (λ (place : ℕ × Name). e place.0 place.1 ≡ Some n) count

-- what names and numbers keep: each name leads to an object, only a file has several, and each
-- directory and link is reached from the root
pub record IsNaming (v : Volume) : Type 0 where
  pub root : IsTrue (is_directory_node (v ROOT_NUMBER))
  pub not_root : (d : ℕ) (x : Name) → entries v d x ≢ Some ROOT_NUMBER
  pub used : (d n : ℕ) (x : Name) → entries v d x ≡ Some n → IsSome (v n)
  -- only a file may have several names
  pub once : (d k n : ℕ) (x y : Name) → entries v d x ≡ Some n → entries v k y ≡ Some n → IsFalse (is_file_node (v n)) → (d ≡ k) × (x ≡ y)
  pub names : (d : ℕ) (x : Name) → IsSome (entries v d x) → IsName x
  pub reached : (n : ℕ) → IsSome (v n) → IsFalse (is_file_node (v n)) → (p : Path) × (number_at (entries v) p ≡ Some n)

-- each file counts its names
abbrev pub CountsNames : Volume → Type 0
CountsNames v =
    (n : ℕ) (attributes : Attributes) (links : ℕ) (bytes : List ℕ) → v n ≡ Some (file_node attributes links bytes) → HasNames (entries v) n links

-- both
pub record IsGraph (v : Volume) : Type 0 where
  pub naming : IsNaming v
  pub counts : CountsNames v

-- the limits that one object keeps
abbrev pub IsNode : Limits → Node → Type 0
IsNode limits (directory_node attributes names) = FitAttributes limits.has_attributes attributes
IsNode limits (file_node attributes links bytes) =
    FitAttributes limits.has_attributes attributes × (links ≤ limits.file_names) × (length bytes ≤ limits.file_bytes)
IsNode limits (link_node attributes text) = FitAttributes limits.has_attributes attributes × IsLinkText limits.path_bytes text

-- the limits that all objects keep
pub record KeepsNodeLimits (limits : Limits) (v : Volume) : Type 0 where
  pub nodes : (n : ℕ) → IfSome (v n) (IsNode limits)
  pub numbers : (n : ℕ) → IsSome (v n) → (n ≡ ROOT_NUMBER) ⊎ ((FIRST_NUMBER ≤ n) × (n < limits.inodes))
  pub children : (d : ℕ) → CountsUpTo limits.directory_names (λ x. IsSome (entries v d x))

-- what makes numbered objects a volume within limits; images that open to no state may name
-- none, so where this is needed, it is a premise
pub record IsVolume (limits : Limits) (v : Volume) : Type 0 where
  pub can_be : AreLimits limits
  pub graph : IsGraph v
  pub keeps : KeepsNodeLimits limits v

-- an object with one name fewer: a file stays, another object is gone with its name
abbrev pub with_name_less : Option Node → Option Node
with_name_less (Some (file_node attributes links bytes)) = Some (file_node attributes (links - 1) bytes)
with_name_less _ = None

-- an object with one name more, which only a file counts
abbrev pub with_name_more : Option Node → Option Node
with_name_more (Some (file_node attributes links bytes)) = Some (file_node attributes (links + 1) bytes)
with_name_more o = o

-- the volume in which what a name led to, if anything, has a name less
abbrev pub released : Option ℕ → Volume → Volume
released None v = v
released (Some n) v = with_node n (with_name_less (v n)) v

-- the volume after a creation: this object has this number, and a name in the directory d
abbrev pub created : ℕ → ℕ → Name → Node → Volume → Volume
created n d x node v = with_entry d x (Some n) (with_node n (Some node) v)

-- the volume after a link: the file n has one more name, in the directory d
abbrev pub linked : ℕ → ℕ → Name → Volume → Volume
linked n d x v = with_entry d x (Some n) (with_node n (with_name_more (v n)) v)

-- the volume after a removal: the directory d has a name less, and so has what it led to
abbrev pub unnamed : ℕ → Name → Volume → Volume
unnamed d x v = with_entry d x None (released (entries v d x) v)

-- the volume after a move: what has the name x in d has the name y in k, and what had that name has
-- it no more
abbrev pub renamed : ℕ → Name → ℕ → Name → Volume → Volume
renamed d x k y v = with_entry k y (entries v d x) (with_entry d x None (released (entries v k y) v))

-- a descriptor is open for this number
abbrev pub is_numbered : Option Description → ℕ → Bool
is_numbered None n = false
is_numbered (Some f) n = f.number == n

-- a number stands in one of the first so many descriptors
abbrev pub is_open : (ℕ → Option Description) → ℕ → ℕ → Bool
is_open table zero n = false
is_open table (suc d) n = is_numbered (table d) n || is_open table d n

-- the object is an orphan: a file that no directory names
abbrev pub is_orphan : Option Node → Bool
is_orphan (Some (file_node attributes zero bytes)) = true
is_orphan _ = false

-- a directory names the object, or it is the root
abbrev pub is_placed_node : Option Node → Bool
is_placed_node o = is_some o && not (is_orphan o)

-- an object, or none where it is an orphan that isn't open
abbrev pub swept_node : Bool → Option Node → Option Node
swept_node open_now (Some (file_node attributes zero bytes)) = if open_now then Some (file_node attributes zero bytes) else None
swept_node open_now o = o

-- the volume without the files that have neither name nor descriptor
abbrev pub swept : (ℕ → Option Description) → Volume → Volume
swept table v n = swept_node (is_open table OPEN_FILES n) (v n)

-- the descriptors fit the volume: what is open is a file, and orphans are open
pub record IsMounted (v : Volume) (table : ℕ → Option Description) : Type 0 where
  pub files : (d : ℕ) (f : Description) → table d ≡ Some f → IsTrue (is_file_node (v f.number))
  pub is_swept : (n : ℕ) → swept table v n ≡ v n
  pub bounded : (d : ℕ) → OPEN_FILES ≤ d → table d ≡ None
  pub offsets : (d : ℕ) (f : Description) → table d ≡ Some f → f.offset ≤ GREATEST_OFFSET
