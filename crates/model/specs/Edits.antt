-- What the changing calls make of a tree and of a file's bytes.
use Rattle.std.specs.Prelude.{ℕ, ◌≡◌, ◌==◌, ◌+◌, ◌-◌, if◌then◌else◌, List, [], ◌++◌, length, take, drop, replicate, Option, Some, None, unwrap_or}
use Rattle.std.specs.Option.{option_map}
use Rattle.model.specs.declared.attributes.Attributes.{Attributes}
use Rattle.model.specs.declared.attributes.Permissions.{Permissions}
use Rattle.model.specs.Attributes.{new_attributes, no_attributes, set_mode}
use Rattle.model.specs.Touches.{Touches, touched_at}
use Rattle.model.specs.declared.attributes.Touch.{Touch}
use Rattle.model.specs.declared.attributes.Touch.TheVariants.{Data, Status}
use Rattle.model.specs.declared.time.Time.{Time}
use Rattle.model.specs.Paths.{Path, path_eq, behind}
use Rattle.model.specs.Trees.{Tree, Object, number_of_object, directory, file, symlink, Description, IsUsed}

-- bytes truncated, or filled with zeros, to this size
abbrev pub resized : ℕ → List ℕ → List ℕ
resized size bytes = take size bytes ++ replicate (size - length bytes) 0

-- bytes with data written at an offset, and a gap before it filled with zeros
abbrev pub written : ℕ → List ℕ → List ℕ → List ℕ
written offset given bytes = resized offset bytes ++ given ++ drop (offset + length given) bytes

-- so many bytes from an offset on, as far as there are any
abbrev pub read_at : ℕ → ℕ → List ℕ → List ℕ
read_at offset count bytes = take count (drop offset bytes)

-- a file's bytes
abbrev pub contents : Tree → ℕ → List ℕ
contents t n = unwrap_or (t.bytes n) []

-- the attributes of an object
abbrev pub attributes_at : Tree → ℕ → Attributes
attributes_at t n = unwrap_or (t.attributes n) no_attributes

-- a map from paths with one path changed: something stands there, or nothing
abbrev pub put_at : {X : Type 0} → Path → Option X → (Path → Option X) → Path → Option X
put_at p o f q = if path_eq q p then o else f q

-- the tree with an object at a path
abbrev pub with_object : Path → Object → Tree → Tree
with_object p o t = record t { objects = put_at p (Some o) t.objects }

-- the tree with nothing at a path
abbrev pub without_object : Path → Tree → Tree
without_object p t = record t { objects = put_at p None t.objects }

-- the tree with attributes at a number
abbrev pub with_attributes : ℕ → Attributes → Tree → Tree
with_attributes n a t = record t { attributes = λ k. if k == n then Some a else t.attributes k }

-- the tree with the attributes of a number changed
abbrev pub changing_attributes : ℕ → (Attributes → Attributes) → Tree → Tree
changing_attributes n f t = with_attributes n (f (attributes_at t n)) t

-- the tree with another mode at a number
abbrev pub with_mode : ℕ → ℕ → Tree → Tree
with_mode n mode t = changing_attributes n (set_mode mode) t

-- the tree with an object touched, if a number of one is given
abbrev pub touching : Time → Touch → Option ℕ → Tree → Tree
touching time touch None t = t
touching time touch (Some n) t =
    record t { attributes = λ k. if k == n then option_map (touched_at time touch) (t.attributes k) else t.attributes k }

-- the tree with all touched that a change touches, where it has a time
abbrev pub marked : Option Time → Touches → Tree → Tree
marked None touches t = t
marked (Some time) touches t =
    touching time Data touches.new_parent (touching time Data touches.parent
    (touching time Status touches.replaced (touching time touches.touch touches.object t)))

-- the number of what stands at a path
abbrev pub number_at_path : Tree → Path → Option ℕ
number_at_path t p = option_map number_of_object (t.objects p)

-- the tree with bytes at a file's number
abbrev pub with_bytes : ℕ → List ℕ → Tree → Tree
with_bytes n bytes t = record t { bytes = λ k. if k == n then Some bytes else t.bytes k }

-- the tree with a descriptor open by this description, or free
abbrev pub with_descriptor : ℕ → Option Description → Tree → Tree
with_descriptor d f t = record t { descriptors = λ k. if k == d then f else t.descriptors k }

-- the tree with a new directory at a path, of this number and these permissions
abbrev pub with_directory : Path → ℕ → Permissions → Tree → Tree
with_directory p n permissions t = with_object p (directory n) (with_attributes n (new_attributes permissions) t)

-- the tree with a new file of no bytes at a path, of this number and these permissions
abbrev pub with_file : Path → ℕ → Permissions → Tree → Tree
with_file p n permissions t = with_object p (file n) (with_attributes n (new_attributes permissions) (with_bytes n [] t))

-- the tree with a new symbolic link at a path, of this number, these permissions and this text
abbrev pub with_symlink : Path → ℕ → Permissions → List ℕ → Tree → Tree
with_symlink p n permissions text t = with_object p (symlink n text) (with_attributes n (new_attributes permissions) t)

-- what a move from p leaves at a path r: below the target what stood below p, below p nothing, and
-- elsewhere what stood there
abbrev pub relocate : {X : Type 0} → Option Path → Option Path → Path → (Path → Option X) → Path → Option X
relocate (Some rest) o p f r = f (p ++ rest)
relocate None (Some rest) p f r = None
relocate None None p f r = f r

-- a map from paths after a move: what stood at p and below it stands at q and below it, in place of
-- what stood there
abbrev pub relocated : {X : Type 0} → Path → Path → (Path → Option X) → Path → Option X
relocated p q f r = relocate (behind q r) (behind p r) p f r

-- the tree after a move of p, with all below it, to q
abbrev pub moved : Path → Path → Tree → Tree
moved p q t = record t { objects = relocated p q t.objects }

-- the new tree is the old one without the bytes and attributes of numbers that have neither path nor
-- descriptor
pub record IsSwept (old new : Tree) : Type 0 where
  pub objects : new.objects ≡ old.objects
  pub descriptors : new.descriptors ≡ old.descriptors
  pub kept : (n : ℕ) → IsUsed old n → (new.bytes n ≡ old.bytes n) × (new.attributes n ≡ old.attributes n)
  pub gone : (n : ℕ) → ¬ IsUsed old n → (new.bytes n ≡ None) × (new.attributes n ≡ None)
