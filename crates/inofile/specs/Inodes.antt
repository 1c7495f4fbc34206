-- The inodes of an image as they are: in memory, or else settled.
use Rattle.std.specs.Prelude.{ℕ, ◌≡◌, List, Option, Some, None, Bool, true, false}
use Rattle.std.specs.Option.{option_map}
use Rattle.std.specs.Ordering.{nat_cmp}
use Rattle.std.specs.BTreeMap as tree
use Rattle.layout.specs.declared.inode.Inode.{Inode}
use Rattle.layout.specs.declared.trees.Layout.{Layout}
use Rattle.images.specs.Contents.{Content}
use Rattle.images.specs.Roots.{free_inode}
use Rattle.inode.specs.declared.object.Object.{Object}
use Rattle.inofile.specs.Settled.{content_of_object, held_content, settled_content}
pub use Rattle.inofile.specs.Slots.{IsChangedSlot}
use Rattle.inofile.specs.declared.inode_file.ObjectSlot.{ObjectSlot}
use Rattle.inofile.specs.declared.inode_file.ObjectSlot.TheVariants.{AsSettled, Loaded, Changed}
use Rattle.inofile.specs.declared.inode_file.InodeFile.{InodeFile}

-- an object with what is in memory of it over what is settled
abbrev pub slot_content : (ℕ → List ℕ) → Option ObjectSlot → Option Content → Option Content
slot_content disk (Some AsSettled) below = below
slot_content disk (Some (Loaded object)) below = option_map (content_of_object disk) object
slot_content disk (Some (Changed object)) below = option_map (content_of_object disk) object
slot_content disk None below = below

-- the map from numbers to objects
abbrev pub content_at : (ℕ → List ℕ) → (ℕ → Inode) → InodeFile → ℕ → Option Content
content_at disk settled s n =
    slot_content disk (tree.get nat_cmp s.slots n) (settled_content disk (settled n))

-- an object's content, or that of a free inode
abbrev pub or_free_content : Layout → (ℕ → List ℕ) → Option Content → Content
or_free_content layout disk (Some content) = content
or_free_content layout disk None = held_content disk (free_inode layout)

-- the content of each number
abbrev pub files_of : (ℕ → List ℕ) → (ℕ → Inode) → InodeFile → ℕ → Content
files_of disk settled s n = or_free_content s.geometry.layout disk (content_at disk settled s n)

-- no object differs
abbrev pub SameObjects : (ℕ → List ℕ) → (ℕ → Inode) → InodeFile → InodeFile → Type 0
SameObjects disk settled old new =
    (n : ℕ) → content_at disk settled new n ≡ content_at disk settled old n

abbrev pub slot_object : Option ObjectSlot → Option Object
slot_object (Some AsSettled) = None
slot_object (Some (Loaded object)) = object
slot_object (Some (Changed object)) = object
slot_object None = None

-- the object in memory with a number, if there is one
abbrev pub loaded : InodeFile → ℕ → Option Object
loaded s n = slot_object (tree.get nat_cmp s.slots n)

abbrev pub IsKnownSlot : Option ObjectSlot → Type 0
IsKnownSlot (Some AsSettled) = ⊥
IsKnownSlot (Some (Loaded object)) = Unit {0}
IsKnownSlot (Some (Changed object)) = Unit {0}
IsKnownSlot None = ⊥

-- the object with a number, or that there is none, is in memory
abbrev pub IsKnown : InodeFile → ℕ → Type 0
IsKnown s n = IsKnownSlot (tree.get nat_cmp s.slots n)

-- there is room to change the object with a number
abbrev pub HasRoomFor : InodeFile → ℕ → Type 0
HasRoomFor s n = tree.ContainsKey nat_cmp s.slots n

abbrev pub is_changed_slot : Option ObjectSlot → Bool
is_changed_slot (Some AsSettled) = false
is_changed_slot (Some (Loaded object)) = false
is_changed_slot (Some (Changed object)) = true
is_changed_slot None = false

-- the object with a number is to be stored by the next consistency point
abbrev pub IsChanged : InodeFile → ℕ → Type 0
IsChanged s n = IsChangedSlot (tree.get nat_cmp s.slots n)

-- no object is to be stored by the next consistency point
abbrev pub HasNoChange : InodeFile → Type 0
HasNoChange s = (n : ℕ) → IsChanged s n → ⊥
