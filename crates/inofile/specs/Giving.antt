-- A number gets an object, or none.
use Rattle.std.specs.Prelude.{ℕ, ◌≡◌, ◌≢◌, ◌+◌, ◌==◌, ◌↔◌, List, Option, Some, if◌then◌else◌}
use Rattle.std.specs.Option.{option_map}
use Rattle.std.specs.Ordering.{nat_cmp}
use Rattle.std.specs.BTreeMap as tree
use Rattle.layout.specs.declared.inode.Inode.{Inode}
use Rattle.model.specs.Volumes.{Node, Volume, with_node}
use Rattle.images.specs.Soundness.{Detail}
use Rattle.inode.specs.declared.object.Object.{Object}
use Rattle.inofile.specs.Inodes as inodes
use Rattle.inofile.specs.Inodes.{content_at, IsKnown, HasRoomFor, IsChanged}
use Rattle.inofile.specs.Objects.{IsObjectOrNone}
use Rattle.inofile.specs.Room.{memory_room, number_room, room_of}
use Rattle.inofile.specs.Settled.{content_of_object}
use Rattle.inofile.specs.Volumes.{IsVolumeIn, IsVolumeWithout}
use Rattle.inofile.specs.declared.inode_file.InodeFile.{InodeFile}
use Rattle.inofile.specs.declared.inode_file.ObjectSlot.TheVariants.{Changed}

-- The number has this object, or none, and the next consistency point stores it. All others are as
-- they were. What a point may store changes for this number alone, over memory as it was, or as it
-- was before an object was taken out of the number.
pub record IsGiven (number : ℕ) (object : Option Object) (old new : InodeFile) : Type 0 where
  pub geometry : new.geometry ≡ old.geometry
  pub file : new.file ≡ old.file
  pub stays : (n : ℕ) → IsKnown old n → IsKnown new n
  pub keeps : (n : ℕ) → HasRoomFor old n → HasRoomFor new n
  pub set : (disk : ℕ → List ℕ) (settled : ℕ → Inode) (n : ℕ)
      → content_at disk settled new n ≡ (if n == number then option_map (content_of_object disk) object else content_at disk settled old n)
  pub volume : {detail : Detail} (count : ℕ) (disk : ℕ → List ℕ) (settled : ℕ → Inode) (v : Volume) (node : Option Node)
      → IsVolumeIn detail count disk settled old v → IsObjectOrNone detail disk old.geometry.inodes (settled number) object node
      → IsVolumeIn detail count disk settled new (with_node number node v)
  pub back : {detail : Detail} (was : Option Object) (count : ℕ) (disk : ℕ → List ℕ) (settled : ℕ → Inode) (v : Volume) (node : Option Node)
      → IsVolumeWithout detail number was count disk settled old v → IsObjectOrNone detail disk old.geometry.inodes (settled number) object node
      → IsVolumeIn detail count disk settled new (with_node number node v)
  pub loaded : inodes.loaded new number ≡ object
  pub rest : (n : ℕ) → n ≢ number → inodes.loaded new n ≡ inodes.loaded old n
  pub changed : IsChanged new number
  pub others : (n : ℕ) → n ≢ number → (IsChanged new n ↔ IsChanged old n)
  pub slot : tree.get nat_cmp new.slots number ≡ Some (Changed object)
  pub slots : (n : ℕ) → n ≢ number → tree.get nat_cmp new.slots n ≡ tree.get nat_cmp old.slots n
  pub room : (before : InodeFile) (base v : Volume) (node : Option Node) → old.geometry ≡ before.geometry
      → ((n : ℕ) → n ≢ number → tree.get nat_cmp old.slots n ≡ tree.get nat_cmp before.slots n)
      → memory_room base new (with_node number node v) + number_room base before v number
      ≡ memory_room base before v + room_of (Some (Changed object)) (base number) node
