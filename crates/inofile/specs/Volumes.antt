-- The volume that memory stands for, over the disk.
use Rattle.std.specs.Prelude.{ℕ, ◌≡◌, ◌≢◌, ◌↔◌, ◌⊎◌, ◌<◌, List, Option, Some, None, IsSome}
use Rattle.std.specs.Ordering.{nat_cmp}
use Rattle.std.specs.BTreeMap as tree
use Rattle.layout.specs.Maps.{IsTaken}
use Rattle.layout.specs.declared.inode.Inode.{Inode}
use Rattle.model.specs.declared.limits.TheConstants.{FIRST_NUMBER, ROOT_NUMBER}
use Rattle.model.specs.Volumes.{Node, Volume}
use Rattle.images.specs.Soundness.{Detail, by_bytes}
use Rattle.inode.specs.declared.object.Object.{Object}
use Rattle.images.specs.Sizes.{StandsForIn}
use Rattle.inofile.specs.Objects.{IsAsSettled, IsObjectOrNone}
use Rattle.inofile.specs.Settled.{held_content, AreSettledIn}
use Rattle.inofile.specs.declared.inode_file.ObjectSlot.{ObjectSlot}
use Rattle.inofile.specs.declared.inode_file.ObjectSlot.TheVariants.{AsSettled, Loaded, Changed}
use Rattle.inofile.specs.declared.inode_file.InodeFile.{InodeFile}

-- what memory has of a number, over its settled inode, stands for this object, or for none
abbrev pub SlotStandsFor : Detail → (ℕ → List ℕ) → ℕ → Inode → Option ObjectSlot → Option Node → Type 0
SlotStandsFor detail disk inodes settled (Some AsSettled) found =
    StandsForIn detail inodes (held_content disk settled) found
SlotStandsFor detail disk inodes settled (Some (Loaded object)) found =
    IsAsSettled disk settled object × IsObjectOrNone detail disk inodes settled object found
SlotStandsFor detail disk inodes settled (Some (Changed object)) found =
    IsObjectOrNone detail disk inodes settled object found
SlotStandsFor detail disk inodes settled None found = StandsForIn detail inodes (held_content disk settled) found

-- the inode map's bytes say which numbers are taken: the file system's own, and those of the
-- objects
abbrev pub MapsVolume : List ℕ → Volume → Type 0
MapsVolume bytes v = (n : ℕ) → IsTaken bytes n ↔ ((n < FIRST_NUMBER) ⊎ IsSome (v n))

-- the file system's own numbers have no objects
abbrev pub HasNoOwn : Volume → Type 0
HasNoOwn v = (n : ℕ) → n < ROOT_NUMBER → v n ≡ None

-- Memory stands for this volume, in so much detail, over a disk of so many blocks with these inodes
-- settled.
pub record IsVolumeIn (detail : Detail) (blocks : ℕ) (disk : ℕ → List ℕ) (settled : ℕ → Inode) (s : InodeFile) (v : Volume) : Type 0 where
  pub inodes : AreSettledIn detail blocks disk s.version s.geometry s.file settled
  pub mapped : MapsVolume s.numbers.bytes.items v
  pub own : HasNoOwn v
  pub objects : (n : ℕ)
      → SlotStandsFor detail disk s.geometry.inodes (settled n) (tree.get nat_cmp s.slots n) (v n)

abbrev pub IsVolumeOf : ℕ → (ℕ → List ℕ) → (ℕ → Inode) → InodeFile → Volume → Type 0
IsVolumeOf = IsVolumeIn by_bytes

-- what memory has of a number, with this object in it
abbrev pub slot_with : Option Object → Option ObjectSlot → Option ObjectSlot
slot_with object (Some AsSettled) = Some AsSettled
slot_with object (Some (Loaded out)) = Some (Loaded object)
slot_with object (Some (Changed out)) = Some (Changed object)
slot_with object None = None

-- the same with an object, or none, taken out of a number
pub record IsVolumeWithout (detail : Detail) (out : ℕ) (object : Option Object) (blocks : ℕ) (disk : ℕ → List ℕ) (settled : ℕ → Inode) (s : InodeFile) (v : Volume) : Type 0 where
  pub inodes : AreSettledIn detail blocks disk s.version s.geometry s.file settled
  pub mapped : MapsVolume s.numbers.bytes.items v
  pub own : HasNoOwn v
  pub taken : SlotStandsFor detail disk s.geometry.inodes (settled out)
      (slot_with object (tree.get nat_cmp s.slots out)) (v out)
  pub others : (n : ℕ) → n ≢ out
      → SlotStandsFor detail disk s.geometry.inodes (settled n) (tree.get nat_cmp s.slots n) (v n)
