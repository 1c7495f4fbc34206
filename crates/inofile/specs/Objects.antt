-- Objects in memory, and those of a volume that they stand for.
use Rattle.std.specs.Prelude.{ℕ, ◌≡◌, ◌≤◌, List, Option, Some, None}
use Rattle.layout.specs.Inode.{FitsKind}
use Rattle.layout.specs.Limits.{Sizes}
use Rattle.layout.specs.Trees.{has_attributes, level_of}
use Rattle.layout.specs.declared.inode.Inode.{Inode}
use Rattle.layout.specs.declared.kind.Kind.{Kind}
use Rattle.layout.specs.declared.kind.Kind.TheVariants as kinds
use Rattle.model.specs.Attributes.{FitAttributes}
use Rattle.model.specs.Volumes.{Node}
use Rattle.blocktree.specs.Places.{block_count, depth_of}
use Rattle.blocktree.specs.Trees.{IsChanged}
use Rattle.images.specs.Roots.{free_inode}
use Rattle.images.specs.Sizes.{StandsForIn}
use Rattle.images.specs.Soundness.{Detail, by_bytes, by_sizes}
use Rattle.inode.specs.Bases.{IsBased}
use Rattle.entries.specs.Known.{Knows}
use Rattle.inode.specs.Files.{IsFile, IsSameFile, file_block}
use Rattle.inode.specs.declared.file.File.{File}
use Rattle.inode.specs.declared.object.Object.{Object}
use Rattle.inofile.specs.Settled.{content_of_object, held_content}

-- zeros stand past the end of a file in memory; where the sizes alone are known, this isn't asked
abbrev pub EndsIn : Detail → (ℕ → List ℕ) → File → Type 0
EndsIn by_bytes disk file = IsFile disk file
EndsIn by_sizes disk file = Unit {0}

-- kinds of the objects of a volume
abbrev pub IsObjectKind : Kind → Type 0
IsObjectKind kinds.Free = ⊥
IsObjectKind kinds.File = Unit {0}
IsObjectKind kinds.Directory = Unit {0}
IsObjectKind kinds.Link = Unit {0}
IsObjectKind kinds.InodeFile = ⊥
IsObjectKind kinds.InodeMap = ⊥
IsObjectKind kinds.BlockMap = ⊥

-- An object in memory stands for this one of a volume, in so much detail. Its mode, links and size
-- are such as its kind allows in an image of any sizes, it ends at its size, its tree is based on
-- the inode that is settled under its number, and what is known of a directory's blocks is so.
pub record IsObjectIn (detail : Detail) (disk : ℕ → List ℕ) (inodes : ℕ) (settled : Inode) (o : Object) (found : Option Node) : Type 0 where
  pub kind : IsObjectKind o.status.kind
  pub attributes : FitAttributes (has_attributes settled.layout) o.status.attributes
  pub fits : (s : Sizes)
      → FitsKind o.status.kind s o.status.attributes o.status.links o.file.size
  pub stands : StandsForIn detail inodes (content_of_object disk o) found
  pub ends : EndsIn detail disk o.file
  pub base : IsBased settled o.file.tree
  pub known : o.status.kind ≡ kinds.Directory → Knows inodes (file_block disk o.file) o.known

abbrev pub IsObject : (ℕ → List ℕ) → ℕ → Inode → Object → Option Node → Type 0
IsObject = IsObjectIn by_bytes

-- an object, or none, stands for this one, or none
abbrev pub IsObjectOrNone : Detail → (ℕ → List ℕ) → ℕ → Inode → Option Object → Option Node → Type 0
IsObjectOrNone detail disk inodes settled (Some o) found = IsObjectIn detail disk inodes settled o found
IsObjectOrNone detail disk inodes settled None found = found ≡ None

-- An object as it is loaded: where its bytes don't stand in its inode, no block of its file is
-- changed, and all settled ones count; where they do, at the most the first block is.
pub record IsUntouched (o : Object) : Type 0 where
  pub kept : 1 ≤ level_of o.file.tree.layout o.file.size → o.file.tree.kept ≡ o.file.tree.count
  pub count : 1 ≤ level_of o.file.tree.layout o.file.size → o.file.tree.count ≡ block_count o.file.size
  pub depth : 1 ≤ level_of o.file.tree.layout o.file.size → o.file.tree.depth ≡ depth_of o.file.tree.layout o.file.size
  pub none : 1 ≤ level_of o.file.tree.layout o.file.size → (i : ℕ) → IsChanged o.file.tree i → ⊥
  pub few : level_of o.file.tree.layout o.file.size ≡ 0 → (i : ℕ) → IsChanged o.file.tree i → i ≡ 0

-- what was loaded is as it is settled, and wasn't touched since
abbrev pub IsAsSettled : (ℕ → List ℕ) → Inode → Option Object → Type 0
IsAsSettled disk settled (Some o) = (content_of_object disk o ≡ held_content disk settled) × IsUntouched o
IsAsSettled disk settled None = settled ≡ free_inode settled.layout

-- the same object, whatever the disk
pub record IsSameObject (old new : Object) : Type 0 where
  pub status : new.status ≡ old.status
  pub file : IsSameFile old.file new.file

-- what is known of an object's blocks is so where it was
abbrev pub StaysKnown : ℕ → (ℕ → List ℕ) → Option Object → Option Object → Type 0
StaysKnown inodes disk (Some old) (Some new) = Knows inodes (file_block disk old.file) old.known → Knows inodes (file_block disk new.file) new.known
StaysKnown inodes disk (Some old) None = Unit {0}
StaysKnown inodes disk None (Some new) = Unit {0}
StaysKnown inodes disk None None = Unit {0}

abbrev pub IsSameOrNone : Option Object → Option Object → Type 0
IsSameOrNone (Some old) (Some new) = IsSameObject old new
IsSameOrNone (Some old) None = ⊥
IsSameOrNone None (Some new) = ⊥
IsSameOrNone None None = Unit {0}
