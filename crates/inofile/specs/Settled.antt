-- The inodes of a settled inode file, and the objects that they stand for.
use Rattle.std.specs.Prelude.{ℕ, ◌≡◌, ◌<◌, ◌≤◌, List, Option, Some, None}
use Rattle.layout.specs.Inode.{inode_bytes}
use Rattle.layout.specs.Limits.{Sizes}
use Rattle.layout.specs.Version.{greatest_under}
use Rattle.layout.specs.declared.inode.Inode.{Inode}
use Rattle.layout.specs.declared.kind.Kind.{Kind}
use Rattle.layout.specs.declared.kind.Kind.TheVariants as kinds
use Rattle.blocktree.specs.Trees.{IsSoundAt}
use Rattle.images.specs.Contents.{Content}
use Rattle.images.specs.Contents as images
use Rattle.images.specs.Nodes.{held}
use Rattle.images.specs.Roots.{free_inode, inode_bytes_at}
use Rattle.images.specs.Soundness.{Detail, FitsNumber, IsHeldFile, by_bytes}
use Rattle.inode.specs.declared.file.File.{File}
use Rattle.inode.specs.declared.object.Object.{Object}
use Rattle.inode.specs.Files.{file_block}

-- an object in memory: what it is, and its bytes block by block
abbrev pub content_of_object : (ℕ → List ℕ) → Object → Content
content_of_object disk o = record {
  kind = o.status.kind;
  attributes = o.status.attributes;
  links = o.status.links;
  size = o.file.size;
  block = file_block disk o.file;
}

-- what an image has under a settled inode
abbrev pub held_content : (ℕ → List ℕ) → Inode → Content
held_content disk inode = images.content_of (held disk inode)

-- no object has a free inode
abbrev pub unless_free : Kind → Content → Option Content
unless_free kinds.Free content = None
unless_free kinds.File content = Some content
unless_free kinds.Directory content = Some content
unless_free kinds.Link content = Some content
unless_free kinds.InodeFile content = Some content
unless_free kinds.InodeMap content = Some content
unless_free kinds.BlockMap content = Some content

-- the object of a settled inode
abbrev pub settled_content : (ℕ → List ℕ) → Inode → Option Content
settled_content disk i = unless_free i.kind (held_content disk i)

-- The inode file of an image of this version and these sizes has these inodes, each of a file in
-- its grammar, on a disk of so many blocks. Number 0 stands for the inode file itself, whose inode
-- stands elsewhere, and past the last number all are free.
pub record AreSettledIn (detail : Detail) (blocks : ℕ) (disk : ℕ → List ℕ) (version : ℕ) (sizes : Sizes) (file : File) (settled : ℕ → Inode) : Type 0 where
  pub count : sizes.blocks ≡ blocks
  pub spelled : (n : ℕ) → 1 ≤ n → n < sizes.inodes
      → inode_bytes_at (file_block disk file) n ≡ inode_bytes (settled n)
  pub sound : (n : ℕ) → IsHeldFile detail sizes (held disk (settled n))
  pub within : (n : ℕ) → (settled n).size ≤ greatest_under version
  pub fits : (n : ℕ) → FitsNumber n (settled n).kind
  pub past : (n : ℕ) → sizes.inodes ≤ n → settled n ≡ free_inode sizes.layout
  pub reached : (i : ℕ) → IsSoundAt blocks disk file.tree i

abbrev pub AreSettled : ℕ → (ℕ → List ℕ) → ℕ → Sizes → File → (ℕ → Inode) → Type 0
AreSettled = AreSettledIn by_bytes
