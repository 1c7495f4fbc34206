-- What a file is, without places: what its inode says, and its blocks. And what object it stands
-- for.
use Rattle.std.specs.Prelude.{ℕ, ◌≡◌, ◌/◌, List, Option, Some, None}
use Rattle.layout.specs.DirectoryNames.{NameMap, HoldNames}
use Rattle.layout.specs.FileBytes.{byte_in, first_bytes}
use Rattle.layout.specs.declared.TheConstants.{BLOCK_BYTES}
use Rattle.layout.specs.declared.kind.Kind.{Kind}
use Rattle.layout.specs.declared.kind.Kind.TheVariants as kinds
use Rattle.model.specs.declared.attributes.Attributes.{Attributes}
use Rattle.model.specs.Volumes.{Node, directory_node, file_node, link_node, Volume}
use Rattle.images.specs.Nodes.{Held, file_block}
use Rattle.images.specs.Roots.{HeldTree}

pub record Content : Type 0 where
  pub kind : Kind
  pub attributes : Attributes
  pub links : ℕ
  pub size : ℕ
  pub block : ℕ → List ℕ

abbrev pub content_of : Held → Content
content_of h = record {
  kind = h.inode.kind;
  attributes = h.inode.attributes;
  links = h.inode.links;
  size = h.inode.size;
  block = file_block h;
}

-- the content of each number
abbrev pub tree_contents : HeldTree → ℕ → Content
tree_contents t n = content_of (t n)

-- the bytes of a file
abbrev pub content_bytes : Content → List ℕ
content_bytes c = first_bytes (byte_in c.block) c.size

-- a directory in an image of so many inodes: its blocks of entries give its names
abbrev pub IsDirectoryOf : ℕ → Content → NameMap → Type 0
IsDirectoryOf inodes c names = HoldNames inodes (c.size / BLOCK_BYTES) c.block names

-- the object of this kind that a content stands for; the file system's own files are none
abbrev pub StandsAs : Kind → ℕ → Content → Option Node → Type 0
StandsAs kinds.Free inodes c o = o ≡ None
StandsAs kinds.File inodes c o = o ≡ Some (file_node c.attributes c.links (content_bytes c))
StandsAs kinds.Directory inodes c o =
    (names : NameMap) × IsDirectoryOf inodes c names × (o ≡ Some (directory_node c.attributes names))
StandsAs kinds.Link inodes c o = o ≡ Some (link_node c.attributes (content_bytes c))
StandsAs kinds.InodeFile inodes c o = o ≡ None
StandsAs kinds.InodeMap inodes c o = o ≡ None
StandsAs kinds.BlockMap inodes c o = o ≡ None

-- the numbered objects of an image of so many inodes
abbrev pub HoldsVolume : ℕ → (ℕ → Content) → Volume → Type 0
HoldsVolume inodes files v = (n : ℕ) → StandsAs (files n).kind inodes (files n) (v n)
