-- What memory has of the image under a root, in the words of what images mean.
use Rattle.std.specs.Prelude.{ℕ, ◌≡◌, length}
use Rattle.std.specs.Int.{div_ceil}
use Rattle.layout.specs.Limits.{Sizes}
use Rattle.layout.specs.Places.{Blocks}
use Rattle.layout.specs.declared.TheConstants.{BLOCK_POINTERS}
use Rattle.layout.specs.declared.inode.Inode.{Inode}
use Rattle.layout.specs.declared.kind.Kind.TheVariants.{Directory}
use Rattle.model.specs.declared.limits.TheConstants.{ROOT_NUMBER}
use Rattle.layout.specs.declared.root.Root.{Root}
use Rattle.model.specs.Volumes.{Volume}
use Rattle.inode.specs.Bases.{StartsFrom}
use Rattle.inode.specs.Bodies.{inode_block}
use Rattle.inode.specs.Files.{file_block}
use Rattle.inode.specs.declared.file.File.{File}
use Rattle.inofile.specs.Settled.{AreSettledIn}
use Rattle.inofile.specs.Inodes.{IsChanged}
use Rattle.inofile.specs.Volumes.{IsVolumeIn}
use Rattle.inofile.specs.declared.inode_file.InodeFile.{InodeFile}
use Rattle.blockmap.specs.Maps.{settled_at, entry_at, IsTouched}
use Rattle.blockmap.specs.declared.map.BlockMap.{BlockMap}
use Rattle.images.specs.Contents.{content_bytes, content_of, tree_contents}
use Rattle.images.specs.BlockMap.{entry}
use Rattle.images.specs.Roots.{HeldTree, whole}
use Rattle.images.specs.Sizes.{HoldsVolumeIn}
use Rattle.images.specs.Soundness.{Detail, IsSoundTree, IsWithin, MapsNumbers, by_bytes, by_sizes}
use Rattle.images.specs.Faults.{IsTreeGrammar}

-- A tree is in its grammar; where the sizes of files alone are known, zeros past their ends aren't
-- asked, but of the maps.
abbrev pub IsTreeIn : Detail → Sizes → HeldTree → Type 0
IsTreeIn by_bytes s t = IsSoundTree s t
IsTreeIn by_sizes s t = IsTreeGrammar s t × MapsNumbers t

-- the active tree under a root is in its grammar, with files as large as its version allows, and
-- its root directory is a directory
pub record IsReadableIn (detail : Detail) (disk : Blocks) (r : Root) : Type 0 where
  pub sound : IsTreeIn detail r.geometry (whole disk r).active
  pub within : IsWithin r.version (whole disk r).active
  pub root : ((whole disk r).active ROOT_NUMBER).inode.kind ≡ Directory

abbrev pub IsReadable : Blocks → Root → Type 0
IsReadable = IsReadableIn by_bytes

-- a file in memory is that of a settled inode, of which nothing is changed
pub record IsFileOfInode (inode : Inode) (file : File) : Type 0 where
  pub blocks : (disk : Blocks) (i : ℕ) → file_block disk file i ≡ inode_block disk inode i
  pub starts : StartsFrom inode.layout inode.body inode.size file.tree

-- the inodes of a tree by number
abbrev pub inodes_of : HeldTree → ℕ → Inode
inodes_of t n = (t n).inode

-- The map in memory has the entries of a tree's map, for so many blocks. None is changed, and no
-- block is given out.
pub record IsMapOf (t : HeldTree) (blocks : ℕ) (map : BlockMap) : Type 0 where
  pub count : map.count ≡ blocks
  pub next : map.next ≡ 2
  pub parts : length map.parts.items ≡ div_ceil blocks BLOCK_POINTERS
  pub settled : (b : ℕ) → settled_at map.parts.items b ≡ entry t b
  pub entries : (b : ℕ) → entry_at map.parts.items b ≡ entry t b
  pub untouched : (j : ℕ) → IsTouched map.parts.items j → ⊥

-- The inodes in memory are those of a tree, in an image of this version and these sizes, and so are
-- the numbers that are in use. None is changed: memory stands for the volume that the tree holds,
-- in so much detail.
pub record AreInodesIn (detail : Detail) (disk : Blocks) (version : ℕ) (s : Sizes) (t : HeldTree) (inodes : InodeFile) : Type 0 where
  pub is_version : inodes.version ≡ version
  pub geometry : inodes.geometry ≡ s
  pub settled : AreSettledIn detail s.blocks disk version s inodes.file (inodes_of t)
  pub numbers : inodes.numbers.bytes.items ≡ content_bytes (content_of (t 1))
  pub unchanged : (n : ℕ) → IsChanged inodes n → ⊥
  pub volume : (v : Volume) → HoldsVolumeIn detail s.inodes (tree_contents t) v
      → IsVolumeIn detail s.blocks disk (inodes_of t) inodes v

abbrev pub AreInodesOf : Blocks → ℕ → Sizes → HeldTree → InodeFile → Type 0
AreInodesOf = AreInodesIn by_bytes

-- what was loaded is what a disk has under a root
pub record IsLoadedIn (detail : Detail) (disk : Blocks) (r : Root) (entries : BlockMap) (files : InodeFile) : Type 0 where
  pub map : IsMapOf (whole disk r).active r.geometry.blocks entries
  pub inodes : AreInodesIn detail disk r.version r.geometry (whole disk r).active files

abbrev pub IsLoadedUnder : Blocks → Root → BlockMap → InodeFile → Type 0
IsLoadedUnder = IsLoadedIn by_bytes
