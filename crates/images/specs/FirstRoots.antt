-- The root of an image that has nothing but an empty root directory, as the first consistency point
-- makes it.
use Rattle.std.specs.Prelude.{ℕ, zero, suc, ◌≡◌, ◌≢◌, ◌↔◌, ◌<◌, ◌≤◌, None, Some}
use Rattle.layout.specs.Bytes.{zeros}
use Rattle.layout.specs.Limits.{Sizes}
use Rattle.layout.specs.Maps.{IsTaken}
use Rattle.layout.specs.Places.{Blocks}
use Rattle.layout.specs.Root.{IsRoot}
use Rattle.layout.specs.declared.TheConstants.{INLINE_BYTES}
use Rattle.layout.specs.declared.inode.Body.TheVariants.{Inline}
use Rattle.layout.specs.declared.inode.Inode.{Inode}
use Rattle.layout.specs.declared.kind.Kind.TheVariants as kinds
use Rattle.layout.specs.declared.trees.Layout.{Layout}
use Rattle.model.specs.Attributes.{mode_alone, new_attributes}
use Rattle.model.specs.declared.limits.TheConstants.{FIRST_NUMBER, ROOT_NUMBER}
use Rattle.layout.specs.declared.pointer.Pointer.TheVariants.{Hole}
use Rattle.layout.specs.declared.root.Root.{Root}
use Rattle.layout.specs.declared.version.TheConstants.{VERSION}
use Rattle.model.specs.Volumes.{Volume, directory_node}
use Rattle.images.specs.Nodes.{held, Names, IsOnce, file_block}
use Rattle.images.specs.Roots.{HeldTree, Reach, free_inode, slot}
use Rattle.images.specs.BlockMap.{HasBit, entry}
use Rattle.images.specs.Contents.{content_of, content_bytes}
use Rattle.images.specs.Soundness.{HasNoHole, IsSoundFile, SpellsInodes}

-- an empty directory of mode 0755
abbrev pub empty_directory : Layout → Inode
empty_directory layout =
    record { layout = layout; kind = kinds.Directory; attributes = new_attributes (mode_alone 0o755); links = 1; size = 0; body = Inline (zeros INLINE_BYTES) }

-- the inode of each number, where these are those of the inode file, the inode map and the block
-- map, in an image of the inode file's layout
abbrev pub first_inodes : Inode → Inode → Inode → ℕ → Inode
first_inodes top numbers map zero = top
first_inodes top numbers map (suc zero) = numbers
first_inodes top numbers map (suc (suc zero)) = map
first_inodes top numbers map (suc (suc (suc zero))) = empty_directory top.layout
first_inodes top numbers map (suc (suc (suc (suc n)))) = free_inode top.layout

abbrev pub first_tree : Blocks → Inode → Inode → Inode → HeldTree
first_tree e top numbers map n = held e (first_inodes top numbers map n)

-- number 3 is an empty directory of mode 0755, and nothing else is there
abbrev pub root_alone_volume : Volume
root_alone_volume zero = None
root_alone_volume (suc zero) = None
root_alone_volume (suc (suc zero)) = None
root_alone_volume (suc (suc (suc zero))) = Some (directory_node (new_attributes (mode_alone 0o755)) (λ x. None))
root_alone_volume (suc (suc (suc (suc n)))) = None

-- What a disk e has under the inode of an inode file, where these are the inodes of the two maps:
-- the file system's own three files in their grammar, and in the map of the blocks just those that
-- they name.
pub record IsFirstTree (s : Sizes) (e : Blocks) (top numbers map : Inode) : Type 0 where
  pub numbers_kind : numbers.kind ≡ kinds.InodeMap
  pub map_kind : map.kind ≡ kinds.BlockMap
  pub files : (n : ℕ) → n < ROOT_NUMBER → IsSoundFile s (first_tree e top numbers map n)
  pub spelled : SpellsInodes s.inodes (file_block (held e top)) (first_tree e top numbers map)
  pub taken : (n : ℕ) → IsTaken (content_bytes (content_of (held e numbers))) n ↔ (n < FIRST_NUMBER)
  pub numbers_whole : HasNoHole (held e numbers)
  pub map_whole : HasNoHole (held e map)
  pub once : (n : ℕ) → n < ROOT_NUMBER → IsOnce (first_tree e top numbers map n)
  pub apart : (n m b : ℕ) → n < ROOT_NUMBER → m < ROOT_NUMBER
      → Names (first_tree e top numbers map n) b → Names (first_tree e top numbers map m) b → n ≡ m
  pub active : (b : ℕ) → HasBit 0 (entry (first_tree e top numbers map) b)
      ↔ Reach (first_tree e top numbers map) b
  pub none : (b k : ℕ) → 1 ≤ k → k ≢ 31 → HasBit k (entry (first_tree e top numbers map) b) → ⊥
  pub system : (b : ℕ) → HasBit 31 (entry (first_tree e top numbers map) b) ↔ (b < 2)

-- a root of the newest version without snapshots, under which a disk e has these
pub record IsFirst (r : Root) (e : Blocks) (numbers map : Inode) : Type 0 where
  pub root : IsRoot r
  pub version : r.version ≡ VERSION
  pub slots : (k : ℕ) → slot r k ≡ Hole
  pub tree : IsFirstTree r.geometry e r.inode_file numbers map
