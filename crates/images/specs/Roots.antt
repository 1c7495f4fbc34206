-- What a root names, read into a value.
use Rattle.std.specs.Prelude.{ℕ, zero, suc, ◌≡◌, ◌*◌, ◌/◌, ◌%◌, List, take, drop, slice_index_or, nat_lt, if◌then◌else◌, Option, Some, None}
use Rattle.model.specs.Attributes.{no_attributes}
use Rattle.layout.specs.Bytes.{zeros}
use Rattle.layout.specs.Places.{Blocks, pointed}
use Rattle.layout.specs.InodeReading.{inode_in}
use Rattle.layout.specs.Limits.{Sizes}
use Rattle.layout.specs.SnapRoot.{Snapshot, snapshot_in}
use Rattle.layout.specs.declared.TheConstants.{INODE_BYTES, INLINE_BYTES, INODES_PER_BLOCK}
use Rattle.layout.specs.declared.inode.Body.TheVariants.{Inline}
use Rattle.layout.specs.declared.inode.Inode.{Inode}
use Rattle.layout.specs.declared.kind.Kind.TheVariants as kinds
use Rattle.layout.specs.declared.pointer.Pointer.{Pointer}
use Rattle.layout.specs.declared.pointer.Pointer.TheVariants.{Hole, Block}
use Rattle.layout.specs.declared.root.Root.{Root}
use Rattle.layout.specs.declared.trees.Layout.{Layout}
use Rattle.images.specs.Nodes.{Held, held, Names, file_block}

-- a free inode of an image of this layout
abbrev pub free_inode : Layout → Inode
free_inode layout =
    record { layout = layout; kind = kinds.Free; attributes = no_attributes; links = 0; size = 0; body = Inline (zeros INLINE_BYTES) }

abbrev pub or_free : Layout → Option Inode → Inode
or_free layout (Some inode) = inode
or_free layout None = free_inode layout

-- the inode that these bytes spell, or a free one where they spell none
unfoldable pub inode_from : Layout → List ℕ → Inode
inode_from layout bytes = or_free layout (inode_in layout bytes)

-- the bytes of one inode of a block of the inode file
abbrev pub inode_part : List ℕ → ℕ → List ℕ
inode_part block s = take INODE_BYTES (drop (INODE_BYTES * s) block)

-- the bytes of inode n, in the inode file with these blocks
abbrev pub inode_bytes_at : (ℕ → List ℕ) → ℕ → List ℕ
inode_bytes_at block n = inode_part (block (n / INODES_PER_BLOCK)) (n % INODES_PER_BLOCK)

-- All that a root's tree holds, file by file. Number 0 stands for the inode file, and past the last
-- number all is free.
abbrev pub HeldTree : Type 0
HeldTree = ℕ → Held

-- inode n of so many, where this is the inode file, of its layout
unfoldable pub inode_under : Held → ℕ → ℕ → Inode
inode_under h inodes zero = h.inode
inode_under h inodes (suc n) =
    if nat_lt (suc n) inodes
    then inode_from h.inode.layout (inode_bytes_at (file_block h) (suc n))
    else free_inode h.inode.layout

-- the tree of so many inodes under the inode of the inode file
unfoldable pub tree : Blocks → ℕ → Inode → HeldTree
tree disk inodes top n = held disk (inode_under (held disk top) inodes n)

-- the blocks that a tree names
pub record Reach (t : HeldTree) (b : ℕ) : Type 0 where
  pub file : ℕ
  pub names : Names (t file) b

-- ---- a root with its snapshots

-- the snapshot root block in a root's slot, of slots 1 to 30
abbrev pub slot : Root → ℕ → Pointer
slot r zero = Hole
slot r (suc k) = slice_index_or r.snapshots k Hole

abbrev pub inode_file_or_free : Layout → Option Snapshot → Inode
inode_file_or_free layout (Some s) = s.inode_file
inode_file_or_free layout None = free_inode layout

-- the inode of the inode file that a snapshot root block has
unfoldable pub frozen_inode_file : Layout → List ℕ → Inode
frozen_inode_file layout bytes = inode_file_or_free layout (snapshot_in layout bytes)

-- the tree under the snapshot root block at a pointer, in an image of these sizes: none in a free
-- slot
abbrev pub frozen_at : Blocks → Sizes → Pointer → HeldTree
frozen_at disk s Hole = λ n. held disk (free_inode s.layout)
frozen_at disk s (Block b) = tree disk s.inodes (frozen_inode_file s.layout (disk b))

-- all that a root holds: the active tree, and the snapshot root block and the tree of each slot
pub record Whole : Type 0 where
  pub active : HeldTree
  pub head : ℕ → List ℕ
  pub frozen : ℕ → HeldTree

unfoldable pub whole : Blocks → Root → Whole
whole disk r = record {
  active = tree disk r.geometry.inodes r.inode_file;
  head = λ k. pointed disk (slot r k);
  frozen = λ k. frozen_at disk r.geometry (slot r k);
}

-- the blocks that a root needs
pub data Needs (r : Root) (w : Whole) (b : ℕ) : Type 0 where
  active : (names : Reach w.active b) → Needs r w b
  frozen : (k : ℕ) → (names : Reach (w.frozen k) b) → Needs r w b
  head : (k : ℕ) → (is : slot r k ≡ Block b) → Needs r w b
