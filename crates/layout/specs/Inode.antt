-- The inode: 192 bytes.
use Rattle.std.specs.Prelude.{ℕ, zero, suc, ◌≡◌, ◌-◌, ◌*◌, ◌%◌, ◌<◌, ◌≤◌, List, ◌++◌, length, drop, All}
use Rattle.std.specs.Int.{div_ceil}
use Rattle.model.specs.Attributes.{FitAttributes, no_attributes}
use Rattle.model.specs.declared.attributes.Attributes.{Attributes}
use Rattle.model.specs.declared.limits.TheConstants.{LINK_MODE}
use Rattle.layout.specs.Attributes.{Others, attribute_fields, others_told}
use Rattle.layout.specs.Bytes.{zeros}
use Rattle.layout.specs.Format.{Format, num, part, mode_bits, ◌▸◌}
use Rattle.layout.specs.Limits.{Sizes, AreSizes}
use Rattle.layout.specs.Trees.{fan_out, greatest_size, has_attributes, level_of}
use Rattle.layout.specs.Pointer.{PointsBelow, pointers_bytes}
use Rattle.layout.specs.declared.TheConstants.{BLOCK_BYTES, BODY_POINTERS, INLINE_BYTES, INODES_PER_BLOCK}
use Rattle.layout.specs.declared.limits.TheConstants.{FILE_NAMES, PATH_BYTES}
use Rattle.layout.specs.declared.kind.Kind.{Kind}
use Rattle.layout.specs.declared.kind.Kind.TheVariants as kinds
use Rattle.layout.specs.declared.inode.Body.{Body}
use Rattle.layout.specs.declared.inode.Body.TheVariants.{Inline, Pointers}
use Rattle.layout.specs.declared.inode.Inode.{Inode}
use Rattle.layout.specs.declared.trees.Layout.{Layout}
use Rattle.layout.specs.declared.pointer.Pointer.{Pointer}
use Rattle.layout.specs.declared.pointer.Pointer.TheVariants.{Hole}

abbrev pub kind_code : Kind → ℕ
kind_code kinds.Free = 0
kind_code kinds.File = 1
kind_code kinds.Directory = 2
kind_code kinds.Link = 3
kind_code kinds.InodeFile = 4
kind_code kinds.InodeMap = 5
kind_code kinds.BlockMap = 6

abbrev pub body_bytes : Body → List ℕ
body_bytes (Inline bytes) = bytes
body_bytes (Pointers pointers) = pointers_bytes pointers ++ zeros 64

-- kind, mode, links, size and level
abbrev pub inode_head : Format (ℕ × (ℕ × (ℕ × (ℕ × ℕ))))
inode_head = num 2 ▸ mode_bits ▸ num 4 ▸ num 8 ▸ num 1

-- these, what is told beside them, and the body
abbrev pub inode_fields : Format ((ℕ × (ℕ × (ℕ × (ℕ × ℕ)))) × (Others × List ℕ))
inode_fields = inode_head ▸ attribute_fields ▸ part INLINE_BYTES

-- the one spelling of each inode
abbrev pub inode_bytes : Inode → List ℕ
inode_bytes i =
    inode_fields.text ((kind_code i.kind, (i.attributes.mode, (i.links, (i.size, level_of i.layout i.size)))), (others_told i.attributes, body_bytes i.body))

-- attributes, links and size by the kind, in an image of these sizes
abbrev pub FitsKind : Kind → Sizes → Attributes → ℕ → ℕ → Type 0
FitsKind kinds.Free s attributes links size = (attributes ≡ no_attributes) × (links ≡ 0) × (size ≡ 0)
FitsKind kinds.File s attributes links size = links ≤ FILE_NAMES
FitsKind kinds.Directory s attributes links size = (links ≡ 1) × (size % BLOCK_BYTES ≡ 0)
FitsKind kinds.Link s attributes links size = (attributes.mode ≡ LINK_MODE) × (links ≡ 1) × (1 ≤ size) × (size ≤ PATH_BYTES)
FitsKind kinds.InodeFile s attributes links size = (attributes ≡ no_attributes) × (links ≡ 1) × (size ≡ BLOCK_BYTES * div_ceil s.inodes INODES_PER_BLOCK)
FitsKind kinds.InodeMap s attributes links size = (attributes ≡ no_attributes) × (links ≡ 1) × (size ≡ div_ceil s.inodes 8)
FitsKind kinds.BlockMap s attributes links size = (attributes ≡ no_attributes) × (links ≡ 1) × (size ≡ 4 * s.blocks)

-- how many nodes a file of so many bytes has at a height: its blocks, and over them one for each
-- pointer of an indirect block
unfoldable pub nodes_of_size : Layout → ℕ → ℕ → ℕ
nodes_of_size layout size zero = div_ceil size BLOCK_BYTES
nodes_of_size layout size (suc height) = div_ceil (nodes_of_size layout size height) (fan_out layout)

-- how many pointers of the body lead to blocks before the end of a file of this size
abbrev pub pointers_used : Layout → ℕ → ℕ
pointers_used layout size = nodes_of_size layout size (level_of layout size - 1)

-- the bytes of a file of this size, which an inode holds itself, and zeros behind them
abbrev pub FitsInline : List ℕ → ℕ → Type 0
FitsInline bytes size =
    (size ≤ INLINE_BYTES) × (length bytes ≡ INLINE_BYTES) × (drop size bytes ≡ zeros (INLINE_BYTES - size))

-- pointers to the blocks of a larger file: no pointer leads past the disk, and those behind the
-- size are holes
abbrev pub FitsPointers : Layout → List Pointer → ℕ → ℕ → Type 0
FitsPointers layout pointers blocks size =
    (INLINE_BYTES < size) × (length pointers ≡ BODY_POINTERS) × All (PointsBelow blocks) pointers
    × All (λ p. p ≡ Hole) (drop (pointers_used layout size) pointers)

-- the body is of the size's level
abbrev pub FitsBody : Layout → Body → ℕ → ℕ → Type 0
FitsBody layout (Inline bytes) blocks size = FitsInline bytes size
FitsBody layout (Pointers pointers) blocks size = FitsPointers layout pointers blocks size

-- an inode of an image of these sizes
pub record IsInode (s : Sizes) (i : Inode) : Type 0 where
  pub layout : i.layout ≡ s.layout
  pub attributes : FitAttributes (has_attributes i.layout) i.attributes
  pub size : i.size ≤ greatest_size i.layout
  pub kind : FitsKind i.kind s i.attributes i.links i.size
  pub body : FitsBody i.layout i.body s.blocks i.size

-- an inode of an image of some sizes
pub record IsSomeInode (i : Inode) : Type 0 where
  pub sizes : Sizes
  pub are_sizes : AreSizes sizes
  pub fits : IsInode sizes i
