-- Reading an inode, before its limits are looked at.
use Rattle.std.specs.Prelude.{ℕ, ◌+◌, ◌*◌, ◌/◌, min, List, drop, Option, Some, None, nat_le, ◌==◌, if◌then◌else◌}
use Rattle.model.specs.declared.attributes.Attributes.{Attributes}
use Rattle.layout.specs.Reading.{◌>>=◌, is_zero, all_of}
use Rattle.layout.specs.Attributes.{attributes_from}
use Rattle.layout.specs.Inode.{inode_fields, inode_head}
use Rattle.layout.specs.Limits.{Sizes}
use Rattle.layout.specs.Pointer.{pointers_in}
use Rattle.layout.specs.Trees.{level_of}
use Rattle.layout.specs.declared.geometry.TheConstants.{MOST_BLOCKS, MOST_INODES, LEAST_HALF}
use Rattle.layout.specs.declared.kind.Kind.{Kind}
use Rattle.layout.specs.declared.kind.Kind.TheVariants as kinds
use Rattle.layout.specs.declared.inode.Body.{Body}
use Rattle.layout.specs.declared.inode.Body.TheVariants.{Inline, Pointers}
use Rattle.layout.specs.declared.inode.Inode.{Inode}
use Rattle.layout.specs.declared.trees.Layout.{Layout}

unfoldable pub kind_of : ℕ → Option Kind
kind_of code =
    if code == 0 then Some kinds.Free
    else (if code == 1 then Some kinds.File
    else (if code == 2 then Some kinds.Directory
    else (if code == 3 then Some kinds.Link
    else (if code == 4 then Some kinds.InodeFile
    else (if code == 5 then Some kinds.InodeMap
    else (if code == 6 then Some kinds.BlockMap
    else None))))))

unfoldable pub body_in : ℕ → List ℕ → Option Body
body_in size bytes =
    if nat_le size 128 then Some (Inline bytes)
    else (if is_zero (drop 64 bytes) then Some (Pointers (pointers_in 16 bytes)) else None)

-- the inode of these numbers and bytes: kind, attributes, links, size, level and body
unfoldable pub inode_of : Layout → ℕ → Attributes → ℕ → ℕ → ℕ → List ℕ → Option Inode
inode_of layout code attributes links size level bytes =
    kind_of code >>= λ kind.
    body_in size bytes >>= λ body.
    if level == level_of layout size
    then Some (record { layout = layout; kind = kind; attributes = attributes; links = links; size = size; body = body })
    else None

unfoldable pub inode_in : Layout → List ℕ → Option Inode
inode_in layout bytes =
    all_of inode_fields.at bytes >>= λ v.
    inode_of layout v.0.0 (attributes_from v.0.1.0 v.1.0) v.0.1.1.0 v.0.1.1.1.0 v.0.1.1.1.1 v.1.1

-- the kind and the links in the head of an inode
unfoldable pub kind_and_links_in : List ℕ → Option (Kind × ℕ)
kind_and_links_in bytes =
    inode_head.at bytes >>= λ v. kind_of v.0.0 >>= λ kind. Some (kind, v.0.1.1.0)

-- the sizes of an image that has an inode of this kind and size, if one has
abbrev pub likely_blocks : Kind → ℕ → ℕ
likely_blocks kinds.BlockMap size = min (size / 4) (MOST_BLOCKS + 1)
likely_blocks _ size = MOST_BLOCKS

abbrev pub likely_inodes : Kind → ℕ → ℕ
likely_inodes kinds.InodeFile size = min (21 * (size / 4096)) MOST_INODES
likely_inodes kinds.InodeMap size = min (8 * size) MOST_INODES
likely_inodes _ size = MOST_INODES

abbrev pub likely_sizes : Layout → Kind → ℕ → Sizes
likely_sizes layout kind size = record { layout = layout; blocks = likely_blocks kind size; inodes = likely_inodes kind size; half = LEAST_HALF }
