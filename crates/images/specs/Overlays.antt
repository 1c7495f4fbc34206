-- A changed file in memory, and the blocks that it gets at a consistency point.
use Rattle.std.specs.Prelude.{ℕ, suc, ◌≡◌, ◌⊎◌, ◌/◌, ◌%◌, ◌<◌, ◌≤◌, List, slice_index_or, [], Option, Some, None, Bool, true, nat_lt, if◌then◌else◌}
use Rattle.model.specs.declared.attributes.Attributes.{Attributes}
use Rattle.layout.specs.Bytes.{zeros}
use Rattle.layout.specs.Maps.{indirect_pointer}
use Rattle.layout.specs.Places.{Blocks, pointed}
use Rattle.layout.specs.Trees.{fan_out, level_of}
use Rattle.layout.specs.declared.TheConstants.{BLOCK_BYTES}
use Rattle.layout.specs.declared.inode.Body.TheVariants.{Inline, Pointers}
use Rattle.layout.specs.declared.inode.Inode.{Inode}
use Rattle.layout.specs.declared.kind.Kind.{Kind}
use Rattle.layout.specs.declared.pointer.Pointer.{Pointer}
use Rattle.layout.specs.declared.pointer.Pointer.TheVariants.{Hole, Block}
use Rattle.images.specs.Nodes.{Held, held, Names, Agrees, file_block, body_block}
use Rattle.images.specs.Contents.{Content}

-- What memory has of a changed file: what its inode says, and the blocks that differ from the
-- settled file's. Of the settled blocks those below `kept` still count.
pub record Overlay : Type 0 where
  pub kind : Kind
  pub attributes : Attributes
  pub links : ℕ
  pub size : ℕ
  pub kept : ℕ
  pub block : ℕ → Option (List ℕ)

abbrev pub or_else : Option (List ℕ) → List ℕ → List ℕ
or_else (Some bytes) other = bytes
or_else None other = other

-- block i of the changed file, over the settled one
abbrev pub overlaid_block : Held → Overlay → ℕ → List ℕ
overlaid_block h c i =
    or_else (c.block i) (if nat_lt i c.kept then file_block h i else zeros BLOCK_BYTES)

abbrev pub overlaid_content : Held → Overlay → Content
overlaid_content h c =
    record {
      kind = c.kind;
      attributes = c.attributes;
      links = c.links;
      size = c.size;
      block = overlaid_block h c;
    }

-- A table has the place of each node of the changed file, by height and index. Of the nodes under
-- one indirect block, and of this one, on a disk e: all as the settled file has them, or spelled by
-- a block, or holes.
pub data Group (e : Blocks) (h : Held) (table : ℕ → ℕ → Pointer) (m j : ℕ) : Type 0 where
  keeps : (level : suc m < level_of h.inode.layout h.inode.size) → (over : table (suc m) j ≡ h.place (suc m) j)
      → (under : (i : ℕ) → i / fan_out h.inode.layout ≡ j → table m i ≡ h.place m i) → Group e h table m j
  spells : (block : ℕ) → (over : table (suc m) j ≡ Block block)
      → (under : (i : ℕ) → i / fan_out h.inode.layout ≡ j → indirect_pointer (e block) (i % fan_out h.inode.layout) ≡ table m i)
      → Group e h table m j
  none : (over : table (suc m) j ≡ Hole) → (under : (i : ℕ) → i / fan_out h.inode.layout ≡ j → table m i ≡ Hole)
      → Group e h table m j

-- the inode says what the changed file says of itself
pub record Says (f : Inode) (c : Overlay) : Type 0 where
  pub kind : f.kind ≡ c.kind
  pub attributes : f.attributes ≡ c.attributes
  pub links : f.links ≡ c.links
  pub size : f.size ≡ c.size

-- the changed file's bytes stand in the inode itself
pub record IsInline (h : Held) (c : Overlay) (f : Inode) : Type 0 where
  pub level : level_of f.layout f.size ≡ 0
  pub says : Says f c
  pub bytes : List ℕ
  pub body : f.body ≡ Inline bytes
  pub blocks : (i : ℕ) → body_block (Inline bytes) [] i ≡ overlaid_block h c i

-- The changed file stands in these places of a disk e, under the inode f. Each node stands where
-- the settled file has it, or in a block that was taken, each for one node.
pub record IsLaid (e : Blocks) (h : Held) (c : Overlay) (f : Inode) (taken : ℕ → Bool) (table : ℕ → ℕ → Pointer) : Type 0 where
  pub top : ℕ
  pub layout : f.layout ≡ h.inode.layout
  pub level : level_of f.layout f.size ≡ suc top
  pub says : Says f c
  pub pointers : List Pointer
  pub body : f.body ≡ Pointers pointers
  pub highest : (i : ℕ) → slice_index_or pointers i Hole ≡ table top i
  pub lowest : (i : ℕ) → pointed e (table 0 i) ≡ overlaid_block h c i
  pub groups : (m j : ℕ) → m < top → Group e h table m j
  pub from : (m i b : ℕ) → m ≤ top → table m i ≡ Block b → (h.place m i ≡ Block b) ⊎ (taken b ≡ true)
  pub once : (m i k j b : ℕ) → m ≤ top → k ≤ top → table m i ≡ Block b → table k j ≡ Block b
      → taken b ≡ true → (m ≡ k) × (i ≡ j)

-- a disk e has the settled file's blocks as d has them, and holds the changed file in some table of
-- places
pub record LaysOut (d e : Blocks) (old : Inode) (c : Overlay) (f : Inode) (taken : ℕ → Bool) : Type 0 where
  pub same : Agrees (Names (held d old)) d e
  pub table : ℕ → ℕ → Pointer
  pub laid : IsLaid e (held d old) c f taken table
