-- What a changed file is that a consistency point places, and what its new inode comes to.
use Rattle.std.specs.Prelude.{ℕ, suc, ◌≡◌, ◌⊎◌, ◌<◌, ◌≤◌, ◌==◌, Bool, true, List, nat_lt, if◌then◌else◌}
use Rattle.std.specs.List.{list_any}
use Rattle.model.specs.Attributes.{FitAttributes}
use Rattle.layout.specs.Bytes.{zeros}
use Rattle.layout.specs.Inode.{FitsKind}
use Rattle.layout.specs.Limits.{Sizes}
use Rattle.layout.specs.Places.{Blocks}
use Rattle.layout.specs.Trees.{has_attributes, level_of}
use Rattle.layout.specs.declared.TheConstants.{BLOCK_BYTES}
use Rattle.layout.specs.declared.inode.Body.TheVariants.{Pointers}
use Rattle.layout.specs.declared.inode.Inode.{Inode}
use Rattle.layout.specs.declared.pointer.Pointer.TheVariants.{Block}
use Rattle.images.specs.Contents.{Content, content_of}
use Rattle.images.specs.Nodes.{Agrees, Held, held, Names, IsOnce}
use Rattle.images.specs.Soundness.{HasNoHole, IsSoundFile}
use Rattle.buffers.specs.Disks.{IsWhole}
use Rattle.blocktree.specs.Places.{block_count}
use Rattle.blocktree.specs.Trees.{IsChanged}
use Rattle.blocktree.specs.declared.tree.BlockTree.{BlockTree}
use Rattle.inode.specs.Files.{file_block, IsFile}
use Rattle.inode.specs.declared.file.File.{File}
use Rattle.inode.specs.declared.object.Object.{Object}
use Rattle.blockmap.specs.Maps.{IsFree}
use Rattle.conspoint.specs.Drafts.{OnEach}
use Rattle.conspoint.specs.declared.draft.Draft.{Draft}
use Rattle.placement.specs.declared.file.PlacedFile.{PlacedFile}

-- A file's blocks in memory lie over those that hang from a settled inode, or over none. They have
-- its layout.
pub data IsBasedOn (base : Inode) (t : BlockTree) : Type 0 where
  settled : (layout : t.layout ≡ base.layout) → (body : base.body ≡ Pointers t.pointers)
      → (level : level_of base.layout base.size ≡ suc t.depth) → (count : t.count ≡ block_count base.size)
      → IsBasedOn base t
  none : (layout : t.layout ≡ base.layout) → (level : level_of base.layout base.size ≡ 0) → (count : t.count ≡ 0)
      → IsBasedOn base t

-- the level of a file in memory
abbrev pub file_level : File → ℕ
file_level f = level_of f.tree.layout f.size

-- block i of an object in memory: zeros past its end
abbrev pub object_block : Blocks → Object → ℕ → List ℕ
object_block disk o i =
    if nat_lt i (block_count o.file.size) then file_block disk o.file i else zeros BLOCK_BYTES

-- what an object in memory is, with these blocks
abbrev pub content_with : Object → (ℕ → List ℕ) → Content
content_with o block = record {
  kind = o.status.kind;
  attributes = o.status.attributes;
  links = o.status.links;
  size = o.file.size;
  block = block;
}

-- what an object in memory is, over a disk
abbrev pub object_content : Blocks → Object → Content
object_content disk o = content_with o (object_block disk o)

-- these blocks, with other bytes as the first
abbrev pub with_first : List ℕ → (ℕ → List ℕ) → ℕ → List ℕ
with_first bytes block i = if i == 0 then bytes else block i

-- An object in memory over its settled inode, on a disk, in an image of these sizes: both are in
-- their grammar, and under the map of the draft the settled one's blocks are in use.
pub record IsChangeOf (s : Sizes) (d : Draft) (disk : Blocks) (base : Inode) (o : Object) : Type 0 where
  pub blocks : s.blocks ≡ d.map.count
  pub based : IsBasedOn base o.file.tree
  pub sound : IsSoundFile s (held disk base)
  pub once : IsOnce (held disk base)
  pub used : (b : ℕ) → Names (held disk base) b → IsFree d.map.parts.items b → ⊥
  pub ends : IsFile disk o.file
  pub attributes : FitAttributes (has_attributes s.layout) o.status.attributes
  pub kind : FitsKind o.status.kind s o.status.attributes o.status.links o.file.size

-- An object over its settled inode of which each block is stored, as large as that one and with no
-- settled block cut off: none of its blocks becomes a hole.
pub record IsWholeOver (disk : Blocks) (base : Inode) (o : Object) : Type 0 where
  pub no_hole : HasNoHole (held disk base)
  pub size : o.file.size ≡ base.size
  pub kept : 1 ≤ level_of base.layout base.size → o.file.tree.kept ≡ block_count base.size

-- each block of an object is changed in memory
abbrev pub AreAllChanged : Object → Type 0
AreAllChanged o = (i : ℕ) → i < block_count o.file.size → IsChanged o.file.tree i

-- b is one of these
abbrev pub is_one : List ℕ → ℕ → Bool
is_one blocks b = list_any (λ x. b == x) blocks

-- A file's new inode, on a disk e that has the blocks planned for it. Each node stands where that
-- of the file before stood or in a taken block, each in one of its own; of the blocks before, those
-- are freed that it doesn't name.
pub record IsPlaced (s : Sizes) (e : Blocks) (old : Held) (f : Inode) (taken freed : ℕ → Bool) : Type 0 where
  pub moves : (m i b : ℕ) → (held e f).place m i ≡ Block b → (old.place m i ≡ Block b) ⊎ (taken b ≡ true)
  pub named : (b : ℕ) → taken b ≡ true → Names (held e f) b
  pub stays : (b : ℕ) → Names old b → Names (held e f) b ⊎ (freed b ≡ true)
  pub freed_are : (b : ℕ) → freed b ≡ true → Names old b × (Names (held e f) b → ⊥)
  pub once : IsOnce (held e f)
  pub sound : IsSoundFile s (held e f)

-- this holds on each disk that has the planned blocks, and those that a settled inode names as this
-- one has them
abbrev pub OnEachWith : Draft → Blocks → Inode → (Blocks → Type 0) → Type 0
OnEachWith d disk base P = OnEach d (λ e. Agrees (Names (held disk base)) disk e → P e)

-- A changed object is placed over its settled inode. Where all its blocks are stored, or changed,
-- its new file has no hole.
pub record HasPlaced (s : Sizes) (disk : Blocks) (base : Inode) (o : Object) (d : Draft) (p : PlacedFile) : Type 0 where
  pub placed : OnEachWith d disk base
      (λ e. IsPlaced s e (held disk base) p.inode (is_one p.taken.items) (is_one p.freed.items))
  pub content : OnEachWith d disk base (λ e. content_of (held e p.inode) ≡ object_content disk o)
  pub no_hole : IsWholeOver disk base o → OnEachWith d disk base (λ e. HasNoHole (held e p.inode))
  pub whole : AreAllChanged o → OnEachWith d disk base (λ e. HasNoHole (held e p.inode))

-- the same of one whose first block is whatever whole block is put at this place
pub record HasPlacedButFirst (s : Sizes) (disk : Blocks) (base : Inode) (o : Object) (d : Draft) (p : PlacedFile)
    (first : ℕ) : Type 0 where
  pub placed : OnEachWith d disk base (λ e. IsWhole (e first)
      → IsPlaced s e (held disk base) p.inode (is_one p.taken.items) (is_one p.freed.items))
  pub there : OnEachWith d disk base (λ e. (held e p.inode).place 0 0 ≡ Block first)
  pub content : OnEachWith d disk base
      (λ e. content_of (held e p.inode) ≡ content_with o (with_first (e first) (object_block disk o)))
