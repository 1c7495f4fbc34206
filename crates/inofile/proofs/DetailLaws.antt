-- What each detail tells of an object, and of the blocks that can be read.
use Rattle.std.proofs.Common.{◌≡◌, ℕ, ◌∙◌, List, Option, Some, None, length, refl, sym, subst, ap, arith}
use Rattle.std.specs.Ordering.{nat_cmp}
use Rattle.std.specs.BTreeMap as tree
use Rattle.layout.specs.FileBytes.{byte_in}
use Rattle.layout.specs.Limits.{Sizes}
use Rattle.layout.specs.declared.inode.Inode.{Inode}
use Rattle.layout.specs.declared.kind.Kind.{Kind}
use Rattle.layout.specs.declared.kind.Kind.TheVariants as kinds
use Rattle.model.specs.Volumes.{Node, file_node, link_node}
use Rattle.blocktree.specs.Places.{place}
use Rattle.blocktree.specs.Trees.{AreSound, IsChangedSlot, IsSoundAt, settled_block, slot_bytes, tree_block}
use Rattle.blocktree.specs.declared.tree.BlockTree.{BlockTree}
use Rattle.blocktree.specs.declared.slot.Slot.{Slot}
use Rattle.blocktree.specs.declared.slot.Slot.TheVariants.{AsSettled, Changed}
use Rattle.blocktree.proofs.SlotLaws.{settled_within}
use Rattle.images.specs.Contents.{Content, StandsAs, content_bytes}
use Rattle.images.specs.Nodes.{Held, held}
use Rattle.images.specs.Sizes.{CanReadBlock, IsSizedAs, StandsAsIn}
use Rattle.images.specs.Soundness.{Detail, IsHeldFile, IsReadable, IsSoundFile, by_bytes, by_sizes}
use Rattle.inode.specs.Files.{IsFile}
use Rattle.inode.specs.declared.file.File.{File}
use Rattle.layout.proofs.PartLaws.{length-first_bytes}
use Rattle.inofile.specs.Objects.{EndsIn}

-- the object of this kind that a content stands for, but for the bytes of a file or link
abbrev pub HasSizeOf : Kind → ℕ → Content → Option Node → Type 0
HasSizeOf kinds.File inodes c o = (bytes : List ℕ) × (length bytes ≡ c.size) × (o ≡ Some (file_node c.attributes c.links bytes))
HasSizeOf kinds.Link inodes c o = (text : List ℕ) × (length text ≡ c.size) × (o ≡ Some (link_node c.attributes text))
HasSizeOf kind inodes c o = StandsAs kind inodes c o

pub by_size : (detail : Detail) (k : Kind) (inodes : ℕ) (c : Content) (found : Option Node) → StandsAsIn detail k inodes c found → HasSizeOf k inodes c found
by_size by_bytes kinds.File inodes c found stands = (content_bytes c, length-first_bytes (byte_in c.block) c.size, stands)
by_size by_bytes kinds.Link inodes c found stands = (content_bytes c, length-first_bytes (byte_in c.block) c.size, stands)
by_size by_bytes kinds.Free inodes c found stands = stands
by_size by_bytes kinds.Directory inodes c found stands = stands
by_size by_bytes kinds.InodeFile inodes c found stands = stands
by_size by_bytes kinds.InodeMap inodes c found stands = stands
by_size by_bytes kinds.BlockMap inodes c found stands = stands
by_size by_sizes kinds.File inodes c found stands = (stands.0, stands.1, stands.3)
by_size by_sizes kinds.Link inodes c found stands = stands
by_size by_sizes kinds.Free inodes c found stands = stands
by_size by_sizes kinds.Directory inodes c found stands = stands.1
by_size by_sizes kinds.InodeFile inodes c found stands = stands
by_size by_sizes kinds.InodeMap inodes c found stands = stands
by_size by_sizes kinds.BlockMap inodes c found stands = stands

-- ends are asked by the bytes alone
pub ends_in : (detail : Detail) (s : Sizes) (h : Held) (disk : ℕ → List ℕ) (file : File) → (IsSoundFile s h → IsFile disk file) → IsHeldFile detail s h → EndsIn detail disk file
ends_in by_bytes s h disk file ends sound = ends sound
ends_in by_sizes s h disk file ends sound = tt

-- ---- a block that can be read

-- the blocks of a directory can be read
pub directory_readable : (detail : Detail) (k : Kind) (inodes : ℕ) (c : Content) (found : Option Node) → StandsAsIn detail k inodes c found → k ≡ kinds.Directory → (i : ℕ) → CanReadBlock detail c.block i
directory_readable by_bytes k inodes c found stands is i = tt
directory_readable by_sizes k inodes c found stands is i = (subst (λ (x : Kind). IsSizedAs x inodes c found) is stands).0 i

unchanged_bytes : (slot : Option Slot) (below : List ℕ) → (IsChangedSlot slot → ⊥) → slot_bytes slot below ≡ below
unchanged_bytes (Some (Changed block)) below not = absurd (not tt)
unchanged_bytes (Some AsSettled) below not = refl
unchanged_bytes None below not = refl

whole_block : (blocks : ℕ) (disk : ℕ → List ℕ) (t : BlockTree) (i : ℕ) → AreSound blocks disk t → length (tree_block disk t i) ≡ 4096 → IsSoundAt blocks disk t i
whole_block blocks disk t i sound whole unchanged lt =
    let settled : tree_block disk t i ≡ settled_block t.layout disk t.pointers t.depth t.kept i =
    unchanged_bytes (tree.get nat_cmp t.slots i) (settled_block t.layout disk t.pointers t.depth t.kept i) unchanged in
    (sound i (omega (arith, lt, t.fits.1)), ap length (sym (settled ∙ settled_within t.layout disk t.pointers t.depth t.kept i (place t.layout disk t.pointers t.depth i) lt refl)) ∙ whole)

-- where all are known, they can all be read
pub sound_block : (detail : Detail) (s : Sizes) (disk : ℕ → List ℕ) (settled : Inode) (t : BlockTree) (i : ℕ) → IsHeldFile detail s (held disk settled) → AreSound s.blocks disk t
    → (IsReadable (held disk settled) → IsSoundAt s.blocks disk t i) → CanReadBlock detail (tree_block disk t) i → IsSoundAt s.blocks disk t i
sound_block by_bytes s disk settled t i sound all at can = at sound.bytes.readable
sound_block by_sizes s disk settled t i sound all at can = whole_block s.blocks disk t i all can
