-- Which files can be read.
use Rattle.std.proofs.Common.{◌≡◌, ◌<◌, ◌∙◌, ℕ, List, length, refl, ap, subst, arith, inl, inr}
use Rattle.std.proofs.lemmas.Bool.{cases_lt}
use Rattle.layout.specs.Inode.{FitsBody}
use Rattle.layout.specs.Limits.{Sizes}
use Rattle.layout.specs.Places.{Blocks, place, pointed}
use Rattle.layout.specs.declared.TheConstants.{BLOCK_BYTES}
use Rattle.layout.specs.declared.inode.Body.{Body}
use Rattle.layout.specs.declared.inode.Body.TheVariants.{Inline, Pointers}
use Rattle.layout.specs.declared.inode.Inode.{Inode}
use Rattle.layout.specs.declared.pointer.Pointer.{Pointer}
use Rattle.layout.specs.declared.pointer.Pointer.TheVariants.{Block}
use Rattle.layout.specs.declared.trees.Layout.{Layout}
use Rattle.layout.proofs.SizeLaws.{level_none}
use Rattle.buffers.specs.Disks.{IsWhole}
use Rattle.blocktree.specs.Places.{block_count, depth_of}
use Rattle.blocktree.specs.Trees.{IsSoundAt}
use Rattle.blocktree.specs.declared.tree.BlockTree.{BlockTree}
use Rattle.inode.specs.Bases.{IsBased, StartsFrom, StartsUnchanged}
use Rattle.inode.proofs.HeldLaws.{node_above, node_past, node_place, some_level}
use Rattle.images.specs.Nodes.{held}
use Rattle.images.specs.Soundness.{Detail, IsFileGrammar, IsHeldFile, IsReadable, nodes_of_size}
use Rattle.loading.specs.Readings.{IsWholeAt}

-- the blocks of a file that can be read are sound in memory, by inode's law
abbrev pub AreSoundAt : Type 0
AreSoundAt = (detail : Detail) (s : Sizes) (disk : Blocks) (i : Inode) (t : BlockTree) (k : ℕ) → IsHeldFile detail s (held disk i) → IsReadable (held disk i) → IsBased i t → IsSoundAt s.blocks disk t k

-- ---- a block that can be read

by_body : (s : Sizes) (disk : Blocks) (f : Inode) (body : Body) (i b : ℕ) → f.body ≡ body → FitsBody f.layout body s.blocks f.size → IsFileGrammar s (held disk f) → IsWholeAt f.layout disk body f.size i
    → (held disk f).place 0 i ≡ Block b → length ((held disk f).bytes 0 i) ≡ BLOCK_BYTES
unfolding held nodes_of_size
by_body s disk f (Inline bytes) i b is fits grammar whole there = (let hole = node_above disk f 0 i (omega (arith, level_none f.layout f.size fits.0)) in cc)
by_body s disk f (Pointers ps) i b is fits grammar whole there = elim (cases_lt i (block_count f.size)) [
  | inl low ↦ ap (λ (p : Pointer). length (pointed disk p)) (node_place disk f ps (depth_of f.layout f.size) 0 i is (some_level f.layout f.size fits.0)) ∙ whole low
  | inr high ↦ (let hole = node_past s disk f 0 i grammar high in cc)
]

pub block_readable : (s : Sizes) (disk : Blocks) (f : Inode) (i b : ℕ) → IsFileGrammar s (held disk f) → IsWholeAt f.layout disk f.body f.size i → (held disk f).place 0 i ≡ Block b
    → length ((held disk f).bytes 0 i) ≡ BLOCK_BYTES
unfolding held
block_readable s disk f i b grammar whole there = by_body s disk f f.body i b refl grammar.inode.body grammar whole there

-- ---- a file of memory whose blocks were read

sound_by : (layout : Layout) (disk : Blocks) (body : Body) (size blocks i : ℕ) (t : BlockTree) → StartsFrom layout body size t → StartsUnchanged body t → (i < block_count size → IsSoundAt blocks disk t i) → IsWholeAt layout disk body size i
sound_by layout disk (Inline bytes) size blocks i t starts unchanged sound = tt
sound_by layout disk (Pointers ps) size blocks i t starts unchanged sound = λ low.
    subst (λ (d : ℕ). IsWhole (pointed disk (place layout disk ps d i))) starts.0.depth
    (subst (λ (qs : List Pointer). IsWhole (pointed disk (place layout disk qs t.depth i))) starts.0.pointers_are
    (subst (λ (l : Layout). IsWhole (pointed disk (place l disk t.pointers t.depth i))) starts.0.layout_is
    (sound low (unchanged i) (omega (arith, low, starts.1, starts.0.count))).1))

pub sound_readable : (s : Sizes) (disk : Blocks) (f : Inode) (blocks : ℕ) (t : BlockTree) → IsFileGrammar s (held disk f) → StartsFrom f.layout f.body f.size t → StartsUnchanged f.body t
    → ((i : ℕ) → i < block_count f.size → IsSoundAt blocks disk t i) → IsReadable (held disk f)
sound_readable s disk f blocks t grammar starts unchanged sound i b =
    block_readable s disk f i b grammar (sound_by f.layout disk f.body f.size blocks i t starts unchanged (sound i))
