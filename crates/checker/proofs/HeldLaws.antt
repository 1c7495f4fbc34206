-- The trees of a root as they are read: the inode file, and what it says of each number.
use Rattle.std.proofs.Common.{◌≡◌, ℕ, zero, suc, ◌+◌, ◌-◌, ◌/◌, ◌%◌, ◌<◌, ◌≤◌, List, drop, refl, ap, sym, subst, ◌∙◌, arith}
use Rattle.layout.specs.Inode.{IsInode, inode_bytes}
use Rattle.layout.specs.Limits.{AreSizes, Sizes}
use Rattle.layout.specs.Places.{Blocks, place}
use Rattle.layout.specs.Trees.{greatest_size, level_of}
use Rattle.layout.specs.Version.{greatest_under}
use Rattle.layout.specs.declared.inode.Body.TheVariants.{Pointers}
use Rattle.layout.specs.declared.inode.Inode.{Inode}
use Rattle.layout.specs.declared.kind.Kind.{Kind}
use Rattle.layout.specs.declared.pointer.Pointer.{Pointer}
use Rattle.layout.specs.declared.root.Root.{Root}
use Rattle.layout.specs.declared.trees.Layout.{Layout}
use Rattle.layout.specs.declared.version.TheConstants.{VERSION}
use Rattle.blocktree.specs.Names.{AreNodes, nodes_at}
use Rattle.blocktree.specs.PlaceMaps.{place_at}
use Rattle.blocktree.specs.Places.{depth_of}
use Rattle.blocktree.specs.Trees.{IsSoundAt}
use Rattle.blocktree.specs.declared.place_map.PlaceMap.{PlaceMap}
use Rattle.blocktree.specs.declared.tree.BlockTree.{BlockTree}
use Rattle.inode.specs.Bases.{HasPointers}
use Rattle.inode.specs.Files as memory
use Rattle.inode.specs.declared.file.File.{File}
use Rattle.inode.proofs.HeldLaws.{some_level, starts_based}
use Rattle.images.proofs.ReadableLaws.{inodes_readable}
use Rattle.images.proofs.WithinLaws.{root_plain}
use Rattle.images.specs.Faults.{IsTreeGrammar}
use Rattle.images.specs.Nodes.{Held, file_block, held}
use Rattle.images.specs.Roots.{HeldTree, frozen_at, frozen_inode_file, inode_bytes_at, inode_part, inode_under, slot, tree, whole}
use Rattle.images.specs.Soundness.{IsFileGrammar, IsReadable, by_sizes}
use Rattle.loading.specs.Images.{IsFileOfInode}
use Rattle.loading.specs.InodeBlocks.{HasKindOfPlace}
use Rattle.loading.specs.Laws.{ReadAsHeld, SpellTrees}
use Rattle.checker.specs.Findings.{HasTree, tree_in}
use Rattle.checker.specs.Trees.{IsRootOf, IsTreeAt, IsTreeOf}
use Rattle.checker.specs.declared.tree.Tree.{Tree}
use Rattle.checker.proofs.ReadableLaws.{AreSoundAt}

-- ---- the tree of a number

under_top : (disk : Blocks) (r : Root) (k : ℕ) (top : Inode) → HasTree r k → (tree_in (whole disk r) k 0).inode ≡ top
    → tree_in (whole disk r) k ≡ tree disk r.geometry.inodes top
unfolding whole tree inode_under held
under_top disk r zero top has is = ap (tree disk r.geometry.inodes) is
under_top disk r (suc k) top has is =
    let at : frozen_at disk r.geometry (slot r (suc k)) ≡ tree disk r.geometry.inodes (frozen_inode_file r.geometry.layout (disk has.0)) = ap (frozen_at disk r.geometry) has.1 in
    at ∙ ap (tree disk r.geometry.inodes) (sym (ap (λ (t : HeldTree). (t 0).inode) at) ∙ is)

-- it is that under the inode of its inode file
pub tree_is : (disk : Blocks) (r : Root) (s : Sizes) (t : Tree) → r.geometry ≡ s → IsTreeOf disk r t → tree_in (whole disk r) t.plane ≡ tree disk s.inodes t.top
tree_is disk r s t same is = under_top disk r t.plane t.top is.has is.top ∙ ap (λ (g : Sizes). tree disk g.inodes t.top) same

first_is : (disk : Blocks) (inodes : ℕ) (top : Inode) → tree disk inodes top 0 ≡ held disk top
unfolding tree inode_under held
first_is disk inodes top = refl

pub top_is : (disk : Blocks) (r : Root) (t : Tree) → IsTreeOf disk r t → tree_in (whole disk r) t.plane 0 ≡ held disk t.top
top_is disk r t is = ap (λ (h : HeldTree). h 0) (tree_is disk r r.geometry t refl is) ∙ first_is disk r.geometry.inodes t.top

held_again : (disk : Blocks) (inodes : ℕ) (top : Inode) (n : ℕ) → held disk (tree disk inodes top n).inode ≡ tree disk inodes top n
unfolding tree held
held_again disk inodes top n = refl

-- each number has what hangs from its inode
pub number_is : (disk : Blocks) (r : Root) (t : Tree) (n : ℕ) → IsTreeOf disk r t
    → tree_in (whole disk r) t.plane n ≡ held disk (tree_in (whole disk r) t.plane n).inode
number_is disk r t n is =
    subst (λ (h : HeldTree). h n ≡ held disk (h n).inode) (sym (tree_is disk r r.geometry t refl is)) (sym (held_again disk r.geometry.inodes t.top n))

pub top_grammar : (disk : Blocks) (r : Root) (s : Sizes) (t : Tree) → IsTreeOf disk r t → IsTreeGrammar s (tree_in (whole disk r) t.plane) → IsFileGrammar s (held disk t.top)
top_grammar disk r s t is grammar = subst (IsFileGrammar s) (top_is disk r t is) (grammar.files 0)

-- the inode file of a tree in its grammar can be read
pub top_readable : (disk : Blocks) (r : Root) (s : Sizes) (t : Tree) → IsTreeOf disk r t → IsTreeGrammar s (tree_in (whole disk r) t.plane) → IsReadable (held disk t.top)
top_readable disk r s t is grammar =
    inodes_readable r.geometry disk t.top t.top.body refl is.fits.body (λ i. ap (λ (h : Held). drop 4032 (file_block h i)) (sym (top_is disk r t is)) ∙ grammar.inodes.behind i)

pub kind_of_place : (s : Sizes) (t : HeldTree) (n : ℕ) → IsTreeGrammar s t → 1 ≤ n → n < s.inodes → HasKindOfPlace s.inodes n (t n).inode.kind
kind_of_place s t n grammar some lt = record {
  number = λ _ _. grammar.kinds n;
  root = λ is. ap (λ k. (t k).inode.kind) is ∙ grammar.root;
  none = λ is. absurd (omega arith);
  past = λ ge. absurd (omega arith);
}

-- ---- a file of memory

-- what stands over its blocks is in the grammar, and they can be read
pub reached : (at : AreSoundAt) (s : Sizes) (disk : Blocks) (f : Inode) (file : File) (blocks i : ℕ) → IsFileGrammar s (held disk f) → IsReadable (held disk f) → IsFileOfInode f file
    → blocks ≡ s.blocks → IsSoundAt blocks disk file.tree i
reached at s disk f file blocks i grammar readable is same =
    subst (λ (n : ℕ). IsSoundAt n disk file.tree i) (sym same) (at by_sizes s disk f file.tree i grammar readable (starts_based f file.tree is.starts))

-- its blocks are those that images have
pub block_is : (reads : ReadAsHeld) (s : Sizes) (disk : Blocks) (f : Inode) (file : File) (i : ℕ) → IsFileGrammar s (held disk f) → IsFileOfInode f file
    → memory.file_block disk file i ≡ file_block (held disk f) i
block_is reads s disk f file i grammar is =
    is.blocks disk i ∙ ap (λ (block : ℕ → List ℕ). block i) (reads by_sizes s disk f grammar)

-- the bytes of an inode in the inode file, as they are read
pub bytes_at : (reads : ReadAsHeld) (s : Sizes) (disk : Blocks) (r : Root) (t : Tree) (n : ℕ) → IsTreeOf disk r t → IsFileGrammar s (held disk t.top)
    → inode_bytes_at (memory.file_block disk t.file) n ≡ inode_bytes_at (file_block (tree_in (whole disk r) t.plane 0)) n
bytes_at reads s disk r t n is grammar =
    ap (λ (bytes : List ℕ). inode_part bytes (n % 21)) (block_is reads s disk t.top t.file (n / 21) grammar is.file ∙ sym (ap (λ (h : Held). file_block h (n / 21)) (top_is disk r t is)))

-- a tree in its grammar, by the sizes in memory, and as more is read
pub grammar_at : {disk : Blocks} {r : Root} {s : Sizes} {blocks : ℕ} {t : Tree} → IsTreeAt disk r s blocks t → IsTreeGrammar s (tree_in (whole disk r) t.plane)
grammar_at {disk = disk} {r = r} {t = t} at = subst (λ (x : Sizes). IsTreeGrammar x (tree_in (whole disk r) t.plane)) at.over.geometry at.grammar

pub sizes_over : {r : Root} {s : Sizes} {blocks : ℕ} → IsRootOf r s blocks → AreSizes s
sizes_over over = subst AreSizes over.geometry over.root.head.sizes

pub blocks_over : {r : Root} {s : Sizes} {blocks : ℕ} → IsRootOf r s blocks → blocks ≡ s.blocks
blocks_over over = over.count ∙ ap (λ (x : Sizes). x.blocks) over.geometry

-- and an inode of it is no larger than the newest version allows
pub newest_size : {r : Root} {s : Sizes} {blocks : ℕ} {i : Inode} → IsRootOf r s blocks → IsInode s i → i.size ≤ greatest_under VERSION
newest_size {r = r} {i = i} over fits =
    subst (λ (l : Layout). i.size ≤ greatest_size l) (fits.layout ∙ ap (λ (x : Sizes). x.layout) (sym over.geometry) ∙ root_plain r over.root) fits.size

pub over_later : {r : Root} {s : Sizes} {blocks more : ℕ} → more ≡ blocks → IsRootOf r s blocks → IsRootOf r s more
over_later same over = record { root = over.root; geometry = over.geometry; count = same ∙ over.count }

pub tree_later : {disk : Blocks} {r : Root} {s : Sizes} {blocks more : ℕ} {t : Tree} → more ≡ blocks → IsTreeAt disk r s blocks t → IsTreeAt disk r s more t
tree_later same at = record { over = over_later same at.over; tree = at.tree; grammar = at.grammar }

-- a number whose inode was read
pub own_is : (reads : ReadAsHeld) (spells : SpellTrees) (s : Sizes) (disk : Blocks) (r : Root) (t : Tree) (n : ℕ) (i : Inode) → r.geometry ≡ s → AreSizes s → IsTreeOf disk r t
    → IsFileGrammar s (held disk t.top) → 1 ≤ n → n < s.inodes → IsInode s i → inode_bytes_at (memory.file_block disk t.file) n ≡ inode_bytes i
    → tree_in (whole disk r) t.plane n ≡ held disk i
own_is reads spells s disk r t n i same are is grammar some lt fits spelled =
    ap (λ (h : HeldTree). h n) (tree_is disk r s t same is)
    ∙ spells s disk t.top i n are (is.fits.layout ∙ ap (λ (x : Sizes). x.layout) same) some lt fits (sym (ap (λ (h : Held). inode_bytes_at (file_block h) n) (top_is disk r t is)) ∙ sym (bytes_at reads s disk r t n is grammar) ∙ spelled)

-- it is there, where the tree is in its grammar
pub own_there : (reads : ReadAsHeld) (at : AreSoundAt) (s : Sizes) (disk : Blocks) (r : Root) (t : Tree) (n blocks : ℕ) (kind : Kind) → IsTreeOf disk r t
    → IsTreeGrammar s (tree_in (whole disk r) t.plane) → blocks ≡ s.blocks → 1 ≤ n → n < s.inodes → (tree_in (whole disk r) t.plane n).inode.kind ≡ kind
    → (IsSoundAt blocks disk t.file.tree 0 → (i : Inode) → IsInode s i → i.kind ≡ kind → inode_bytes_at (memory.file_block disk t.file) n ≡ inode_bytes i → ⊥) → ⊥
own_there reads at s disk r t n blocks kind is grammar count some lt of_kind none =
    let top = top_grammar disk r s t is grammar in
    none (reached at s disk t.top t.file blocks 0 top (top_readable disk r s t is grammar) is.file count) (tree_in (whole disk r) t.plane n).inode (grammar.files n).inode of_kind
    (bytes_at reads s disk r t n is top ∙ grammar.inodes.each n some lt)

-- ---- a node

-- where nodes stand, by the law of inode
abbrev pub StandWhereLed : Type 0
StandWhereLed = (disk : Blocks) (f : Inode) (pointers : List Pointer) (depth height i : ℕ) → f.body ≡ Pointers pointers
    → level_of f.layout f.size ≡ suc (depth + height) → (held disk f).place height i ≡ place f.layout disk pointers depth i

level_over : (level full depth height : ℕ) → level ≡ suc (full + 0) → depth ≡ full → height ≤ depth → level ≡ suc (depth - height + height)
level_over level full depth height is same le = omega arith

-- a node of a file of memory with pointers is that of the image
pub pointer_node : (led : StandWhereLed) (disk : Blocks) (f : Inode) (pointers : List Pointer) (t : BlockTree) (nodes : PlaceMap) (height i : ℕ) → f.body ≡ Pointers pointers
    → 128 < f.size → HasPointers f.layout pointers f.size t → height ≤ t.depth → AreNodes t.layout disk t.pointers (t.depth - height) (nodes_at t.layout t.count height) nodes
    → i < nodes_at t.layout t.count height → (held disk f).place height i ≡ place_at nodes i
pointer_node led disk f pointers t nodes height i is large has le are low =
    led disk f pointers (t.depth - height) height i is (level_over (level_of f.layout f.size) (depth_of f.layout f.size) t.depth height (some_level f.layout f.size large) has.depth le)
    ∙ sym (ap (λ (ps : List Pointer). place f.layout disk ps (t.depth - height) i) has.pointers_are)
    ∙ sym (ap (λ (l : Layout). place l disk t.pointers (t.depth - height) i) has.layout_is) ∙ sym (are i low)
