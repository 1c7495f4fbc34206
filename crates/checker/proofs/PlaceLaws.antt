-- The blocks of the inode file of a tree, at their places.
use Rattle.std.proofs.Common.{◌≡◌, ◌∙◌, ℕ, ◌-◌, ◌*◌, ◌<◌, ◌≤◌, List, length, refl, sym, ap, subst, inl, inr, arith}
use Rattle.std.specs.Int.{div_ceil}
use Rattle.std.proofs.lemmas.Bool.{cases_lt}
use Rattle.layout.specs.Inode.{FitsBody, FitsKind}
use Rattle.layout.specs.Limits.{Sizes}
use Rattle.layout.specs.Pointer.{PointsBelow}
use Rattle.layout.specs.Places.{Blocks, place, pointed}
use Rattle.layout.specs.declared.inode.Body.{Body}
use Rattle.layout.specs.declared.inode.Body.TheVariants.{Inline, Pointers}
use Rattle.layout.specs.declared.inode.Inode.{Inode}
use Rattle.layout.specs.declared.kind.Kind.{Kind}
use Rattle.layout.specs.declared.pointer.Pointer.{Pointer}
use Rattle.layout.specs.declared.pointer.Pointer.TheVariants.{Block, Hole}
use Rattle.layout.specs.declared.root.Root.{Root}
use Rattle.layout.specs.declared.trees.Layout.{Layout}
use Rattle.layout.proofs.ZeroLaws.{length-zeros}
use Rattle.buffers.specs.Disks.{IsWhole}
use Rattle.blocktree.specs.Names.{AreNodes, nodes_at}
use Rattle.blocktree.specs.PlaceMaps.{EndBefore, place_at}
use Rattle.blocktree.specs.Places.{depth_of}
use Rattle.blocktree.specs.declared.place_map.PlaceMap.{PlaceMap}
use Rattle.blocktree.specs.declared.tree.BlockTree.{BlockTree}
use Rattle.inode.specs.Bases.{StartsFrom}
use Rattle.inode.proofs.HeldLaws.{node_past, node_place, some_level}
use Rattle.images.specs.Nodes.{body_block, file_block, held}
use Rattle.images.specs.Soundness.{IsFileGrammar, IsReadable, nodes_of_size}
use Rattle.checker.specs.Tables.{ArePlaces}
use Rattle.checker.specs.Trees.{IsTreeOf}
use Rattle.checker.specs.declared.tree.Tree.{Tree}

-- an inode file has a level
pub top_large : (disk : Blocks) (r : Root) (t : Tree) → IsTreeOf disk r t → 1 ≤ r.geometry.inodes → 128 < t.top.size
top_large disk r t is some =
    let fits = subst (λ (k : Kind). FitsKind k r.geometry t.top.attributes t.top.links t.top.size) is.kind is.fits.kind in
    let size : t.top.size ≡ 4096 * div_ceil r.geometry.inodes 21 = fits.2 in
    omega (arith, size, some)

-- where its blocks are
places_by : (s : Sizes) (disk : Blocks) (f : Inode) (body : Body) (t : BlockTree) (places : PlaceMap) (i : ℕ) → f.body ≡ body → FitsBody f.layout body s.blocks f.size → 128 < f.size
    → IsFileGrammar s (held disk f) → StartsFrom f.layout body f.size t → ArePlaces disk t places → place_at places i ≡ (held disk f).place 0 i
unfolding nodes_of_size
places_by s disk f (Inline bytes) t places i is fits large grammar starts are = absurd (omega (arith, large, fits.0))
places_by s disk f (Pointers ps) t places i is fits large grammar starts are = elim (cases_lt i t.count) [
  | inl low ↦
      are.0 i low ∙ ap (λ (l : Layout). place l disk t.pointers t.depth i) starts.0.layout_is
      ∙ ap (λ (qs : List Pointer). place f.layout disk qs t.depth i) starts.0.pointers_are ∙ ap (λ (d : ℕ). place f.layout disk ps d i) starts.0.depth
      ∙ sym (node_place disk f ps (depth_of f.layout f.size) 0 i is (some_level f.layout f.size large))
  | inr high ↦ are.1 i high ∙ sym (node_past s disk f 0 i grammar (omega (arith, high, starts.0.count)))
]

pub places_are : (s : Sizes) (disk : Blocks) (f : Inode) (t : BlockTree) (places : PlaceMap) (i : ℕ) → 128 < f.size → IsFileGrammar s (held disk f) → StartsFrom f.layout f.body f.size t
    → ArePlaces disk t places → place_at places i ≡ (held disk f).place 0 i
unfolding held
places_are s disk f t places i large grammar starts are = places_by s disk f f.body t places i refl grammar.inode.body large grammar starts are

-- what they hold
stored_by : (s : Sizes) (disk : Blocks) (f : Inode) (body : Body) (i : ℕ) → f.body ≡ body → FitsBody f.layout body s.blocks f.size → 128 < f.size
    → body_block body ((held disk f).bytes 0 i) i ≡ pointed disk ((held disk f).place 0 i)
unfolding held
stored_by s disk f (Inline bytes) i is fits large = absurd (omega (arith, large, fits.0))
stored_by s disk f (Pointers ps) i is fits large = refl

pub stored_at : (s : Sizes) (disk : Blocks) (f : Inode) (i : ℕ) → 128 < f.size → IsFileGrammar s (held disk f) → file_block (held disk f) i ≡ pointed disk ((held disk f).place 0 i)
unfolding held
stored_at s disk f i large grammar = stored_by s disk f f.body i refl grammar.inode.body large

-- and that they can be read
pub whole_at : (disk : Blocks) (f : Inode) (i : ℕ) (p : Pointer) → IsReadable (held disk f) → (held disk f).place 0 i ≡ p → IsWhole (pointed disk p)
unfolding held
whole_at disk f i Hole readable is = length-zeros 4096
whole_at disk f i (Block b) readable is = ap (λ (p : Pointer). length (pointed disk p)) (sym is) ∙ readable i b is

pub all_places : (disk : Blocks) (t : BlockTree) (places : PlaceMap) → AreNodes t.layout disk t.pointers (t.depth - 0) (nodes_at t.layout t.count 0) places → EndBefore (nodes_at t.layout t.count 0) places → ArePlaces disk t places
unfolding nodes_at
all_places disk t places are end =
    let same : t.depth - 0 ≡ t.depth = omega arith in
    (λ i low. are i low ∙ ap (λ (d : ℕ). place t.layout disk t.pointers d i) same, end)

-- nothing is below a number of blocks
pub none_below : (blocks : ℕ) (p : Pointer) → p ≡ Hole → PointsBelow blocks p
none_below blocks p is = subst (PointsBelow blocks) (sym is) tt
