-- No hole comes into a file of which each block is stored, nor into one of which each is changed.
use Rattle.std.proofs.Common.{◌≡◌, ℕ, ◌<◌, ◌≤◌, sym, subst, ◌∙◌, arith}
use Rattle.std.proofs.lemmas.Bool.{cond_below}
use Rattle.layout.specs.Places.{Blocks}
use Rattle.layout.specs.Trees.{level_of}
use Rattle.layout.specs.declared.trees.Layout.{Layout}
use Rattle.layout.specs.declared.inode.Inode.{Inode}
use Rattle.layout.specs.declared.pointer.Pointer.TheVariants.{Hole}
use Rattle.images.specs.Nodes.{held}
use Rattle.images.specs.Soundness.{HasNoHole, nodes_of_size}
use Rattle.blocktree.specs.Places.{block_count}
use Rattle.inode.specs.declared.object.Object.{Object}
use Rattle.placement.specs.Files.{AreAllChanged, IsWholeOver, file_level}
use Rattle.placement.specs.Nodes.{AreNodesOf, AreStored, node}
use Rattle.placement.specs.declared.nodes.Nodes.{Nodes}

settled_stored : (disk : Blocks) (base : Inode) (n : Nodes) (i : ℕ) → HasNoHole (held disk base) → AreNodesOf n (held disk base) → 1 ≤ level_of base.layout base.size → i < block_count base.size
    → node n 0 i ≡ Hole → ⊥
unfolding held nodes_of_size
settled_stored disk base n i no_hole nodes level lt hole = no_hole i level lt (nodes.places 0 i ∙ hole)

-- the level of a file of the same layout and size
level_same : (l k : Layout) (n m : ℕ) → l ≡ k → n ≡ m → 1 ≤ level_of l n → 1 ≤ level_of k m
level_same l k n m layout size level = subst (λ (x : Layout). 1 ≤ level_of x m) layout (subst (λ (x : ℕ). 1 ≤ level_of l x) size level)

pub no_hole_left : (disk e : Blocks) (base f : Inode) (o : Object) (settled laid : Nodes) → IsWholeOver disk base o → o.file.tree.layout ≡ base.layout → f.layout ≡ o.file.tree.layout → f.size ≡ o.file.size
    → AreNodesOf settled (held disk base) → AreNodesOf laid (held e f)
    → (1 ≤ file_level o.file → AreStored 0 (block_count o.file.size) o.file.tree settled (node laid 0)) → HasNoHole (held e f)
unfolding held nodes_of_size
no_hole_left disk e base f o settled laid whole settled_layout layout same before after stored i level lt hole =
    let size : f.size ≡ base.size = same ∙ whole.size in
    let high : 1 ≤ level_of base.layout base.size = level_same f.layout base.layout f.size base.size (layout ∙ settled_layout) size level in
    let at : i < block_count base.size = subst (λ n. i < block_count n) size lt in
    let kept : i < o.file.tree.kept = subst (λ n. i < n) (sym (whole.kept high)) at in
    settled_stored disk base settled i whole.no_hole before high at
    (cond_below i o.file.tree.kept (node settled 0 i) Hole kept
    ∙ (stored (level_same f.layout o.file.tree.layout f.size o.file.size layout same level)).holes i (omega arith) (subst (λ n. i < block_count n) same lt) (sym (after.places 0 i) ∙ hole))

pub none_left : (e : Blocks) (f : Inode) (o : Object) (settled laid : Nodes) → AreAllChanged o → f.layout ≡ o.file.tree.layout → f.size ≡ o.file.size → AreNodesOf laid (held e f)
    → (1 ≤ file_level o.file → AreStored 0 (block_count o.file.size) o.file.tree settled (node laid 0)) → HasNoHole (held e f)
unfolding held nodes_of_size
none_left e f o settled laid all layout same after stored i level lt hole =
    let at : i < block_count o.file.size = subst (λ n. i < block_count n) same lt in
    (stored (level_same f.layout o.file.tree.layout f.size o.file.size layout same level)).changed i (omega arith) at (all i at) (sym (after.places 0 i) ∙ hole)
