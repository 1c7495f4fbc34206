-- The nodes of a tree that stand in a block.
use Rattle.std.proofs.Common.{◌≡◌, ◌≢◌, ◌∙◌, ℕ, zero, suc, ◌+◌, ◌-◌, ◌<◌, ◌≤◌, refl, ap, sym, subst, arith, inl, inr}
use Rattle.std.specs.Int.{div_ceil}
use Rattle.std.proofs.lemmas.Bool.{cases_lt}
use Rattle.layout.specs.Inode.{FitsBody, IsInode}
use Rattle.layout.specs.Limits.{Sizes}
use Rattle.layout.specs.Places.{Blocks}
use Rattle.layout.specs.Trees.{fan_out, level_of}
use Rattle.layout.proofs.SizeLaws.{level_none}
use Rattle.layout.specs.declared.inode.Body.{Body}
use Rattle.layout.specs.declared.inode.Body.TheVariants.{Inline, Pointers}
use Rattle.layout.specs.declared.inode.Inode.{Inode}
use Rattle.layout.specs.declared.pointer.Pointer.TheVariants.{Block, Hole}
use Rattle.layout.specs.declared.trees.Layout.{Layout}
use Rattle.layout.specs.declared.trees.Layout.TheVariants.{Plain, Summed}
use Rattle.blocktree.specs.Names.{AreNodes, nodes_at}
use Rattle.blocktree.specs.PlaceMaps.{EndBefore, place_at}
use Rattle.blocktree.specs.Places.{block_count}
use Rattle.blocktree.specs.Trees.{AreSound}
use Rattle.blocktree.specs.declared.place_map.PlaceMap.{PlaceMap}
use Rattle.blocktree.specs.declared.tree.BlockTree.{BlockTree}
use Rattle.inode.specs.Bases.{IsBased, StartsFrom}
use Rattle.inode.proofs.HeldLaws.{some_level, starts_based}
use Rattle.images.specs.Nodes.{Held, held}
use Rattle.images.specs.Roots.{HeldTree, free_inode}
use Rattle.images.specs.Soundness.{Detail, IsFileGrammar, IsHeldFile, by_sizes, nodes_of_size}
use Rattle.inode.specs.declared.file.File.{File}
use Rattle.loading.specs.Images.{IsFileOfInode}
use Rattle.checker.specs.Findings.{StandsIn}
use Rattle.checker.specs.Trees.{IsAloneAt, IsNode, IsOwner, SharesBlock}
use Rattle.checker.specs.declared.fault.FileNode.{FileNode}
use Rattle.checker.specs.declared.nodes.Shared.{Shared}
use Rattle.checker.proofs.HeldLaws.{StandWhereLed, pointer_node}

-- by the laws of inode: past as many nodes as a size has, and from the file's level on, all are holes
abbrev pub EndBySize : Type 0
EndBySize = (detail : Detail) (s : Sizes) (disk : Blocks) (f : Inode) (height i : ℕ) → IsHeldFile detail s (held disk f) → nodes_of_size f.layout f.size height ≤ i → (held disk f).place height i ≡ Hole

abbrev pub EndByLevel : Type 0
EndByLevel = (disk : Blocks) (f : Inode) (height i : ℕ) → level_of f.layout f.size ≤ height → (held disk f).place height i ≡ Hole

-- and what stands over the blocks is in its grammar
abbrev pub AreAllSound : Type 0
AreAllSound = (detail : Detail) (s : Sizes) (disk : Blocks) (i : Inode) (t : BlockTree) → IsHeldFile detail s (held disk i) → IsBased i t → AreSound s.blocks disk t

same_nodes : (layout : Layout) (size count height : ℕ) → count ≡ block_count size → nodes_at layout count height ≡ nodes_of_size layout size height
unfolding nodes_at nodes_of_size
same_nodes layout size count zero is = is
same_nodes layout size count (suc height) is = ap (λ (n : ℕ). div_ceil n (fan_out layout)) (same_nodes layout size count height is)

few_nodes : (layout : Layout) (count height : ℕ) → nodes_at layout count height ≤ count
unfolding nodes_at
few_nodes layout count zero = omega arith
few_nodes Plain count (suc height) = omega (arith, few_nodes Plain count height)
few_nodes Summed count (suc height) = omega (arith, few_nodes Summed count height)

-- no node of a file that has its bytes itself
inline_none : (above : EndByLevel) (disk : Blocks) (f : Inode) (m i b : ℕ) → f.size ≤ 128 → (held disk f).place m i ≡ Block b → ⊥
inline_none above disk f m i b small there =
    let hole = above disk f m i (omega (arith, level_none f.layout f.size small)) in cc

-- ---- what was found

stands_at : (led : StandWhereLed) (s : Sizes) (disk : Blocks) (f : Inode) (body : Body) (t : BlockTree) (nodes : PlaceMap) (height i b : ℕ) → f.body ≡ body → FitsBody f.layout body s.blocks f.size
    → StartsFrom f.layout body f.size t → height ≤ t.depth → AreNodes t.layout disk t.pointers (t.depth - height) (nodes_at t.layout t.count height) nodes → EndBefore (nodes_at t.layout t.count height) nodes
    → i < t.count → place_at nodes i ≡ Block b → (held disk f).place height i ≡ Block b
stands_at led s disk f (Inline bytes) t nodes height i b is fits starts le are end lt there = absurd (omega (arith, starts.1, lt))
stands_at led s disk f (Pointers pointers) t nodes height i b is fits starts le are end lt there = elim (cases_lt i (nodes_at t.layout t.count height)) [
  | inl low ↦ pointer_node led disk f pointers t nodes height i is fits.0 starts.0 le are low ∙ there
  | inr high ↦ (let hole = end i high in cc)
]

pub owner_at : (led : StandWhereLed) (s : Sizes) (disk : Blocks) (f : Inode) (t : BlockTree) (nodes : PlaceMap) (shared : Shared) (number height : ℕ) (node : FileNode) → IsInode s f
    → StartsFrom f.layout f.body f.size t → height ≤ t.depth → AreNodes t.layout disk t.pointers (t.depth - height) (nodes_at t.layout t.count height) nodes → EndBefore (nodes_at t.layout t.count height) nodes
    → (node.number ≡ number) × (node.height ≡ height) × (node.index < t.count) × (place_at nodes node.index ≡ Block shared.block) × (node ≢ shared.second)
    → IsOwner shared number (held disk f) node
owner_at led s disk f t nodes shared number height node fits starts le are end found = (
  found.0,
  ap (λ (m : ℕ). (held disk f).place m node.index) found.1
      ∙ stands_at led s disk f f.body t nodes height node.index shared.block refl fits.body starts le are end found.2 found.3,
  found.4,
)

pub owner_stands : (disk : Blocks) (t : HeldTree) (inode : Inode) (shared : Shared) (n : ℕ) (node : FileNode) → t n ≡ held disk inode → IsOwner shared n (held disk inode) node
    → StandsIn t node shared.block × (node ≢ shared.second)
owner_stands disk t inode shared n node is owner = (
  ap (λ (m : ℕ). (t m).place node.height node.index) owner.0 ∙ ap (λ (h : Held). h.place node.height node.index) is ∙ owner.1,
  owner.2,
)

-- ---- what wasn't

-- the nodes up to one that was looked at
module _ (nodes : PlaceMap) (shared : Shared) (number height from : ℕ) (before : (i : ℕ) → i < from → place_at nodes i ≡ Block shared.block → IsNode shared.second number height i) where
  pub node_more : (index place : ℕ) (node : FileNode) → node.number ≡ number → node.height ≡ height → node.index ≡ index → ((i : ℕ) → from ≤ i → i < index → place_at nodes i ≡ Hole)
      → place_at nodes index ≡ Block place → (place ≡ shared.block → node ≡ shared.second) → (i : ℕ) → i < index + 1 → place_at nodes i ≡ Block shared.block → IsNode shared.second number height i
  node_more index place node one two three holes stored same i lt there = elim (cases_lt i from) [
    | inl low ↦ before i low there
    | inr high ↦ elim (cases_lt i index) [
      | inl mid ↦ (let hole = holes i high mid in cc)
      | inr last ↦
          let at : i ≡ index = omega (arith, lt, last) in
          let here : place_at nodes index ≡ Block shared.block = subst (λ (n : ℕ). place_at nodes n ≡ Block shared.block) at there in
          let block : place ≡ shared.block = cc in
          let is : node ≡ shared.second = same block in (
            sym (ap (λ (n : FileNode). n.number) is) ∙ one,
            sym (ap (λ (n : FileNode). n.height) is) ∙ two,
            sym (ap (λ (n : FileNode). n.index) is) ∙ three ∙ sym at,
          )
    ]
  ]

  pub node_none : (count : ℕ) → ((i : ℕ) → from ≤ i → i < count → place_at nodes i ≡ Hole) → (i : ℕ) → i < count → place_at nodes i ≡ Block shared.block → IsNode shared.second number height i
  node_none count holes i lt there = elim (cases_lt i from) [
    | inl low ↦ before i low there
    | inr high ↦ (let hole = holes i high lt in cc)
  ]

pub file_sound : (all : AreAllSound) (s : Sizes) (disk : Blocks) (f : Inode) (file : File) (blocks : ℕ) → IsFileGrammar s (held disk f) → IsFileOfInode f file → blocks ≡ s.blocks
    → AreSound blocks disk file.tree
file_sound all s disk f file blocks grammar is same =
    subst (λ (n : ℕ). AreSound n disk file.tree) (sym same) (all by_sizes s disk f file.tree grammar (starts_based f file.tree is.starts))

alone_at : (led : StandWhereLed) (past : EndBySize) (above : EndByLevel) (s : Sizes) (disk : Blocks) (f : Inode) (body : Body) (t : BlockTree) (nodes : PlaceMap) (shared : Shared) (number height : ℕ)
    → f.body ≡ body → FitsBody f.layout body s.blocks f.size → IsFileGrammar s (held disk f) → StartsFrom f.layout body f.size t → height ≤ t.depth
    → AreNodes t.layout disk t.pointers (t.depth - height) (nodes_at t.layout t.count height) nodes
    → ((i : ℕ) → i < t.count → place_at nodes i ≡ Block shared.block → IsNode shared.second number height i) → IsAloneAt shared number (held disk f) height
alone_at led past above s disk f (Inline bytes) t nodes shared number height is fits grammar starts le are none i there =
    absurd (inline_none above disk f height i shared.block fits.0 there)
alone_at led past above s disk f (Pointers pointers) t nodes shared number height is fits grammar starts le are none i there = elim (cases_lt i (nodes_at t.layout t.count height)) [
  | inl low ↦ none i (omega (arith, low, few_nodes t.layout t.count height)) (sym (pointer_node led disk f pointers t nodes height i is fits.0 starts.0 le are low) ∙ there)
  | inr high ↦
      let nodes_are : nodes_at t.layout t.count height ≡ nodes_of_size f.layout f.size height =
      ap (λ (l : Layout). nodes_at l t.count height) starts.0.layout_is ∙ same_nodes f.layout f.size t.count height starts.0.count in
      let hole = past by_sizes s disk f height i grammar (omega (arith, high, nodes_are)) in cc
]

pub height_alone : (led : StandWhereLed) (past : EndBySize) (above : EndByLevel) (s : Sizes) (disk : Blocks) (f : Inode) (t : BlockTree) (nodes : PlaceMap) (shared : Shared) (number height : ℕ)
    → IsFileGrammar s (held disk f) → StartsFrom f.layout f.body f.size t → height ≤ t.depth → AreNodes t.layout disk t.pointers (t.depth - height) (nodes_at t.layout t.count height) nodes
    → ((i : ℕ) → i < t.count → place_at nodes i ≡ Block shared.block → IsNode shared.second number height i) → IsAloneAt shared number (held disk f) height
unfolding held
height_alone led past above s disk f t nodes shared number height grammar starts le are none =
    alone_at led past above s disk f f.body t nodes shared number height refl grammar.inode.body grammar starts le are none

beyond : (above : EndByLevel) (s : Sizes) (disk : Blocks) (f : Inode) (body : Body) (t : BlockTree) (shared : Shared) (number m : ℕ) → FitsBody f.layout body s.blocks f.size
    → StartsFrom f.layout body f.size t → t.depth < m → IsAloneAt shared number (held disk f) m
beyond above s disk f (Inline bytes) t shared number m fits starts lt i there = absurd (inline_none above disk f m i shared.block fits.0 there)
beyond above s disk f (Pointers pointers) t shared number m fits starts lt i there =
    let hole = above disk f m i (omega (arith, lt, starts.0.depth, some_level f.layout f.size fits.0)) in cc

pub above_alone : (above : EndByLevel) (s : Sizes) (disk : Blocks) (f : Inode) (t : BlockTree) (shared : Shared) (number m : ℕ) → IsFileGrammar s (held disk f)
    → StartsFrom f.layout f.body f.size t → t.depth < m → IsAloneAt shared number (held disk f) m
unfolding held
above_alone above s disk f t shared number m grammar starts lt = beyond above s disk f f.body t shared number m grammar.inode.body starts lt

-- the heights one by one, and all
pub one_height_more : (shared : Shared) (number height : ℕ) (h : Held) → ((m : ℕ) → m < height → IsAloneAt shared number h m) → IsAloneAt shared number h height
    → (m : ℕ) → m < height + 1 → IsAloneAt shared number h m
one_height_more shared number height h before here m lt = elim (cases_lt m height) [
  | inl low ↦ before m low
  | inr high ↦ (let at : height ≡ m = omega (arith, lt, high) in subst (IsAloneAt shared number h) at here)
]

pub all_heights : (above : EndByLevel) (s : Sizes) (disk : Blocks) (f : Inode) (t : BlockTree) (shared : Shared) (number height : ℕ) → IsFileGrammar s (held disk f)
    → StartsFrom f.layout f.body f.size t → t.depth < height → ((m : ℕ) → m < height → IsAloneAt shared number (held disk f) m) → (m : ℕ) → IsAloneAt shared number (held disk f) m
all_heights above s disk f t shared number height grammar starts deep before m = elim (cases_lt m height) [
  | inl low ↦ before m low
  | inr high ↦ above_alone above s disk f t shared number m grammar starts (omega (arith, deep, high))
]

pub free_alone : (above : EndByLevel) (layout : Layout) (disk : Blocks) (shared : Shared) (number m : ℕ) → IsAloneAt shared number (held disk (free_inode layout)) m
free_alone above layout disk shared number m i there = absurd (inline_none above disk (free_inode layout) m i shared.block (omega arith) there)

-- one is always found
pub one_found : (t : HeldTree) (shared : Shared) → SharesBlock t shared → ((n m : ℕ) → IsAloneAt shared n (t n) m) → ⊥
one_found t shared shares none =
    let same = none shares.first.number shares.first.height shares.first.index shares.there in
    shares.other (λ i. record { number = sym same.0 i; height = sym same.1 i; index = sym same.2 i })
