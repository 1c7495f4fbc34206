-- The settled nodes that were read are those that hang from the settled inode.
use Rattle.std.proofs.Common.{◌≡◌, inl, inr, ℕ, suc, ◌+◌, ◌-◌, ◌*◌, ◌/◌, ◌%◌, ◌<◌, ◌≤◌, List, ap, sym, subst, ◌∙◌, arith}
use Rattle.std.proofs.lemmas.Bool.{cases_lt}
use Rattle.std.specs.Prelude.{min}
use Rattle.layout.specs.Limits.{Sizes}
use Rattle.layout.specs.Places.{Blocks, follow, place, pointed}
use Rattle.layout.specs.Trees.{fan_out, level_of}
use Rattle.layout.specs.declared.trees.Layout.{Layout}
use Rattle.layout.specs.declared.inode.Body.TheVariants.{Pointers}
use Rattle.layout.specs.declared.inode.Inode.{Inode}
use Rattle.layout.specs.declared.pointer.Pointer.{Pointer}
use Rattle.layout.specs.declared.pointer.Pointer.TheVariants.{Hole, Block}
use Rattle.layout.proofs.FanLaws.{first_of, pointer_back, up_back}
use Rattle.layout.proofs.PointerLaws.{hole_block}
use Rattle.buffers.specs.Disks.{IsWhole}
use Rattle.images.specs.Nodes.{held}
use Rattle.images.specs.Soundness as images
use Rattle.images.specs.Soundness.{IsReadable, IsSoundFile}
use Rattle.blocktree.specs.Names.{nodes_at}
use Rattle.blocktree.specs.Places.{block_count, IsPath, IsStoredNode}
use Rattle.blocktree.specs.PlaceMaps.{EndBefore, place_at}
use Rattle.blocktree.specs.declared.place_map.PlaceMap.{PlaceMap}
use Rattle.blocktree.specs.declared.tree.BlockTree.{BlockTree}
use Rattle.inode.proofs.HeldLaws.{node_place, stored_whole}
use Rattle.placement.specs.declared.nodes.Nodes.{Nodes}
use Rattle.placement.specs.Files.{IsBasedOn}
use Rattle.placement.specs.Layouts.{AreSettledNodes}
use Rattle.placement.specs.Nodes.{IsEmptyGroup, height_of, most_groups, node}
use Rattle.placement.proofs.FanLemmas.{groups_index}
use Rattle.placement.proofs.HeldLaws.{first_nodes, no_nodes, nodes_fall, nodes_same}
use Rattle.placement.proofs.PlacedLaws.{node_over}

-- the law of inode on where nodes stand
pub record NodeLaws : Type 0 where
  pub places : (disk : Blocks) (f : Inode) (pointers : List Pointer) (depth height i : ℕ) → f.body ≡ Pointers pointers → level_of f.layout f.size ≡ suc (depth + height)
      → (held disk f).place height i ≡ place f.layout disk pointers depth i
  pub paths : (s : Sizes) (disk : Blocks) (f : Inode) (pointers : List Pointer) (depth height i : ℕ) → IsSoundFile s (held disk f) → f.body ≡ Pointers pointers → level_of f.layout f.size ≡ suc (depth + height)
      → IsPath f.layout s.blocks disk pointers depth (images.nodes_of_size f.layout f.size height) i
  pub past : (s : Sizes) (disk : Blocks) (f : Inode) (height i : ℕ) → IsSoundFile s (held disk f) → images.nodes_of_size f.layout f.size height ≤ i → (held disk f).place height i ≡ Hole
  pub above : (disk : Blocks) (f : Inode) (height i : ℕ) → level_of f.layout f.size ≤ height → (held disk f).place height i ≡ Hole

-- as many nodes by the size of a settled inode as its tree counts
nodes_counted : (base : Inode) (t : BlockTree) (m : ℕ) → t.layout ≡ base.layout → t.count ≡ block_count base.size → images.nodes_of_size base.layout base.size m ≡ nodes_at t.layout t.count m
nodes_counted base t m layout count =
    nodes_same base.layout base.size m ∙ ap (λ (k : ℕ). nodes_at base.layout k m) (sym count) ∙ ap (λ (l : Layout). nodes_at l t.count m) (sym layout)

pub paths_sound : (laws : NodeLaws) (s : Sizes) (d : Blocks) (base : Inode) (t : BlockTree) → IsBasedOn base t → IsSoundFile s (held d base) → (i : ℕ) → i < t.count → IsPath t.layout s.blocks d t.pointers t.depth t.count i
paths_sound laws s d base t (IsBasedOn.settled layout body level count) sound i lt =
    let all : images.nodes_of_size base.layout base.size 0 ≡ t.count = nodes_counted base t 0 layout count ∙ first_nodes t.layout t.count in
    subst (λ (l : Layout). IsPath l s.blocks d t.pointers t.depth t.count i) (sym layout)
    (subst (λ (n : ℕ). IsPath base.layout s.blocks d t.pointers t.depth n i) all (laws.paths s d base t.pointers t.depth 0 i sound body (omega (arith, level))))
paths_sound laws s d base t (IsBasedOn.none layout level count) sound i lt = absurd (omega (arith, lt, count))

-- a settled block is a hole, or can be read
pub blocks_whole : (d : Blocks) (base : Inode) (t : BlockTree) → IsBasedOn base t → IsReadable (held d base) → (i : ℕ) → i < t.count → IsWhole (pointed d (place t.layout d t.pointers t.depth i))
blocks_whole d base t (IsBasedOn.settled layout body level count) readable i lt =
    subst (λ (l : Layout). IsWhole (pointed d (place l d t.pointers t.depth i))) (sym layout)
    (stored_whole d base i (place base.layout d t.pointers t.depth i) (node_place d base t.pointers t.depth 0 i body (omega (arith, level))) readable)
blocks_whole d base t (IsBasedOn.none layout level count) readable i lt = absurd (omega (arith, lt, count))

module _ (laws : NodeLaws) (s : Sizes) (d : Blocks) (base : Inode) (t : BlockTree) (n : Nodes) (sound : IsSoundFile s (held d base)) (same : n.layout ≡ t.layout) (heights : height_of n ≡ suc t.depth)
    (end : (m i : ℕ) → nodes_at t.layout t.count m ≤ i → node n m i ≡ Hole) (nodes : (m i : ℕ) → m ≤ t.depth → i < nodes_at t.layout t.count m → node n m i ≡ place t.layout d t.pointers (t.depth - m) i) where
  lowest : (i : ℕ) → i < t.count → node n 0 i ≡ place t.layout d t.pointers t.depth i
  lowest i lt =
      let deep : t.depth - 0 ≡ t.depth = omega arith in
      nodes 0 i (omega arith) (subst (λ (k : ℕ). i < k) (sym (first_nodes t.layout t.count)) lt) ∙ ap (λ (k : ℕ). place t.layout d t.pointers k i) deep

  module _ (layout : t.layout ≡ base.layout) (body : base.body ≡ Pointers t.pointers) (level : level_of base.layout base.size ≡ suc t.depth) (all : t.count ≡ block_count base.size) where
    node_is : (m i : ℕ) → (held d base).place m i ≡ node n m i
    node_is m i = elim (cases_lt t.depth m) [
      | inl high ↦ laws.above d base m i (omega (arith, level, high)) ∙ sym (node_over n m i (omega (arith, heights, high)))
      | inr low ↦ elim (cases_lt i (nodes_at t.layout t.count m)) [
        | inl lt ↦
            laws.places d base t.pointers (t.depth - m) m i body (omega (arith, level, low))
            ∙ ap (λ (l : Layout). place l d t.pointers (t.depth - m) i) (sym layout) ∙ sym (nodes m i low lt)
        | inr ge ↦ laws.past s d base m i sound (omega (arith, ge, nodes_counted base t m layout all)) ∙ sym (end m i ge)
      ]
    ]

  pub are_settled : IsBasedOn base t → AreSettledNodes d base t n
  are_settled (IsBasedOn.settled layout body level all) = record {
    nodes = record { places = node_is layout body level all };
    layout = same ∙ layout;
    tree = layout;
    blocks = lowest;
    heights = inl (heights ∙ sym level);
  }
  are_settled (IsBasedOn.none layout level empty) = record {
    nodes = record { places = λ m i. laws.above d base m i (omega (arith, level)) ∙ sym (end m i (omega (arith, no_nodes t.layout t.count m empty))) };
    layout = same ∙ layout;
    tree = layout;
    blocks = lowest;
    heights = inr level;
  }

-- ---- an indirect block leads to a node

-- the nodes of a height but the lowest have an index of a group
pub few_over : (l : Layout) (count m : ℕ) → count ≤ 4294967295 → nodes_at l count (suc m) ≤ most_groups l
unfolding nodes_at
few_over l count m low = groups_index l (nodes_at l count m) (omega (arith, low, nodes_fall l count m))

-- under a node there is one
node_under : (l : Layout) (disk : Blocks) (pointers : List Pointer) (depth blocks count j b : ℕ) → IsPath l blocks disk pointers (suc depth) count (fan_out l * j) → place l disk pointers depth j ≡ Block b
    → ((i : ℕ) → i < fan_out l → fan_out l * j + i < count → place l disk pointers (suc depth) (fan_out l * j + i) ≡ Hole) → ⊥
unfolding place IsPath
node_under l disk pointers depth blocks count j b path is holes =
    let stored : IsStoredNode l blocks disk (count - fan_out l * j) (Block b) =
    subst (λ (p : Pointer). IsStoredNode l blocks disk (count - fan_out l * j) p) is (subst (λ (k : ℕ). IsStoredNode l blocks disk (count - fan_out l * k) (place l disk pointers depth k)) (first_of l j) path.1) in
    let (i, small, some) = stored.some in
    elim (cases_lt i (min (count - fan_out l * j) (fan_out l))) [
      | inr past ↦ some ((stored.within i small).1 past)
      | inl used ↦
          let low : i < fan_out l = omega (arith, used) in
          let hole : follow disk (place l disk pointers depth ((fan_out l * j + i) / fan_out l)) ((fan_out l * j + i) % fan_out l) ≡ Hole = holes i low (omega (arith, used)) in
          some (subst (λ (p : Pointer). follow disk p i ≡ Hole) is (subst (λ (k : ℕ). follow disk (place l disk pointers depth k) i ≡ Hole) (up_back l j i low) (subst (λ (r : ℕ). follow disk (place l disk pointers depth ((fan_out l * j + i) / fan_out l)) r ≡ Hole) (pointer_back l j i low) hole)))
    ]

-- so in a settled file: there is no node over a group of holes
pub not_empty : (laws : NodeLaws) (s : Sizes) (d : Blocks) (base : Inode) (t : BlockTree) (n : Nodes) (p : PlaceMap) (m j b : ℕ) → IsBasedOn base t → IsSoundFile s (held d base) → n.layout ≡ t.layout → suc m ≤ t.depth
    → ((i : ℕ) → i < nodes_at t.layout t.count m → node n m i ≡ place t.layout d t.pointers (t.depth - m) i) → EndBefore (nodes_at t.layout t.count (suc m)) p
    → ((i : ℕ) → i < nodes_at t.layout t.count (suc m) → place_at p i ≡ place t.layout d t.pointers (t.depth - suc m) i) → place_at p j ≡ Block b
    → IsEmptyGroup n m j → ⊥
not_empty laws s d base t n p m j b (IsBasedOn.settled layout body level count) sound same deep below end over is empty =
    let down : t.depth - m ≡ suc (t.depth - suc m) = omega (arith, deep) in
    let low : j < nodes_at t.layout t.count (suc m) = elim (cases_lt j (nodes_at t.layout t.count (suc m))) [ inl lt ↦ lt | inr ge ↦ hole_block (sym (end j ge) ∙ is) ] in
    let all : images.nodes_of_size base.layout base.size m ≡ nodes_at t.layout t.count m = nodes_counted base t m layout count in
    let path : IsPath t.layout s.blocks d t.pointers (suc (t.depth - suc m)) (images.nodes_of_size base.layout base.size m) (fan_out t.layout * j) =
    subst (λ (l : Layout). IsPath l s.blocks d t.pointers (suc (t.depth - suc m)) (images.nodes_of_size base.layout base.size m) (fan_out t.layout * j)) (sym layout)
    (laws.paths s d base t.pointers (suc (t.depth - suc m)) m (fan_out t.layout * j) sound body (omega (arith, level, deep))) in
    let holes : (i : ℕ) → i < fan_out t.layout → node n m (fan_out t.layout * j + i) ≡ Hole = subst (λ (l : Layout). (i : ℕ) → i < fan_out l → node n m (fan_out l * j + i) ≡ Hole) same empty in
    node_under t.layout d t.pointers (t.depth - suc m) s.blocks (images.nodes_of_size base.layout base.size m) j b path (sym (over j low) ∙ is)
    (λ i small lt. ap (λ (k : ℕ). place t.layout d t.pointers k (fan_out t.layout * j + i)) (sym down) ∙ sym (below (fan_out t.layout * j + i) (omega (arith, lt, all))) ∙ holes i small)
not_empty laws s d base t n p m j b (IsBasedOn.none layout level count) sound same deep below end over is empty =
    hole_block (sym (end j (omega (arith, no_nodes t.layout t.count (suc m) count))) ∙ is)
