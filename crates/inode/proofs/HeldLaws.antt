-- Settled inodes in their grammar.
use Rattle.std.proofs.Common.{◌≡◌, inl, inr, ℕ, zero, suc, ◌+◌, ◌-◌, ◌*◌, ◌/◌, ◌%◌, ◌<◌, ◌≤◌, List, ◌++◌, length, take, refl, sym, ap, subst, ◌∙◌, arith, ◌==◌, if◌then◌else◌}
use Rattle.std.proofs.lemmas.Bool.Decides.{nat_tests}
use Rattle.std.specs.Prelude.{nat_lt, slice_index}
use Rattle.std.specs.Int.{div_ceil}
use Rattle.std.proofs.lemmas.Bool.{cases_lt, cond_above, cond_below}
use Rattle.std.proofs.lemmas.List.{length-take}
use Rattle.layout.proofs.FanLaws.{pointer_low}
use Rattle.layout.specs.Bytes.{zeros}
use Rattle.layout.specs.FileBytes.{byte_in, EndsAt}
use Rattle.layout.specs.Inode.{IsInode, FitsBody, FitsPointers, pointers_used}
use Rattle.layout.specs.Limits.{Sizes}
use Rattle.layout.specs.Maps.{IsIndirectBlock}
use Rattle.layout.specs.Places.{follow, pointed, place}
use Rattle.layout.specs.Trees.{fan_out, level_of}
use Rattle.layout.specs.declared.inode.Body.{Body}
use Rattle.layout.specs.declared.inode.Body.TheVariants.{Inline, Pointers}
use Rattle.layout.specs.declared.inode.Inode.{Inode}
use Rattle.layout.specs.declared.trees.Layout.{Layout}
use Rattle.layout.specs.declared.pointer.Pointer.{Pointer}
use Rattle.layout.specs.declared.pointer.Pointer.TheVariants.{Hole, Block}
use Rattle.buffers.specs.Disks.{IsWhole}
use Rattle.blocktree.specs.Places.{depth_of, IsStoredNode, IsPath}
use Rattle.blocktree.specs.Trees.{settled_block, AreSound}
use Rattle.blocktree.specs.declared.tree.BlockTree.{BlockTree}
use Rattle.images.specs.Nodes.{held, file_block, pointers_of, place_at_height}
use Rattle.images.specs.Soundness.{Detail, IsHeldFile, IsReadable, IsSoundFile, nodes_of_size}
use Rattle.images.proofs.ReadingLaws.{hole_past}
use Rattle.inode.specs.Bases.{IsBased, anew, over, StartsFrom}
use Rattle.inode.specs.Bodies.{body_block, inode_block}
use Rattle.inode.specs.Edges.{filled}
use Rattle.inode.proofs.EdgeLaws.{filled_short}
use Rattle.inode.proofs.FanLemmas.{past_used}
use Rattle.layout.proofs.PointerLaws.{points_below}
pub use Rattle.layout.proofs.SizeLaws.{used_is}
use Rattle.layout.proofs.ZeroLaws.{length-zeros}

-- ---- blocks

-- what images say of the blocks of settled files
pub record ReadingLaws : Type 0 where
  pub pointers : {detail : Detail} (s : Sizes) (d : ℕ → List ℕ) (f : Inode) (ps : List Pointer) (i : ℕ) → IsHeldFile detail s (held d f) → f.body ≡ Pointers ps
      → file_block (held d f) i ≡ (if nat_lt i (div_ceil f.size 4096) then pointed d (place f.layout d ps (level_of f.layout f.size - 1) i) else zeros 4096)
  pub first : (s : Sizes) (d : ℕ → List ℕ) (f : Inode) (bytes : List ℕ) → IsInode s f → f.body ≡ Inline bytes
      → file_block (held d f) 0 ≡ take f.size bytes ++ zeros (4096 - f.size)
  pub others : (d : ℕ → List ℕ) (f : Inode) (bytes : List ℕ) (i : ℕ) → f.body ≡ Inline bytes → 1 ≤ i → file_block (held d f) i ≡ zeros 4096

not_first : (n : ℕ) (x y : List ℕ) → (if suc n == 0 then x else y) ≡ y
not_first n x y = grind (arith, nat_tests)

module _ (laws : ReadingLaws) {detail : Detail} (s : Sizes) (disk : ℕ → List ℕ) (f : Inode) (sound : IsHeldFile detail s (held disk f)) where
  is_inode : IsInode s f
  unfolding held
  is_inode = sound.inode

  block_is : (n : ℕ) (body : Body) → f.body ≡ body → body_block f.layout disk body f.size n ≡ file_block (held disk f) n
  unfolding settled_block
  block_is n (Pointers ps) is = sym (laws.pointers s disk f ps n sound is)
  block_is zero (Inline bytes) is =
      let fits = subst (λ (b : Body). FitsBody f.layout b s.blocks f.size) is is_inode.body in
      let whole : length (take f.size bytes) ≡ f.size = omega (arith, length-take f.size bytes, fits.0, fits.1) in
      filled_short (take f.size bytes) 4096 (omega (arith, fits.0)) ∙ ap (λ (n : ℕ). take f.size bytes ++ zeros (4096 - n)) whole
      ∙ sym (laws.first s disk f bytes is_inode is)
  block_is (suc n) (Inline bytes) is = not_first n (filled 4096 (take f.size bytes)) (zeros 4096) ∙ sym (laws.others disk f bytes (suc n) is (omega arith))

  pub as_held : (n : ℕ) → inode_block disk f n ≡ file_block (held disk f) n
  as_held n = block_is n f.body refl

pub held_ends : (s : Sizes) (disk : ℕ → List ℕ) (f : Inode) (block : ℕ → List ℕ) → IsSoundFile s (held disk f) → ((n : ℕ) → block n ≡ file_block (held disk f) n) → EndsAt f.size (byte_in block)
unfolding held
held_ends s disk f block sound same p past = ap (λ (b : List ℕ). slice_index b (p % 4096)) (same (p / 4096)) ∙ sound.bytes.ends p past

-- ---- what a tree is based on

starts : (f : Inode) (t : BlockTree) (body : Body) → f.body ≡ body → StartsFrom f.layout body f.size t → IsBased f t
starts f t (Inline bytes) is none = anew none.0 none.1
starts f t (Pointers ps) is has = over ps is has.0

pub starts_based : (f : Inode) (t : BlockTree) → StartsFrom f.layout f.body f.size t → IsBased f t
starts_based f t from = starts f t f.body refl from

-- ---- nodes and their paths

-- a node at a height is where the inode's pointers lead at the depth under them
pub node_place : (disk : ℕ → List ℕ) (f : Inode) (ps : List Pointer) (depth m i : ℕ) → f.body ≡ Pointers ps → level_of f.layout f.size ≡ suc (depth + m) → (held disk f).place m i ≡ place f.layout disk ps depth i
unfolding held
node_place disk f ps depth m i body level =
    let down : level_of f.layout f.size - suc m ≡ depth = omega (arith, level) in
    let low : m < level_of f.layout f.size = omega (arith, level) in
    sym (cond_below m (level_of f.layout f.size) (place f.layout disk (pointers_of f.body) (level_of f.layout f.size - suc m) i) Hole low)
    ∙ ap (λ (k : ℕ). place f.layout disk (pointers_of f.body) k i) down
    ∙ ap (λ b. place f.layout disk (pointers_of b) depth i) body

-- at the level and over it there is none
pub node_above : (disk : ℕ → List ℕ) (f : Inode) (m i : ℕ) → level_of f.layout f.size ≤ m → (held disk f).place m i ≡ Hole
unfolding held
node_above disk f m i le = sym (cond_above m (level_of f.layout f.size) (place f.layout disk (pointers_of f.body) (level_of f.layout f.size - suc m) i) Hole Hole le refl)

module _ {detail : Detail} (s : Sizes) (disk : ℕ → List ℕ) (f : Inode) (ps : List Pointer) (sound : IsHeldFile detail s (held disk f)) (body : f.body ≡ Pointers ps) where
  pub fits : FitsPointers f.layout ps s.blocks f.size
  unfolding held
  fits = subst (λ (b : Body). FitsBody f.layout b s.blocks f.size) body sound.inode.body

  -- an indirect block that is stored
  node_is : (m j : ℕ) (p : Pointer) → (held disk f).place (suc m) j ≡ p → IsStoredNode f.layout s.blocks disk (nodes_of_size f.layout f.size m - fan_out f.layout * j) p
  unfolding held
  node_is m j Hole is = tt
  node_is m j (Block b) is =
      let at : pointed disk (place_at_height disk f (suc m) j) ≡ disk b = ap (pointed disk) is in
      subst (λ bytes. IsIndirectBlock f.layout s.blocks (nodes_of_size f.layout f.size m - fan_out f.layout * j) bytes) at (sound.indirect m j b is)

  over_is : (depth m i : ℕ) → level_of f.layout f.size ≡ suc (suc depth + m) → IsStoredNode f.layout s.blocks disk (nodes_of_size f.layout f.size m - fan_out f.layout * (i / fan_out f.layout)) (place f.layout disk ps depth (i / fan_out f.layout))
  over_is depth m i level = node_is m (i / fan_out f.layout) (place f.layout disk ps depth (i / fan_out f.layout)) (node_place disk f ps depth (suc m) (i / fan_out f.layout) body (omega (arith, level)))

  pub path_is : (depth m i : ℕ) → level_of f.layout f.size ≡ suc (depth + m) → IsPath f.layout s.blocks disk ps depth (nodes_of_size f.layout f.size m) i
  unfolding IsPath nodes_of_size
  path_is zero m i level = points_below s.blocks ps i fits.2
  path_is (suc depth) m i level = (path_is depth (suc m) (i / fan_out f.layout) (omega (arith, level)), over_is depth m i level)

  -- under an indirect block in its grammar
  under : (m i : ℕ) (p : Pointer) → IsStoredNode f.layout s.blocks disk (nodes_of_size f.layout f.size m - fan_out f.layout * (i / fan_out f.layout)) p → nodes_of_size f.layout f.size m ≤ i → follow disk p (i % fan_out f.layout) ≡ Hole
  under m i Hole node past = refl
  under m i (Block b) node past = (node.within (i % fan_out f.layout) (pointer_low f.layout i)).1 (past_used f.layout (nodes_of_size f.layout f.size m) i past)

  past_depth : (depth m i : ℕ) → level_of f.layout f.size ≡ suc (depth + m) → nodes_of_size f.layout f.size m ≤ i → place f.layout disk ps depth i ≡ Hole
  unfolding place
  past_depth zero m i level past =
      let top : level_of f.layout f.size ≡ suc m = omega (arith, level) in
      hole_past ps (pointers_used f.layout f.size) i fits.3 (omega (arith, past, used_is f.layout f.size m top))
  past_depth (suc depth) m i level past = under m i (place f.layout disk ps depth (i / fan_out f.layout)) (over_is depth m i level) past

  past_node : (m i : ℕ) → nodes_of_size f.layout f.size m ≤ i → (held disk f).place m i ≡ Hole
  past_node m i past = elim (cases_lt m (level_of f.layout f.size)) [
    | inl low ↦
        let level : level_of f.layout f.size ≡ suc (level_of f.layout f.size - suc m + m) = omega (arith, low) in
        node_place disk f ps (level_of f.layout f.size - suc m) m i body level ∙ past_depth (level_of f.layout f.size - suc m) m i level past
    | inr high ↦ node_above disk f m i high
  ]

-- a file whose inode has the bytes has no level
inline_level : (layout : Layout) (size : ℕ) → size ≤ 128 → level_of layout size ≡ 0
inline_level layout size low = grind (arith, nat_tests, low)

past_of : {detail : Detail} (s : Sizes) (disk : ℕ → List ℕ) (f : Inode) (m i : ℕ) (body : Body) → f.body ≡ body → IsHeldFile detail s (held disk f) → nodes_of_size f.layout f.size m ≤ i → (held disk f).place m i ≡ Hole
unfolding held
past_of s disk f m i (Pointers ps) is sound past = past_node s disk f ps sound is m i past
past_of s disk f m i (Inline bytes) is sound past =
    let fits = subst (λ (b : Body). FitsBody f.layout b s.blocks f.size) is sound.inode.body in
    node_above disk f m i (omega (arith, inline_level f.layout f.size fits.0))

-- past the nodes at a height all are holes
pub node_past : {detail : Detail} (s : Sizes) (disk : ℕ → List ℕ) (f : Inode) (m i : ℕ) → IsHeldFile detail s (held disk f) → nodes_of_size f.layout f.size m ≤ i → (held disk f).place m i ≡ Hole
node_past s disk f m i sound past = past_of s disk f m i f.body refl sound past

-- a file whose inode has pointers has a level
pub some_level : (layout : Layout) (size : ℕ) → 128 < size → level_of layout size ≡ suc (depth_of layout size + 0)
some_level layout size large = grind (arith, nat_tests, large)

pub based_sound : {detail : Detail} (s : Sizes) (disk : ℕ → List ℕ) (f : Inode) (t : BlockTree) → IsHeldFile detail s (held disk f) → IsBased f t → AreSound s.blocks disk t
unfolding nodes_of_size
based_sound s disk f t sound (anew layout none) i lt = absurd (omega (arith, none, lt))
based_sound s disk f t sound (over ps body has) i lt =
    let large = fits s disk f ps sound body in
    subst (λ (l : Layout). IsPath l s.blocks disk t.pointers t.depth t.count i) (sym has.layout_is)
    (subst (λ (p : List Pointer). IsPath f.layout s.blocks disk p t.depth t.count i) (sym has.pointers_are)
    (subst (λ (d : ℕ). IsPath f.layout s.blocks disk ps d t.count i) (sym has.depth)
    (subst (λ (n : ℕ). IsPath f.layout s.blocks disk ps (depth_of f.layout f.size) n i) (sym has.count) (path_is s disk f ps sound body (depth_of f.layout f.size) 0 i (some_level f.layout f.size large.0)))))

-- a block that is a hole, or that can be read
pub stored_whole : (disk : ℕ → List ℕ) (f : Inode) (i : ℕ) (p : Pointer) → (held disk f).place 0 i ≡ p → IsReadable (held disk f) → IsWhole (pointed disk p)
unfolding held
stored_whole disk f i Hole is readable = length-zeros 4096
stored_whole disk f i (Block b) is readable = ap (λ (p : Pointer). length (pointed disk p)) (sym is) ∙ readable i b is

pub based_whole : {detail : Detail} (s : Sizes) (disk : ℕ → List ℕ) (f : Inode) (t : BlockTree) → IsHeldFile detail s (held disk f) → IsReadable (held disk f) → IsBased f t
    → (i : ℕ) → i < t.count → IsWhole (pointed disk (place t.layout disk t.pointers t.depth i))
based_whole s disk f t sound readable (anew layout none) i lt = absurd (omega (arith, none, lt))
based_whole s disk f t sound readable (over ps body has) i lt =
    let large = fits s disk f ps sound body in
    subst (λ (l : Layout). IsWhole (pointed disk (place l disk t.pointers t.depth i))) (sym has.layout_is)
    (subst (λ (p : List Pointer). IsWhole (pointed disk (place f.layout disk p t.depth i))) (sym has.pointers_are)
    (subst (λ (d : ℕ). IsWhole (pointed disk (place f.layout disk ps d i))) (sym has.depth)
    (stored_whole disk f i (place f.layout disk ps (depth_of f.layout f.size) i) (node_place disk f ps (depth_of f.layout f.size) 0 i body (some_level f.layout f.size large.0)) readable)))
