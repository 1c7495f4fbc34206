-- A changed file stands in its new inode, at each level.
use Rattle.std.proofs.Common.{◌≡◌, inl, inr, ℕ, zero, suc, ◌+◌, ◌-◌, ◌*◌, ◌/◌, ◌%◌, ◌<◌, ◌≤◌, List, length, refl, ap, sym, subst, ◌∙◌, arith}
use Rattle.std.specs.Prelude.{min, nat_lt, ◌==◌, if◌then◌else◌}
use Rattle.std.proofs.lemmas.Bool.{cases_lt, cases_eq, cond_below, cond_above}
use Rattle.std.proofs.lemmas.Bool.Decides.{nat_tests}
use Rattle.std.proofs.lemmas.List.Elements.{All-from_get_or}
use Rattle.layout.specs.Bytes.{zeros}
use Rattle.layout.specs.Inode.{FitsPointers, pointers_used}
use Rattle.layout.specs.Limits.{Sizes}
use Rattle.layout.specs.Maps.{indirect_pointer, IsIndirectBlock}
use Rattle.layout.specs.Places.{Blocks, pointed, follow, place}
use Rattle.layout.specs.Pointer.{PointsBelow}
use Rattle.layout.specs.Trees.{fan_out, level_of}
use Rattle.layout.specs.declared.trees.Layout.{Layout}
use Rattle.layout.specs.declared.inode.Body.TheVariants.{Pointers}
use Rattle.layout.specs.declared.inode.Inode.{Inode}
use Rattle.layout.specs.declared.pointer.Pointer.{Pointer}
use Rattle.layout.specs.declared.pointer.Pointer.TheVariants.{Hole, Block}
use Rattle.images.specs.Nodes.{held, Names, Agrees}
use Rattle.images.specs.Soundness.{nodes_of_size, IsSoundFile}
use Rattle.blocktree.specs.Places.{block_count}
use Rattle.blocktree.specs.Trees.{settled_block}
use Rattle.inode.specs.declared.object.Object.{Object}
use Rattle.inode.proofs.HeldLaws.{node_above, node_place, used_is}
use Rattle.blocktree.specs.PlaceMaps.{place_at}
use Rattle.blocktree.specs.declared.place_map.PlaceMap.{PlaceMap}
use Rattle.conspoint.specs.Blocks.{changed_or}
use Rattle.conspoint.specs.Drafts.{HasAll}
use Rattle.conspoint.specs.declared.draft.Draft.{Draft}
use Rattle.conspoint.specs.Groups.{pointer_at, IsGroup}
use Rattle.placement.specs.declared.nodes.Nodes.{Nodes}
use Rattle.placement.specs.Files.{file_level, object_block, with_first}
use Rattle.placement.specs.Layouts.{AreLowest, inode_with, StandOver, AreSettledNodes, IsLaidOut, LeadToBlocks}
use Rattle.placement.specs.Nodes.{height_of, in_group, node, under}
use Rattle.placement.proofs.FanLemmas.{behind_group, behind_used, fan_most, is_in_group, under_high, under_low}
use Rattle.images.proofs.EmptyLaws.{node_bytes}
use Rattle.placement.proofs.HeldLaws.{used_holes, not_inline}
use Rattle.placement.proofs.PlacedLaws.{node_height, node_over}
use Rattle.layout.proofs.FanLaws.{node_is, pointer_back, pointer_within, up_back}
use Rattle.layout.proofs.PointerLaws.{block_same, follow_same, hole_block, pointed_same}
use Rattle.images.proofs.OverlayLaws.{held_up}

-- an inode's pointers fit, where so many are used and the others are holes
pub pointers_fit : (l : Layout) (blocks size top : ℕ) (body : List Pointer) (n : ℕ → Pointer) → level_of l size ≡ suc top → length body ≡ 16 → ((i : ℕ) → pointer_at body i ≡ n i) → ((i : ℕ) → PointsBelow blocks (n i))
    → ((i : ℕ) → nodes_of_size l size top ≤ i → n i ≡ Hole) → FitsPointers l body blocks size
pointers_fit l blocks size top body n level count same within end = (
  not_inline l size top level,
  count,
  All-from_get_or (PointsBelow blocks) body Hole (λ i lt. subst (PointsBelow blocks) (sym (same i)) (within i)),
  used_holes body (pointers_used l size) (λ i le. same i ∙ end i (omega (arith, le, used_is l size top level))),
)

module _ (d e : Blocks) (base : Inode) (o : Object) (settled : Nodes) (known : AreSettledNodes d base o.file.tree settled)
    (same : Agrees (Names (held d base)) d e) where
  -- what stood in a settled node stands there still
  agreed : (m i b : ℕ) → node settled m i ≡ Block b → e b ≡ d b
  agreed m i b is = same b (record { height = m; index = i; is = known.nodes.places m i ∙ is })

  -- below the changes stands what the settled inode has
  below_is : (i : ℕ) → pointed e (if nat_lt i o.file.tree.kept then node settled 0 i else Hole) ≡ settled_block o.file.tree.layout d o.file.tree.pointers o.file.tree.depth o.file.tree.kept i
  unfolding settled_block
  below_is i =
      let kept = o.file.tree.kept in
      let p = node settled 0 i in
      elim (cases_lt i kept) [
        | inl lt ↦
            let count : i < o.file.tree.count = omega (arith, lt, o.file.tree.fits.1) in
            ap (pointed e) (sym (cond_below i kept p Hole lt))
            ∙ pointed_same d e p (agreed 0 i)
            ∙ ap (pointed d) (known.blocks i count)
            ∙ cond_below i kept (pointed d (place o.file.tree.layout d o.file.tree.pointers o.file.tree.depth i)) (zeros 4096) lt
        | inr ge ↦
            ap (pointed e) (sym (cond_above i kept p Hole Hole ge refl))
            ∙ cond_above i kept (pointed d (place o.file.tree.layout d o.file.tree.pointers o.file.tree.depth i)) (zeros 4096) (zeros 4096) ge refl
      ]

  -- from one on each block is as memory has it
  pub blocks_are : {first : ℕ} {a b : Draft} {places : PlaceMap} → AreLowest first (block_count o.file.size) o.file.tree settled a b places → HasAll e b.blocks.items
      → (i : ℕ) → first ≤ i → pointed e (place_at places i) ≡ object_block d o i
  blocks_are lowest has i from = elim (cases_lt i (block_count o.file.size)) [
    | inl lt ↦ lowest.blocks e has i lt from ∙ ap (changed_or o.file.tree i) (below_is i) ∙ cond_below i (block_count o.file.size) _ (zeros 4096) lt
    | inr ge ↦ ap (pointed e) (lowest.end i ge) ∙ cond_above i (block_count o.file.size) _ (zeros 4096) (zeros 4096) ge refl
  ]

-- but for the first, blocks stand as they were
pub other_first : (k : ℕ) (x y : List ℕ) → (k ≡ 0 → ⊥) → y ≡ (if k == 0 then x else y)
other_first k x y some = grind (arith, nat_tests)

-- with other bytes as the first block
pub first_is : (e : Blocks) (nodes : ℕ → Pointer) (first : ℕ) (block : ℕ → List ℕ) → nodes 0 ≡ Block first → ((i : ℕ) → 1 ≤ i → pointed e (nodes i) ≡ block i)
    → LeadToBlocks e nodes (with_first (e first) block)
first_is e nodes first block here others i = elim (cases_eq i 0) [
  | inl none ↦
      ap (λ k. pointed e (nodes k)) none ∙ ap (pointed e) here ∙ ap (λ k. with_first (e first) block k) (sym none)
  | inr some ↦ others i (omega arith) ∙ other_first i (e first) (block i) some
]

-- ---- over settled nodes
module _ (s : Sizes) (d e : Blocks) (base : Inode) (o : Object) (settled : Nodes) (sound : IsSoundFile s (held d base)) (known : AreSettledNodes d base o.file.tree settled)
    (same : Agrees (Names (held d base)) d e) where
  -- where the settled inode has the bytes itself there is no node
  none_settled : (m i : ℕ) → level_of base.layout base.size ≡ 0 → node settled m i ≡ Hole
  none_settled m i level = sym (known.nodes.places m i) ∙ node_above d base m i (omega (arith, level))

  -- a settled node, as the settled inode's layout counts
  low_is : (m j r : ℕ) → r < fan_out base.layout → in_group settled m j r ≡ node settled m (fan_out base.layout * j + r)
  low_is m j r lt =
      is_in_group settled m j r (subst (λ (l : Layout). r < fan_out l) (sym known.layout) lt)
      ∙ ap (λ (l : Layout). node settled m (fan_out l * j + r)) known.layout

  -- behind the pointers of a settled indirect block are holes
  behind_is : (m j r : ℕ) (p : Pointer) → node settled (suc m) j ≡ p → r < 1024 → fan_out base.layout ≤ r → follow e p r ≡ Hole
  unfolding held
  behind_is m j r Hole is lt ge = refl
  behind_is m j r (Block b) is lt ge =
      let there = known.nodes.places (suc m) j ∙ is in
      let bytes = node_bytes d base (suc m) j b there ∙ sym (agreed d e base o settled known same (suc m) j b is) in
      ap (λ xs. indirect_pointer xs r) (sym bytes) ∙ ((sound.indirect m j b there).within r lt).1 (omega (arith, ge))

  -- under a settled indirect block stands what the settled inode has there
  under_is : (m j r : ℕ) → r < 1024 → follow e (node settled (suc m) j) r ≡ under settled m j r
  under_is m j r small = elim (cases_lt (suc m) (height_of settled)) [
    | inr ge ↦ ap (λ p. follow e p r) (node_over settled (suc m) j ge) ∙ sym (under_high settled m j r ge)
    | inl low ↦ elim (cases_lt r (fan_out base.layout)) [
      | inr behind ↦
          behind_is m j r (node settled (suc m) j) refl small behind
          ∙ sym (behind_group settled m j r (subst (λ (l : Layout). fan_out l ≤ r) (sym known.layout) behind)) ∙ sym (under_low settled m j r low)
      | inl lt ↦ elim known.heights [
        | inl level ↦
            let deep : suc m < level_of base.layout base.size = omega (arith, level, low) in
            follow_same d e (node settled (suc m) j) r (agreed d e base o settled known same (suc m) j)
            ∙ ap (λ p. follow d p r) (sym (known.nodes.places (suc m) j))
            ∙ ap (λ k. follow d ((held d base).place (suc m) k) r) (sym (up_back base.layout j r lt))
            ∙ ap (λ k. follow d ((held d base).place (suc m) ((fan_out base.layout * j + r) / fan_out base.layout)) k) (sym (pointer_back base.layout j r lt))
            ∙ sym (held_up d base m (fan_out base.layout * j + r) deep)
            ∙ known.nodes.places m (fan_out base.layout * j + r)
            ∙ sym (low_is m j r lt)
            ∙ sym (under_low settled m j r low)
        | inr level ↦
            ap (λ p. follow e p r) (none_settled (suc m) j level) ∙ sym (none_settled m (fan_out base.layout * j + r) level) ∙ sym (low_is m j r lt)
            ∙ sym (under_low settled m j r low)
      ]
    ]
  ]

  -- a group reads as its nodes
  group_reads : (m : ℕ) (over : Pointer) (nodes : ℕ → Pointer) (j r : ℕ) → r < 1024 → IsGroup e (node settled (suc m) j) (under settled m j) nodes over → follow e over r ≡ nodes r
  group_reads m over nodes j r lt (IsGroup.keeps is kept) = ap (λ p. follow e p r) is ∙ under_is m j r lt ∙ sym (kept r lt)
  group_reads m over nodes j r lt (IsGroup.spells block is size spelled some) = ap (λ p. follow e p r) is ∙ spelled r lt
  group_reads m over nodes j r lt (IsGroup.none is holes) = ap (λ p. follow e p r) is ∙ sym (holes r lt)

  -- a settled indirect block is one still
  settled_node : (m j b : ℕ) → node settled (suc m) j ≡ Block b → (length (e b) ≡ 4096) × ((i : ℕ) × (i < 1024) × (indirect_pointer (e b) i ≡ Hole → ⊥))
  settled_node m j b is =
      let there = known.nodes.places (suc m) j ∙ is in
      let was = sound.indirect m j b there in
      let bytes = node_bytes d base (suc m) j b there ∙ sym (agreed d e base o settled known same (suc m) j b is) in
      (ap (λ (xs : List ℕ). length xs) (sym bytes) ∙ was.size, (was.some.0, was.some.1, λ none. was.some.2 (ap (λ xs. indirect_pointer xs was.some.0) bytes ∙ none)))

  stored : (m : ℕ) (over : Pointer) (nodes : ℕ → Pointer) (j b : ℕ) → over ≡ Block b → IsGroup e (node settled (suc m) j) (under settled m j) nodes over
      → (length (e b) ≡ 4096) × ((i : ℕ) × (i < 1024) × (indirect_pointer (e b) i ≡ Hole → ⊥))
  stored m over nodes j b at (IsGroup.keeps is kept) = settled_node m j b (sym is ∙ at)
  stored m over nodes j b at (IsGroup.spells block is size spelled some) =
      let same : block ≡ b = block_same block b (sym is ∙ at) in
      (ap (λ k. length (e k)) (sym same) ∙ size, (some.0, some.1, λ none. some.2 (sym (spelled some.0 some.1) ∙ ap (λ k. indirect_pointer (e k) some.0) same ∙ none)))
  stored m over nodes j b at (IsGroup.none is holes) = hole_block (sym is ∙ at)

  -- an indirect block over new nodes is in its grammar
  node_sound : (l : Layout) (m : ℕ) (over : Pointer) (nodes : ℕ → Pointer) (j b used : ℕ) → over ≡ Block b → ((r : ℕ) → PointsBelow s.blocks (nodes r)) → ((r : ℕ) → min used (fan_out l) ≤ r → nodes r ≡ Hole)
      → IsGroup e (node settled (suc m) j) (under settled m j) nodes over → IsIndirectBlock l s.blocks used (e b)
  node_sound l m over nodes j b used at within end is = record {
    size = (stored m over nodes j b at is).0;
    within = λ r lt.
        let reads = ap (λ p. follow e p r) (sym at) ∙ group_reads m over nodes j r lt is in
        (subst (PointsBelow s.blocks) (sym reads) (within r), λ past. reads ∙ end r past);
    some = (stored m over nodes j b at is).1;
  }

  module _ (block : ℕ → List ℕ) (body : List Pointer) (n : Nodes) (top : ℕ) (layout : n.layout ≡ o.file.tree.layout) (level : file_level o.file ≡ suc top) (heights : height_of n ≡ suc top)
      (within : (m i : ℕ) → PointsBelow s.blocks (node n m i)) (end : (m i : ℕ) → nodes_of_size o.file.tree.layout o.file.size m ≤ i → node n m i ≡ Hole)
      (size : length body ≡ 16) (own : (i : ℕ) → pointer_at body i ≡ node n top i) (groups : StandOver e settled n) (leads : LeadToBlocks e (node n 0) block) where
    abbrev l : Layout
    l = o.file.tree.layout

    -- a node of a group, as the file's layout counts
    node_in : (m j r : ℕ) → r < fan_out l → in_group n m j r ≡ node n m (fan_out l * j + r)
    node_in m j r lt = is_in_group n m j r (subst (λ (k : Layout). r < fan_out k) (sym layout) lt) ∙ ap (λ (k : Layout). node n m (fan_out k * j + r)) layout

    -- from the inode down, depth by depth
    place_down : (k i : ℕ) → k ≤ top → place l e body k i ≡ node n (top - k) i
    unfolding place
    place_down zero i le = let all : top ≡ top - 0 = omega arith in own i ∙ ap (λ (m : ℕ). node n m i) all
    place_down (suc k) i le =
        let over : top - k ≡ suc (top - suc k) = omega (arith, le) in
        let rest = pointer_within l i in
        let small : i % fan_out l < 1024 = fan_most l (i % fan_out l) rest in
        let at : fan_out l * (i / fan_out l) + i % fan_out l ≡ i = sym (node_is l i (i / fan_out l) refl) in
        ap (λ p. follow e p (i % fan_out l)) (place_down k (i / fan_out l) (omega (arith, le)) ∙ ap (λ (h : ℕ). node n h (i / fan_out l)) over)
        ∙ group_reads (top - suc k) (node n (suc (top - suc k)) (i / fan_out l)) (in_group n (top - suc k) (i / fan_out l)) (i / fan_out l) (i % fan_out l) small
        (groups (top - suc k) (i / fan_out l) (omega (arith, heights, le)))
        ∙ node_in (top - suc k) (i / fan_out l) (i % fan_out l) rest
        ∙ ap (λ (x : ℕ). node n (top - suc k) x) at

    laid_place : (m i : ℕ) → (held e (inode_with o (Pointers body))).place m i ≡ node n m i
    laid_place m i = elim (cases_lt top m) [
      | inl high ↦ node_above e (inode_with o (Pointers body)) m i (omega (arith, level, high)) ∙ sym (node_over n m i (omega (arith, heights, high)))
      | inr low ↦
          let back : top - (top - m) ≡ m = omega (arith, low) in
          node_place e (inode_with o (Pointers body)) body (top - m) m i refl (omega (arith, level, low)) ∙ place_down (top - m) i (omega arith) ∙ ap (λ (k : ℕ). node n k i) back
    ]

    -- the nodes of a group stay on the disk, and end where the file does
    group_within : (m j r : ℕ) → PointsBelow s.blocks (in_group n m j r)
    group_within m j r = elim (cases_lt r (fan_out l)) [
      | inl lt ↦ subst (PointsBelow s.blocks) (sym (node_in m j r lt)) (within m (fan_out l * j + r))
      | inr ge ↦ subst (PointsBelow s.blocks) (sym (behind_group n m j r (subst (λ (k : Layout). fan_out k ≤ r) (sym layout) ge))) tt
    ]

    group_end : (m j r : ℕ) → min (nodes_of_size l o.file.size m - fan_out l * j) (fan_out l) ≤ r → in_group n m j r ≡ Hole
    group_end m j r past = elim (cases_lt r (fan_out l)) [
      | inl lt ↦ node_in m j r lt ∙ end m (fan_out l * j + r) (behind_used l (nodes_of_size l o.file.size m) j r past lt)
      | inr ge ↦ behind_group n m j r (subst (λ (k : Layout). fan_out k ≤ r) (sym layout) ge)
    ]

    over_sound : (m i b : ℕ) → (held e (inode_with o (Pointers body))).place (suc m) i ≡ Block b
        → IsIndirectBlock l s.blocks (nodes_of_size l o.file.size m - fan_out l * i) ((held e (inode_with o (Pointers body))).bytes (suc m) i)
    over_sound m i b is =
        let at = sym (laid_place (suc m) i) ∙ is in
        subst (λ bytes. IsIndirectBlock l s.blocks (nodes_of_size l o.file.size m - fan_out l * i) bytes) (sym (node_bytes e (inode_with o (Pointers body)) (suc m) i b is))
        (node_sound l m (node n (suc m) i) (in_group n m i) i b (nodes_of_size l o.file.size m - fan_out l * i) at (group_within m i) (group_end m i)
        (groups m i (node_height n (suc m) i b at)))

    pub laid_stands : IsLaidOut s e block (inode_with o (Pointers body)) n
    unfolding held
    laid_stands = record {
      nodes = record { places = laid_place };
      blocks = λ i. ap (pointed e) (laid_place 0 i) ∙ leads i;
      body = pointers_fit l s.blocks o.file.size top body (node n top) level size own (within top) (end top);
      indirect = over_sound;
    }
