-- What is read block by block is what the tree has.
use Rattle.std.proofs.lemmas.List.{replicate-append-replicate, take-append-drop}
use Rattle.std.proofs.Common.{◌++◌, take, replicate, append_assoc, ◌≡◌, inl, inr, ℕ, zero, suc, ◌+◌, ◌-◌, ◌/◌, ◌%◌, ◌<◌, ◌≤◌, List, length, drop, get_or, refl, ap, sym, subst, ◌∙◌, arith}
use Rattle.std.specs.Prelude.{nat_lt, if◌then◌else◌, Some, All}
use Rattle.std.specs.Int.{div_ceil}
use Rattle.std.proofs.lemmas.Bool.{cases_lt, cases_eq, cond_below, cond_above}
use Rattle.std.proofs.lemmas.List.{get_or-drop, get_or_past}
use Rattle.layout.specs.Bytes.{zeros}
use Rattle.layout.specs.Inode.{IsInode, FitsBody, FitsPointers, pointers_used, inode_bytes}
use Rattle.layout.specs.Limits.{Sizes, AreSizes}
use Rattle.layout.specs.Maps.{indirect_pointer}
use Rattle.layout.specs.Places.{Blocks, place, pointed, follow}
use Rattle.layout.specs.SnapRoot.{IsSnapshot, Snapshot, snapshot_bytes, snapshot_in}
use Rattle.layout.specs.Trees.{fan_out, level_of}
use Rattle.layout.specs.declared.inode.Body.{Body}
use Rattle.layout.specs.declared.inode.Body.TheVariants.{Inline, Pointers}
use Rattle.layout.specs.declared.inode.Inode.{Inode}
use Rattle.layout.specs.declared.pointer.Pointer.{Pointer}
use Rattle.layout.specs.declared.pointer.Pointer.TheVariants.{Hole, Block}
use Rattle.layout.specs.declared.trees.Layout.{Layout}
use Rattle.layout.proofs.FanLaws.{node_is, pointer_low}
use Rattle.layout.proofs.InodeLaws.{inode_read}
use Rattle.layout.proofs.SnapshotLaws.{snapshot_read}
use Rattle.images.specs.Nodes.{held, body_block, file_block, place_at_height, pointers_of}
use Rattle.images.specs.Roots.{free_inode, or_free, inode_from, inode_bytes_at, inode_under, tree, frozen_inode_file, inode_file_or_free}
use Rattle.images.specs.Soundness.{Detail, IsHeldFile, nodes_of_size}
use Rattle.images.proofs.OverlayLaws.{held_up}
use Rattle.layout.proofs.SizeLaws.{level_some}
pub use Rattle.layout.proofs.SizeLaws.{level_one, level_two, used_is}

-- ---- inodes and snapshots

pub read_spelled : (s : Sizes) (d : Blocks) (top i : Inode) (n : ℕ) → AreSizes s → top.layout ≡ s.layout → 1 ≤ n → n < s.inodes → IsInode s i
    → inode_bytes_at (file_block (held d top)) n ≡ inode_bytes i → tree d s.inodes top n ≡ held d i
unfolding tree inode_under inode_from held
read_spelled s d top i zero are same some lt fits is = absurd (omega arith)
read_spelled s d top i (suc n) are same some lt fits is =
    ap (held d) (sym (cond_below (suc n) s.inodes (inode_from top.layout (inode_bytes_at (file_block (held d top)) (suc n))) (free_inode top.layout) lt)
    ∙ ap (inode_from top.layout) is ∙ ap (or_free top.layout) (inode_read top.layout i (record { sizes = s; are_sizes = are; fits = fits }) (fits.layout ∙ sym same)))

pub read_past : (d : Blocks) (inodes : ℕ) (top : Inode) (n : ℕ) → 1 ≤ n → inodes ≤ n → tree d inodes top n ≡ held d (free_inode top.layout)
unfolding tree inode_under held
read_past d inodes top zero some ge = absurd (omega arith)
read_past d inodes top (suc n) some ge = ap (held d) (sym (cond_above (suc n) inodes (inode_from top.layout (inode_bytes_at (file_block (held d top)) (suc n))) (free_inode top.layout) (free_inode top.layout) ge refl))

pub read_snapshot : (layout : Layout) (v : Snapshot) → IsSnapshot v → v.inode_file.layout ≡ layout
    → (snapshot_in layout (snapshot_bytes v) ≡ Some v) × (frozen_inode_file layout (snapshot_bytes v) ≡ v.inode_file)
unfolding frozen_inode_file
read_snapshot layout v is same = (snapshot_read layout v is same, ap (inode_file_or_free layout) (snapshot_read layout v is same))

-- ---- blocks

-- past the pointers that count there are holes
pub hole_past : (pointers : List Pointer) (used i : ℕ) → All (λ p. p ≡ Hole) (drop used pointers) → used ≤ i → get_or pointers i Hole ≡ Hole
hole_past pointers used i holes past =
    let at : used + (i - used) ≡ i = omega arith in
    ap (λ k. get_or pointers k Hole) (sym at) ∙ sym (get_or-drop used pointers (i - used) Hole) ∙ elim (cases_lt (i - used) (length (drop used pointers))) [
      | inl lt ↦ holes (i - used) Hole lt
      | inr ge ↦ get_or_past (drop used pointers) (i - used) Hole ge
    ]

-- the pointers of the inode, highest of all
pub highest : (d : Blocks) (f : Inode) (level i : ℕ) → level_of f.layout f.size ≡ suc level → (held d f).place level i ≡ get_or (pointers_of f.body) i Hole
unfolding held place
highest d f level i is =
    ap (λ k. if nat_lt level k then place f.layout d (pointers_of f.body) (k - suc level) i else Hole) is
    ∙ sym (cond_below level (suc level) (place f.layout d (pointers_of f.body) (suc level - suc level) i) Hole (omega arith))
    ∙ ap (λ k. place f.layout d (pointers_of f.body) k i) none
  where
    none : suc level - suc level ≡ 0
    none = omega arith

-- no node stands above the highest
pub none_above : (d : Blocks) (f : Inode) (m i : ℕ) → level_of f.layout f.size ≤ m → (held d f).place m i ≡ Hole
unfolding held
none_above d f m i ge = sym (cond_above m (level_of f.layout f.size) (place f.layout d (pointers_of f.body) (level_of f.layout f.size - suc m) i) Hole Hole ge refl)

module _ {detail : Detail} (s : Sizes) (d : Blocks) (f : Inode) (pointers : List Pointer) (sound : IsHeldFile detail s (held d f)) (body : f.body ≡ Pointers pointers) where
  pub fits : FitsPointers f.layout pointers s.blocks f.size
  unfolding held
  fits = subst (λ (b : Body). FitsBody f.layout b s.blocks f.size) body sound.inode.body

  top_is : (level i : ℕ) → level_of f.layout f.size ≡ suc level → (held d f).place level i ≡ get_or pointers i Hole
  top_is level i is = highest d f level i is ∙ ap (λ b. get_or (pointers_of b) i Hole) body

  -- under an indirect block in its grammar
  under : (m i : ℕ) (p : Pointer) → (held d f).place (suc m) (i / fan_out f.layout) ≡ p → nodes_of_size f.layout f.size m ≤ i → follow d p (i % fan_out f.layout) ≡ Hole
  unfolding held
  under m i Hole is past = refl
  under m i (Block b) is past =
      let block = sound.indirect m (i / fan_out f.layout) b is in
      let at_node = node_is f.layout i (i / fan_out f.layout) refl in
      let at : pointed d (place_at_height d f (suc m) (i / fan_out f.layout)) ≡ d b = ap (pointed d) is in
      subst (λ bytes. indirect_pointer bytes (i % fan_out f.layout) ≡ Hole) at ((block.within (i % fan_out f.layout) (pointer_low f.layout i)).1 (omega (arith, at_node, past)))

  -- past the nodes at a height all are holes
  pub node_behind : (m i : ℕ) → nodes_of_size f.layout f.size m ≤ i → (held d f).place m i ≡ Hole
  node_behind m i past = elim (cases_lt (suc m) (level_of f.layout f.size)) [
    | inl below ↦ held_up d f m i below ∙ under m i ((held d f).place (suc m) (i / fan_out f.layout)) refl past
    | inr ge ↦ elim (cases_eq (suc m) (level_of f.layout f.size)) [
      | inl top ↦ top_is m i (sym top) ∙ hole_past pointers (pointers_used f.layout f.size) i fits.3 (subst (λ n. n ≤ i) (sym (used_is f.layout f.size m (sym top))) past)
      | inr other ↦ none_above d f m i (omega (arith, ge, other))
    ]
  ]

  pub hole_behind : (i : ℕ) → div_ceil f.size 4096 ≤ i → (held d f).place 0 i ≡ Hole
  unfolding nodes_of_size
  hole_behind i past = node_behind 0 i past

  before : (i : ℕ) → (held d f).place 0 i ≡ place f.layout d pointers (level_of f.layout f.size - 1) i
  unfolding held
  before i =
      let some = level_some f.layout f.size fits.0 in
      sym (cond_below 0 (level_of f.layout f.size) (place f.layout d (pointers_of f.body) (level_of f.layout f.size - suc 0) i) Hole some)
      ∙ ap (λ b. place f.layout d (pointers_of b) (level_of f.layout f.size - 1) i) body

  pub blocks_are : (i : ℕ) → file_block (held d f) i ≡ (if nat_lt i (div_ceil f.size 4096) then pointed d (place f.layout d pointers (level_of f.layout f.size - 1) i) else zeros 4096)
  unfolding held
  blocks_are i =
      ap (λ b. body_block b (pointed d (place_at_height d f 0 i)) i) body
      ∙ elim (cases_lt i (div_ceil f.size 4096)) [
        | inl lt ↦ ap (pointed d) (before i) ∙ cond_below i (div_ceil f.size 4096) (pointed d (place f.layout d pointers (level_of f.layout f.size - 1) i)) (zeros 4096) lt
        | inr ge ↦ ap (pointed d) (hole_behind i ge) ∙ cond_above i (div_ceil f.size 4096) (pointed d (place f.layout d pointers (level_of f.layout f.size - 1) i)) (zeros 4096) (zeros 4096) ge refl
      ]

-- ---- inline bytes

zeros-append : (m n k : ℕ) → m + n ≡ k → zeros m ++ zeros n ≡ zeros k
unfolding zeros
zeros-append m n k is = replicate-append-replicate m n 0 ∙ ap (λ x. replicate x 0) is

pub inline_first : (s : Sizes) (d : Blocks) (f : Inode) (bytes : List ℕ) → IsInode s f → f.body ≡ Inline bytes
    → file_block (held d f) 0 ≡ take f.size bytes ++ zeros (4096 - f.size)
unfolding held
inline_first s d f bytes is body =
    let fits = subst (λ (b : Body). FitsBody f.layout b s.blocks f.size) body is.body in
    ap (λ b. body_block b (pointed d (place_at_height d f 0 0)) 0) body
    ∙ ap (λ xs. xs ++ zeros 3968) (sym (take-append-drop f.size bytes) ∙ ap (λ xs. take f.size bytes ++ xs) fits.2)
    ∙ append_assoc (take f.size bytes) (zeros (128 - f.size)) (zeros 3968)
    ∙ ap (λ xs. take f.size bytes ++ xs) (zeros-append (128 - f.size) 3968 (4096 - f.size) (omega (arith, fits.0)))

pub inline_others : (d : Blocks) (f : Inode) (bytes : List ℕ) (i : ℕ) → f.body ≡ Inline bytes → 1 ≤ i → file_block (held d f) i ≡ zeros 4096
unfolding held
inline_others d f bytes zero body some = absurd (omega arith)
inline_others d f bytes (suc i) body some = ap (λ b. body_block b (pointed d (place_at_height d f 0 (suc i))) (suc i)) body
