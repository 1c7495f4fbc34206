-- How many blocks of the inode file are stored.
use Rattle.layout.specs.Limits.{Sizes}
use Rattle.layout.specs.declared.trees.Layout.{Layout}
use Rattle.std.proofs.Common.{◌≡◌, ℕ, zero, suc, ◌+◌, ◌*◌, ◌%◌, ◌≤◌, Option, Some, None, true, false, ◌⊎◌, inl, inr, refl, ap, sym, subst, ◌∙◌, arith}
use Rattle.std.specs.Prelude.{min, nat_lt, ◌==◌, if◌then◌else◌}
use Rattle.std.specs.Ordering.{nat_cmp}
use Rattle.std.specs.BTreeMap as tree
use Rattle.std.proofs.lemmas.Bool.{cases_eq}
use Rattle.std.proofs.lemmas.Bool.Decides.{nat_tests}
use Rattle.layout.specs.Inode.{FitsBody, IsInode}
use Rattle.layout.specs.Root.{IsRoot}
use Rattle.layout.specs.Trees.{level_of}
use Rattle.layout.specs.declared.inode.Body.{Body}
use Rattle.layout.specs.declared.inode.Inode.{Inode}
use Rattle.layout.specs.declared.root.Root.{Root}
use Rattle.layout.specs.declared.inode.Body.TheVariants.{Inline, Pointers}
use Rattle.images.specs.Sums.{sum_below}
use Rattle.images.proofs.SumLaws.{is_in_sum, one_more, sum_of_none, sums_each}
use Rattle.blocktree.specs.Names.{nodes_at}
use Rattle.blocktree.specs.Places.{block_count, depth_of}
use Rattle.blocktree.specs.Trees.{IsChanged, SameSettled}
use Rattle.blocktree.specs.declared.tree.BlockTree.{BlockTree}
use Rattle.blocktree.proofs.SlotLaws.{slot_is}
use Rattle.conspoint.specs.Space.{block_stores, changed_blocks}
use Rattle.conspoint.proofs.SumLemmas.{block_counts}
use Rattle.inode.specs.Bases.{StartsFrom, StartsUnchanged}
use Rattle.inode.specs.declared.file.File.{File}
use Rattle.inode.proofs.RoomLaws.{none_more}
use Rattle.inofile.specs.Inodes as numbers
use Rattle.inofile.specs.Inodes.{is_changed_slot}
use Rattle.inofile.specs.declared.inode_file.InodeFile.{InodeFile}
use Rattle.inofile.specs.declared.inode_file.ObjectSlot.TheVariants as inode_slots
use Rattle.inofile.specs.declared.inode_file.ObjectSlot as inode_slot
use Rattle.placement.specs.Space.{first_stores, height_stores, level_stores, more_over}
use Rattle.planning.specs.Inodes.{ChangesOnly, HasChange}
use Rattle.planning.specs.Space.{number_changes, top_block, top_nodes}
use Rattle.planning.proofs.StartLaws.{top_size}

-- ---- which blocks are changed

-- nothing is changed
pub changes_none : (IsOne : ℕ → Type 0) (t : BlockTree) → ChangesOnly IsOne t t
changes_none IsOne t = record { kept = refl; only = λ i is. inr is }

-- one change after the other
pub changes_twice : (IsOne IsOther : ℕ → Type 0) (a b c : BlockTree) → ((i : ℕ) → IsOther i → IsOne i) → ChangesOnly IsOne a b → ChangesOnly IsOther b c → ChangesOnly IsOne a c
changes_twice IsOne IsOther a b c are first second = record {
  kept = second.kept ∙ first.kept;
  only = λ i is. elim (second.only i is) [
    | inl here ↦ inl (are i here)
    | inr before ↦ first.only i before
  ];
}

-- ---- how many they are

changed_counts : (slot : Option inode_slot.ObjectSlot) → numbers.IsChangedSlot slot → ◌≡◌ {A = ℕ} (if is_changed_slot slot then 1 else 0) 1
changed_counts None is = absurd is
changed_counts (Some inode_slots.AsSettled) is = absurd is
changed_counts (Some (inode_slots.Loaded object)) is = absurd is
changed_counts (Some (inode_slots.Changed object)) is = refl

at_first : (s : InodeFile) (i : ℕ) → i ≡ 0 → top_block s i ≡ 1
at_first s i is = let yes : (i == 0) ≡ true = grind (arith, nat_tests, is) in rw yes refl

-- a block that has a changed number counts
has_change : (s : InodeFile) (i : ℕ) → HasChange s i → top_block s i ≡ 1
has_change s i has = elim (cases_eq i 0) [
  | inl first ↦ at_first s i first
  | inr later ↦
      let no : (i == 0) ≡ false = grind (arith, nat_tests, later) in
      let f : ℕ → ℕ = λ k. number_changes s (21 * i + k) in
      let at : 21 * i + has.0 % 21 ≡ has.0 = omega (arith, has.1) in
      let one : f (has.0 % 21) ≡ 1 = ap (number_changes s) at ∙ changed_counts (tree.get nat_cmp s.slots has.0) has.2 in
      let counted = is_in_sum f (has.0 % 21) 21 (omega arith) in
      let all : min 1 (sum_below f 21) ≡ 1 = omega (arith, counted, one) in
      rw no all
]

-- what is counted of a block is one where it is changed, and else none
pub stored_most : (t : BlockTree) (first i m : ℕ) → first ≤ i → (IsChanged t i → 1 ≤ m) → block_stores t first i ≤ m
stored_most t first i m le counts =
    let no : nat_lt i first ≡ false = grind (arith, nat_tests, le) in
    elim (slot_is (tree.get nat_cmp t.slots i)) [
      | inl none ↦ (let is : block_stores t first i ≡ 0 = rw no none in omega (arith, is))
      | inr changed ↦ omega (arith, block_counts t first i le changed, counts changed)
    ]

not_first : (t : BlockTree) (i : ℕ) → i ≡ 0 → block_stores t 1 i ≡ 0
not_first t i is = let yes : nat_lt i 1 ≡ true = grind (arith, nat_tests, is) in rw yes refl

later_one : (s : InodeFile) (t : BlockTree) (i : ℕ) → (i ≡ 0 → ⊥) → (IsChanged t i → (i ≡ 0) ⊎ HasChange s i) → block_stores t 1 i ≤ top_block s i
later_one s t i later only = stored_most t 1 i (top_block s i) (omega (arith, later)) (λ changed. elim (only changed) [
  | inl first ↦ absurd (later first)
  | inr has ↦ omega (arith, has_change s i has)
])

-- the changed blocks after the first are counted, and the first
top_counts : (s : InodeFile) (t : BlockTree) (n : ℕ) → ((i : ℕ) → IsChanged t i → (i ≡ 0) ⊎ HasChange s i) → changed_blocks t 1 n + min 1 n ≤ sum_below (top_block s) n
top_counts s t zero only = omega (arith, sum_of_none (block_stores t 1))
top_counts s t (suc n) only =
    let next : suc n ≡ n + 1 = omega arith in
    subst (λ (m : ℕ). changed_blocks t 1 m + min 1 m ≤ sum_below (top_block s) m) (sym next) (
    let before = top_counts s t n only in
    let these = one_more (block_stores t 1) n in
    let those = one_more (top_block s) n in
    elim (cases_eq n 0) [
      | inl first ↦ omega (arith, before, these, those, not_first t n first, at_first s n first, first)
      | inr later ↦ omega (arith, before, these, those, later_one s t n later (only n), later)
    ]
    )

-- ---- the inode file of a plan

height_rises : (layout : Layout) (blocks a b more tops h : ℕ) → a ≤ b → height_stores layout blocks a more tops h ≤ height_stores layout blocks b more tops h
unfolding height_stores
height_rises layout blocks a b more tops zero le = le
height_rises layout blocks a b more tops (suc zero) le = omega (arith, le)
height_rises layout blocks a b more tops (suc (suc zero)) le = omega arith
height_rises layout blocks a b more tops (suc (suc (suc h))) le = omega arith

level_rises : (layout : Layout) (level blocks a b more tops : ℕ) → a ≤ b → level_stores layout level blocks a more tops ≤ level_stores layout level blocks b more tops
level_rises layout level blocks a b more tops le = sums_each (height_stores layout blocks a more tops) (height_stores layout blocks b more tops) level (λ h. height_rises layout blocks a b more tops h le)

-- all of a settled file of this size counts
pub record IsWhole (layout : Layout) (size : ℕ) (t : BlockTree) : Type 0 where
  of : t.layout ≡ layout
  kept : t.kept ≡ t.count
  count : t.count ≡ block_count size
  depth : t.depth ≡ depth_of layout size

-- of such a file at most these blocks are stored
pub top_within : (s : InodeFile) (size : ℕ) (f : File) → f.size ≡ size → 4096 ≤ size → IsWhole s.geometry.layout f.size f.tree → ((i : ℕ) → IsChanged f.tree i → (i ≡ 0) ⊎ HasChange s i) → first_stores f ≤ top_nodes s size
top_within s size f is large whole only =
    let some : 1 ≤ block_count f.size = omega (arith, is, large) in
    let counts = top_counts s f.tree (block_count f.size) only in
    let l = s.geometry.layout in
    let level = level_rises l (level_of l f.size) (block_count f.size) (changed_blocks f.tree 1 (block_count f.size) + 1) (sum_below (top_block s) (block_count f.size)) 0 (nodes_at l (block_count f.size) 2) (omega (arith, counts, some)) in
    subst (λ (n : ℕ). first_stores f ≤ top_nodes s n) is
    (subst (λ (x : Layout). level_stores x (level_of x f.size) (block_count f.size) (changed_blocks f.tree 1 (block_count f.size) + 1) (more_over f) (nodes_at x (block_count f.size) 2) ≤ top_nodes s f.size) (sym whole.of)
    (subst (λ (m : ℕ). level_stores l (level_of l f.size) (block_count f.size) (changed_blocks f.tree 1 (block_count f.size) + 1) m (nodes_at l (block_count f.size) 2) ≤ top_nodes s f.size)
    (sym (none_more f whole.kept whole.count (whole.depth ∙ ap (λ (x : Layout). depth_of x f.size) (sym whole.of)))) level))

-- what is loaded of a large inode
record IsLoaded (layout : Layout) (size : ℕ) (t : BlockTree) : Type 0 where
  whole : IsWhole layout size t
  unchanged : (i : ℕ) → IsChanged t i → ⊥

is_loaded : (layout : Layout) (b : Body) (blocks size : ℕ) (t : BlockTree) → FitsBody layout b blocks size → 4096 ≤ size → StartsFrom layout b size t → StartsUnchanged b t → IsLoaded layout size t
is_loaded layout (Inline bytes) blocks size t fits large starts unchanged = absurd (omega (arith, fits.0, large))
is_loaded layout (Pointers pointers) blocks size t fits large starts unchanged =
    record { whole = record { of = starts.0.layout_is; kept = starts.1; count = starts.0.count; depth = starts.0.depth }; unchanged = unchanged }

-- the inode file, loaded and changed
pub top_few : (s : InodeFile) (r : Root) (f : Inode) (first last : File) → IsRoot r → s.geometry ≡ r.geometry → f.size ≡ r.inode_file.size → IsInode r.geometry f → StartsFrom f.layout f.body f.size first.tree → StartsUnchanged f.body first.tree
    → first.size ≡ f.size → last.size ≡ first.size → SameSettled first.tree last.tree → ChangesOnly (λ i. (i ≡ 0) ⊎ HasChange s i) first.tree last.tree → first_stores last ≤ top_nodes s r.inode_file.size
top_few s r f first last root sizes long fits starts unchanged loaded same settled changes =
    let size : last.size ≡ r.inode_file.size = same ∙ loaded ∙ long in
    let large : 4096 ≤ r.inode_file.size = omega (arith, top_size r.geometry r root refl, root.head.sizes.least_inodes) in
    let layout : f.layout ≡ s.geometry.layout = fits.layout ∙ ap (λ (z : Sizes). z.layout) (sym sizes) in
    let is = is_loaded f.layout f.body r.geometry.blocks f.size first.tree fits.body (omega (arith, large, long)) starts unchanged in
    top_within s r.inode_file.size last size large (record {
      kept = changes.kept ∙ is.whole.kept ∙ sym settled.count;
      count = settled.count ∙ is.whole.count ∙ ap block_count (sym (same ∙ loaded));
      of = settled.layout ∙ is.whole.of ∙ layout;
      depth = settled.depth ∙ is.whole.depth ∙ (λ j. depth_of (layout j) (sym (same ∙ loaded) j));
    }) (λ i changed. elim (changes.only i changed) [
      | inl one ↦ one
      | inr before ↦ absurd (is.unchanged i before)
    ])
