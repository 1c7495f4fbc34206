-- A new image's files against the blocks of an empty disk.
use Rattle.std.proofs.Common.{◌≡◌, inl, inr, ℕ, zero, suc, ◌+◌, ◌-◌, ◌*◌, ◌≤◌, Bool, true, false, Option, List, refl, sym, subst, ◌∙◌, arith}
use Rattle.std.proofs.lemmas.Bool.{cases_lt}
use Rattle.std.proofs.lemmas.Bool.Decides.{nat_tests}
use Rattle.std.specs.Prelude.{if◌then◌else◌, ◌==◌, nat_lt}
use Rattle.std.specs.Prelude.{Err, IfErr, IsErrOf, Result}
use Rattle.std.specs.Int.{div_ceil}
use Rattle.std.specs.Ordering.{nat_cmp}
use Rattle.std.specs.BTreeMap as tree
use Rattle.layout.specs.Trees.{single_bytes}
use Rattle.layout.specs.declared.trees.Layout.{Layout}
use Rattle.layout.specs.declared.trees.Layout.TheVariants.{Plain, Summed}
use Rattle.layout.proofs.SizeLaws.{level_low}
use Rattle.layout.specs.StateLimits.{fixed_of}
use Rattle.images.specs.Sums.{sum_below}
use Rattle.images.proofs.SumLaws.{gap_counts, sum_of_none}
use Rattle.blocktree.specs.Names.{nodes_at}
use Rattle.blocktree.specs.Places.{block_count}
use Rattle.blocktree.specs.Trees.{IsChanged, IsChangedSlot, slot_stores}
use Rattle.blocktree.specs.declared.tree.BlockTree.{BlockTree}
use Rattle.blocktree.specs.declared.slot.Slot.{Slot}
use Rattle.blocktree.proofs.SlotLaws.{slot_is}
use Rattle.blockmap.specs.Maps.{free_below, settled_at}
use Rattle.blockmap.specs.Parts.{Part}
use Rattle.blockmap.specs.Space.{left}
use Rattle.blockmap.specs.declared.map.BlockMap.{BlockMap}
use Rattle.conspoint.specs.Drafts.{Grows, IsShortage}
use Rattle.conspoint.specs.declared.draft.Draft.{Draft}
use Rattle.conspoint.specs.declared.error.PlanError.{PlanError}
use Rattle.conspoint.specs.declared.error.PlanError.TheVariants.{NoMemory, Device, NoSpace, Damaged}
use Rattle.conspoint.specs.MapFiles.{map_nodes}
use Rattle.conspoint.specs.Space.{TakesAtMost, block_stores, changed_blocks}
use Rattle.conspoint.proofs.SumLemmas.{changed_within}
use Rattle.inode.specs.declared.file.File.{File}
use Rattle.inode.proofs.GroupLaws.{more_at_most}
use Rattle.placement.specs.Files.{file_level}
use Rattle.placement.specs.Space.{file_stores, first_stores, height_stores, level_stores, more_over, tops_stored}
use Rattle.making.specs.Space.{NUMBERS_STORES, TOP_STORES}
use Rattle.making.specs.Starts.{IsEmptyMap, system_entry}
use Rattle.making.proofs.EmptyMapLaws.{system_low, system_past}

-- the block map has one indirect block at the most
pub map_few : (n : ℕ) → map_nodes n ≤ n + 1
map_few n = grind (arith, nat_tests)

pub one_free : (x : ℕ) → x ≡ 0 → ◌≡◌ {A = ℕ} (if x == 0 then 1 else 0) 1
one_free x is = rw is refl

none_free : (x : ℕ) → x ≡ 2147483648 → ◌≡◌ {A = ℕ} (if x == 0 then 1 else 0) 0
none_free x is = rw is refl

-- of the first blocks all are free but two
free_of_empty : (parts : List Part) → ((b : ℕ) → settled_at parts b ≡ system_entry b) → (n : ℕ) → free_below parts n ≡ n - 2
unfolding free_below
free_of_empty parts settled zero = refl
free_of_empty parts settled (suc n) =
    let below = free_of_empty parts settled n in
    elim (cases_lt n 2) [
      | inl lt ↦ (let none = none_free (settled_at parts n) (settled n ∙ system_low n lt) in omega (arith, below, none, lt))
      | inr ge ↦ (let one = one_free (settled_at parts n) (settled n ∙ system_past n ge) in omega (arith, below, one, ge))
    ]

-- on an empty disk all blocks are left but two and those that were given out
left_of : (m : BlockMap) → ((b : ℕ) → settled_at m.parts.items b ≡ system_entry b) → left m ≡ (m.count - 2) - (m.next - 2)
unfolding left
left_of m settled = omega (arith, free_of_empty m.parts.items settled m.count, free_of_empty m.parts.items settled m.next)

pub empty_left : (blocks : ℕ) (m : BlockMap) → IsEmptyMap blocks m → left m ≡ blocks - 2
empty_left blocks m empty = omega (arith, left_of m empty.settled, empty.count, empty.next)

-- so what the files of a new image take leaves what each point stores
pub few_given_out : (blocks : ℕ) (old new : Draft) → 64 ≤ blocks → IsEmptyMap blocks old.map → Grows old new → TakesAtMost (NUMBERS_STORES + TOP_STORES + map_nodes (div_ceil blocks 1024)) old new
    → fixed_of blocks + new.map.next ≤ blocks
few_given_out blocks old new least empty grows takes =
    let all = empty_left blocks old.map empty in
    let rest = left_of new.map (λ b. grows.settled.settled b ∙ empty.settled b) in
    omega (arith, least, all, rest, takes, grows.count, empty.count, map_few (div_ceil blocks 1024))

-- not many more blocks are stored of a file than are changed
stores_few : (l : Layout) (level blocks changed more tops : ℕ) → level ≤ 2 → more ≤ 1 → level_stores l level blocks changed more tops ≤ 2 * changed + 1
unfolding sum_below height_stores
stores_few l zero blocks changed more tops low one = omega arith
stores_few l (suc zero) blocks changed more tops low one = omega arith
stores_few l (suc (suc zero)) blocks changed more tops low one = omega (arith, one)
stores_few l (suc (suc (suc level))) blocks changed more tops low one = absurd (omega (arith, low))

-- so small a file has no third height
low_single : (l : Layout) (size : ℕ) → size ≤ 33554432 → size ≤ single_bytes l
low_single Plain size low = omega (arith, low)
low_single Summed size low = low

level_few : (f : File) → f.size ≤ 33554432 → file_level f ≤ 2
level_few f low = level_low f.tree.layout f.size (low_single f.tree.layout f.size low)

unchanged_slot : (s : Option Slot) → (IsChangedSlot s → ⊥) → slot_stores s ≡ 0
unchanged_slot s not = elim (slot_is s) [ inl none ↦ none | inr changed ↦ absurd (not changed) ]

none_or : (t : Bool) (x : ℕ) → x ≡ 0 → (if t then 0 else x) ≡ 0
none_or true x is = refl
none_or false x is = is

none_changed : (t : BlockTree) (first n : ℕ) → ((i : ℕ) → IsChanged t i → ⊥) → changed_blocks t first n ≡ 0
none_changed t first n not =
    gap_counts (block_stores t first) 0 n (omega arith) (λ i low high. none_or (nat_lt i first) (slot_stores (tree.get nat_cmp t.slots i)) (unchanged_slot (tree.get nat_cmp t.slots i) (not i)))
    ∙ sum_of_none (block_stores t first)

-- the inode map has two blocks at the most
pub numbers_few : (f : File) (inodes : ℕ) → f.size ≡ div_ceil inodes 8 → inodes ≤ 65536 → file_stores f ≤ NUMBERS_STORES
numbers_few f inodes size most =
    let few = stores_few f.tree.layout (file_level f) (block_count f.size) (changed_blocks f.tree 0 (block_count f.size)) (more_over f) (tops_stored f.tree.layout f) (level_few f (omega (arith, size, most))) (more_at_most f) in
    let within = changed_within f.tree 0 (block_count f.size) in
    let blocks : block_count f.size ≤ 2 = omega (arith, size, most) in
    omega (arith, few, within, blocks)

-- of the inode file only the first block is stored
pub top_few : (f : File) → f.size ≤ 33554432 → ((i : ℕ) → IsChanged f.tree i → ⊥) → first_stores f ≤ TOP_STORES
top_few f low not =
    let few = stores_few f.tree.layout (file_level f) (block_count f.size) (changed_blocks f.tree 1 (block_count f.size) + 1) (more_over f) (nodes_at f.tree.layout (block_count f.size) 2) (level_few f low) (more_at_most f) in
    let none = none_changed f.tree 1 (block_count f.size) not in
    omega (arith, few, none)

-- a shortage that isn't one of space
pub memory_alone : {T : Type 0} (e : PlanError) → IsShortage e → (IsErrOf {T = T} (Err e) NoSpace → ⊥) → e ≡ NoMemory
memory_alone NoMemory short room = refl
memory_alone NoSpace short room = absurd (room refl)
memory_alone Device short room = absurd short
memory_alone Damaged short room = absurd short

pub refused_so : {T : Type 0} (e : PlanError) (r : Result T PlanError) → r ≡ Err e → e ≡ NoMemory → IfErr r (λ e. e ≡ NoMemory)
refused_so e r is memory = subst (λ x. IfErr x (λ e. e ≡ NoMemory)) (sym is) memory
