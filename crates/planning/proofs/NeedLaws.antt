-- What a plan takes is no more than what memory may need of a point, number by number, and what every point stores.
use Rattle.std.proofs.Common.{◌≡◌, ℕ, zero, suc, ◌+◌, ◌*◌, ◌/◌, ◌%◌, ◌<◌, ◌≤◌, ◌↔◌, Option, Some, None, IsSome, List, inl, inr, refl, ap, sym, subst, ◌∙◌, arith, true, false}
use Rattle.std.specs.Prelude.{min, nat_le, nat_lt, ◌==◌, if◌then◌else◌, Bool}
use Rattle.std.specs.Int.{div_ceil}
use Rattle.std.specs.Ordering.{nat_cmp}
use Rattle.std.specs.BTreeMap as tree
use Rattle.std.proofs.lemmas.Bool.{cases_eq}
use Rattle.std.proofs.lemmas.Bool.Decides.{nat_tests}
use Rattle.model.specs.declared.limits.Limits.{Limits}
use Rattle.layout.specs.declared.TheConstants.{BLOCK_POINTERS, BODY_POINTERS}
use Rattle.layout.specs.Trees.{greatest_size, level_of, single_bytes}
use Rattle.layout.specs.declared.root.Root.{Root}
use Rattle.layout.proofs.SizeLaws.{level_low}
use Rattle.model.specs.Records.{count_orphans}
use Rattle.layout.specs.StateLimits.{fixed_of, limits_of}
use Rattle.model.specs.Volumes.{KeepsNodeLimits, Node, Volume}
use Rattle.blocktree.specs.Names.{nodes_at}
use Rattle.blocktree.specs.Places.{block_count}
use Rattle.blocktree.specs.declared.tree.BlockTree.{BlockTree}
use Rattle.blocktree.specs.Trees.{slot_stores}
use Rattle.images.specs.Sums.{sum_below}
use Rattle.images.proofs.SumLaws.{gap_counts, groups_most, is_in_sum, sums_rise}
use Rattle.conspoint.specs.Space.{block_stores, changed_blocks}
use Rattle.inode.specs.Room.{changed_below, changed_count, far_tops, file_room, level_room, top_over}
use Rattle.inode.specs.declared.file.File.{File}
use Rattle.inofile.proofs.RoomLaws.{orphan_four}
use Rattle.inofile.specs.Inodes.{is_changed_slot}
use Rattle.inofile.specs.Slots.{IsChangedSlot}
use Rattle.inofile.specs.Room.{has_moved, memory_room, number_room, slot_room}
use Rattle.inofile.specs.declared.inode_file.InodeFile.{InodeFile}
use Rattle.inofile.specs.declared.inode_file.ObjectSlot.{ObjectSlot}
use Rattle.inofile.specs.declared.inode_file.ObjectSlot.TheVariants.{AsSettled, Loaded, Changed}
use Rattle.placement.specs.Space.{file_stores, height_stores, level_stores, more_over, tops_stored}
use Rattle.layout.specs.declared.inode.Inode.{Inode}
use Rattle.layout.specs.declared.trees.Layout.{Layout}
use Rattle.layout.specs.declared.trees.Layout.TheVariants.{Plain}
use Rattle.images.specs.Soundness.{by_bytes}
use Rattle.inode.proofs.BaseLaws.{based_layout}
use Rattle.inofile.specs.Volumes.{IsVolumeOf, SlotStandsFor}
use Rattle.planning.proofs.OwnLaws.{inode_is}
use Rattle.planning.specs.Space.{map_file_nodes, map_stores, nodes_below, number_changes, point_stores, slot_nodes, top_block, top_nodes, MAP_NUMBERS}

-- ---- a file

same_blocks : (t : BlockTree) (n : ℕ) → changed_blocks t 0 n ≡ changed_below t n
unfolding sum_below
same_blocks t zero = refl
same_blocks t (suc n) =
    let no : nat_lt n 0 ≡ false = grind (arith, nat_tests) in
    let here : block_stores t 0 n ≡ slot_stores (tree.get nat_cmp t.slots n) = rw no refl in
    omega (arith, same_blocks t n, here)

-- level by level
level_within : (level blocks changed more top far all : ℕ) → level ≤ 3 → changed ≤ all → level_stores Plain level blocks changed more (top + far) ≤ level_room level all more top + far
unfolding sum_below height_stores
level_within zero blocks changed more top far all low few = omega arith
level_within (suc zero) blocks changed more top far all low few = omega (arith, few)
level_within (suc (suc zero)) blocks changed more top far all low few = omega (arith, few)
level_within (suc (suc (suc zero))) blocks changed more top far all low few = omega (arith, few)
level_within (suc (suc (suc (suc level)))) blocks changed more top far all low few = absurd (omega (arith, low))

level_most : (size : ℕ) → size ≤ 68719476736 → level_of Plain size ≤ 3
level_most size low = grind (arith, nat_tests, low)

-- of a file of the plain layout
pub stores_room : (f : File) → f.tree.layout ≡ Plain → file_stores f ≤ file_room f
stores_room f plain =
    let low : f.size ≤ 68719476736 = subst (λ (l : Layout). f.size ≤ greatest_size l) plain f.within in
    let all = sums_rise (block_stores f.tree 0) (block_count f.size) (block_count (greatest_size Plain)) (omega (arith, low)) in
    let same = same_blocks f.tree (block_count (greatest_size Plain)) in
    let few = level_within (level_of Plain f.size) (block_count f.size) (changed_blocks f.tree 0 (block_count f.size)) (more_over f) (top_over f 0) (far_tops f) (changed_count f.tree) (level_most f.size low) (omega (arith, all, same)) in
    subst (λ (l : Layout). level_stores l (level_of l f.size) (block_count f.size) (changed_blocks f.tree 0 (block_count f.size)) (more_over f) (tops_stored l f) ≤ file_room f) (sym plain) few

-- ---- a number: its blocks, and twice for the number that is changed

-- a file that is changed is of the plain layout
abbrev IsPlainSlot : Option ObjectSlot → Type 0
IsPlainSlot None = Unit {0}
IsPlainSlot (Some AsSettled) = Unit {0}
IsPlainSlot (Some (Loaded object)) = Unit {0}
IsPlainSlot (Some (Changed None)) = Unit {0}
IsPlainSlot (Some (Changed (Some object))) = object.file.tree.layout ≡ Plain

abbrev pub ArePlain : InodeFile → Type 0
ArePlain s = (n : ℕ) → IsPlainSlot (tree.get nat_cmp s.slots n)

slot_plain : (disk : ℕ → List ℕ) (inodes : ℕ) (settled : Inode) (slot : Option ObjectSlot) (found : Option Node) → settled.layout ≡ Plain → SlotStandsFor by_bytes disk inodes settled slot found → IsPlainSlot slot
slot_plain disk inodes settled None found plain stands = tt
slot_plain disk inodes settled (Some AsSettled) found plain stands = tt
slot_plain disk inodes settled (Some (Loaded object)) found plain stands = tt
slot_plain disk inodes settled (Some (Changed None)) found plain stands = tt
slot_plain disk inodes settled (Some (Changed (Some object))) found plain stands = based_layout settled object.file.tree stands.base ∙ plain

-- so are all in memory over a tree of an image of the plain layout
pub all_plain : (blocks : ℕ) (disk : ℕ → List ℕ) (settled : ℕ → Inode) (s : InodeFile) (v : Volume) → s.geometry.layout ≡ Plain → IsVolumeOf blocks disk settled s v → ArePlain s
all_plain blocks disk settled s v plain memory n =
    slot_plain disk s.geometry.inodes (settled n) (tree.get nat_cmp s.slots n) (v n) ((inode_is s.geometry disk (settled n) (memory.inodes.sound n)).layout ∙ plain) (memory.objects n)

slot_needs : (slot : Option ObjectSlot) → IsPlainSlot slot → slot_nodes slot + 2 * (if is_changed_slot slot then 1 else 0) ≤ slot_room slot
slot_needs None plain = omega arith
slot_needs (Some AsSettled) plain = omega arith
slot_needs (Some (Loaded object)) plain = omega arith
slot_needs (Some (Changed None)) plain = omega arith
slot_needs (Some (Changed (Some object))) plain = omega (arith, stores_room object.file plain)

-- an object came or went
abbrev moves : Volume → Volume → ℕ → ℕ
moves base v n = has_moved (base n) (v n)

numbers_need : (s : InodeFile) (base v : Volume) (n : ℕ) → ArePlain s → nodes_below s n + 2 * sum_below (number_changes s) n + sum_below (moves base v) n + 4 * count_orphans n v
    ≤ sum_below (number_room base s v) n
unfolding nodes_below sum_below
numbers_need s base v zero plain = omega arith
numbers_need s base v (suc n) plain = omega (arith, numbers_need s base v n plain, slot_needs (tree.get nat_cmp s.slots n) (plain n), orphan_four (v n))

-- ---- groups of numbers

past_none : (f : ℕ → ℕ) (p n : ℕ) → ((k : ℕ) → n ≤ k → f k ≡ 0) → sum_below f p ≤ sum_below f n
past_none f p n past =
    let all = sums_rise f p (p + n) (omega arith) in
    let gap = gap_counts f n (p + n) (omega arith) (λ k le lt. past k le) in
    omega (arith, all, gap)

-- where none has anything from a number on, no more than there is below it
groups_below : (f : ℕ → ℕ) (m a n : ℕ) → ((k : ℕ) → n ≤ k → f k ≡ 0) → sum_below (λ i. min 1 (sum_below (λ k. f (m * i + k)) m)) a ≤ sum_below f n
groups_below f m a n past = omega (arith, groups_most f m a, past_none f (m * a) n past)

-- so the blocks of the inode map of whose numbers an object came or went
abbrev pub map_moves : Volume → Volume → ℕ → ℕ
map_moves base v i = min 1 (sum_below (λ k. moves base v (MAP_NUMBERS * i + k)) MAP_NUMBERS)

-- ---- the inode file

unchanged_past : (slot : Option ObjectSlot) → (IsChangedSlot slot → ⊥) → ◌≡◌ {A = ℕ} (if is_changed_slot slot then 1 else 0) 0
unchanged_past None not = refl
unchanged_past (Some AsSettled) not = refl
unchanged_past (Some (Loaded object)) not = refl
unchanged_past (Some (Changed object)) not = absurd (not tt)

changes_past : (s : InodeFile) (n : ℕ) → s.geometry.inodes ≤ n → number_changes s n ≡ 0
changes_past s n past = unchanged_past (tree.get nat_cmp s.slots n) (λ changed. let low = s.changes n changed in omega (arith, past, low.1))

-- a block of the inode file with a changed number
abbrev has_number : InodeFile → ℕ → ℕ
has_number s i = min 1 (sum_below (λ k. number_changes s (21 * i + k)) 21)

one_block : (s : InodeFile) (i : ℕ) → top_block s i ≤ has_number s i + (if i == 0 then 1 else 0)
one_block s i = elim (cases_eq i 0) [
  | inl is ↦ (let yes : (i == 0) ≡ true = grind (arith, nat_tests, is) in rw yes (omega arith))
  | inr other ↦ (let no : (i == 0) ≡ false = grind (arith, nat_tests, other) in rw no (omega arith))
]

first_once : (n : ℕ) → sum_below (λ i. if i == 0 then 1 else 0) n ≤ min 1 n
unfolding sum_below
first_once zero = omega arith
first_once (suc n) = elim (cases_eq n 0) [
  | inl is ↦ (let yes : (n == 0) ≡ true = grind (arith, nat_tests, is) in rw yes (omega (arith, first_once n, is)))
  | inr other ↦ (let no : (n == 0) ≡ false = grind (arith, nat_tests, other) in rw no (omega (arith, first_once n, other)))
]

blocks_few : (s : InodeFile) (n : ℕ) → sum_below (top_block s) n ≤ sum_below (has_number s) n + sum_below (λ i. if i == 0 then 1 else 0) n
unfolding sum_below
blocks_few s zero = omega arith
blocks_few s (suc n) = omega (arith, blocks_few s n, one_block s n)

level_tops : (layout : Layout) (level blocks changed tops numbers : ℕ) → level ≤ 2 → changed ≤ numbers + 1 → level_stores layout level blocks changed 0 tops ≤ 2 * numbers + level
unfolding sum_below height_stores
level_tops layout zero blocks changed tops numbers low few = omega arith
level_tops layout (suc zero) blocks changed tops numbers low few = omega (arith, few)
level_tops layout (suc (suc zero)) blocks changed tops numbers low few = omega (arith, few)
level_tops layout (suc (suc (suc level))) blocks changed tops numbers low few = absurd (omega (arith, low))

top_needs : (s : InodeFile) (size : ℕ) → size ≤ single_bytes s.geometry.layout → top_nodes s size ≤ 2 * sum_below (number_changes s) s.geometry.inodes + level_of s.geometry.layout size
top_needs s size small =
    let count = block_count size in
    let groups : sum_below (has_number s) count ≤ sum_below (number_changes s) s.geometry.inodes = groups_below (number_changes s) 21 count s.geometry.inodes (changes_past s) in
    level_tops s.geometry.layout (level_of s.geometry.layout size) count (sum_below (top_block s) count) (nodes_at s.geometry.layout count 2) (sum_below (number_changes s) s.geometry.inodes) (level_low s.geometry.layout size small)
    (omega (arith, groups, blocks_few s count, first_once count))

-- ---- a point

empty_past : (limits : Limits) (v : Volume) (n : ℕ) → KeepsNodeLimits limits v → 3 < limits.inodes → limits.inodes ≤ n → IsSome (v n) → ⊥
empty_past limits v n keeps least past some = elim (keeps.numbers n some) [
  | inl is ↦ omega (arith, is, least, past)
  | inr low ↦ omega (arith, low.1, past)
]

unmoved : (a b : Option Node) → (IsSome a → ⊥) → (IsSome b → ⊥) → has_moved a b ≡ 0
unmoved None None none no_more = refl
unmoved None (Some new) none no_more = absurd (no_more refl)
unmoved (Some old) b none no_more = absurd (none refl)

-- What a plan takes, and what is kept for the orphans. Of the inode map those blocks are counted of whose numbers an object
-- came or went over the base.
pub point_needs : (r : Root) (s : InodeFile) (base v : Volume) (blocks : ℕ) → ArePlain s → r.inode_file.layout ≡ s.geometry.layout → KeepsNodeLimits (limits_of s.geometry) base → KeepsNodeLimits (limits_of s.geometry) v → 3 < s.geometry.inodes
    → r.inode_file.size ≤ single_bytes s.geometry.layout
    → point_stores (map_moves base v) r s blocks + 4 * count_orphans s.geometry.inodes v ≤ memory_room base s v + level_of r.inode_file.layout r.inode_file.size + map_file_nodes blocks
point_needs r s base v blocks plain of base_keeps keeps least small =
    let inodes = s.geometry.inodes in
    let past : (n : ℕ) → inodes ≤ n → moves base v n ≡ 0 = λ n le. unmoved (base n) (v n) (empty_past (limits_of s.geometry) base n base_keeps least le) (empty_past (limits_of s.geometry) v n keeps least le) in
    let numbers = numbers_need s base v inodes plain in
    let map : map_stores (map_moves base v) s ≤ sum_below (moves base v) inodes = groups_below (moves base v) MAP_NUMBERS (block_count (div_ceil inodes 8)) inodes past in
    let top = top_needs s r.inode_file.size small in
    let level : level_of r.inode_file.layout r.inode_file.size ≡ level_of s.geometry.layout r.inode_file.size = ap (λ (l : Layout). level_of l r.inode_file.size) of in
    omega (arith, numbers, map, top, level)

moved_not : (a b : Option Node) → has_moved a b ≡ 0 → IsSome a ↔ IsSome b
moved_not None None none = ((λ is. is), (λ is. is))
moved_not None (Some new) none = absurd (omega (arith, none))
moved_not (Some old) None none = absurd (omega (arith, none))
moved_not (Some old) (Some new) none = ((λ is. refl), (λ is. refl))

-- these numbers count each block that a plan stores of the inode map
pub moves_count : (base v : Volume) (n : ℕ) → map_moves base v (n / MAP_NUMBERS) ≡ 0 → IsSome (base n) ↔ IsSome (v n)
moves_count base v n none =
    let f : ℕ → ℕ = λ k. moves base v (MAP_NUMBERS * (n / MAP_NUMBERS) + k) in
    let counted = is_in_sum f (n % MAP_NUMBERS) MAP_NUMBERS (omega arith) in
    let at : MAP_NUMBERS * (n / MAP_NUMBERS) + n % MAP_NUMBERS ≡ n = omega arith in
    let here : f (n % MAP_NUMBERS) ≡ has_moved (base n) (v n) = ap (moves base v) at in
    moved_not (base n) (v n) (omega (arith, none, counted, here))

file_fits : (blocks level : ℕ) (small : Bool) → level ≤ 2 → level + (if small then blocks else blocks + 1) + 1 ≤ blocks + 4
file_fits blocks level true low = omega (arith, low)
file_fits blocks level false low = omega (arith, low)

-- what every point stores
pub fixed_needs : (layout : Layout) (size blocks : ℕ) → size ≤ single_bytes layout → level_of layout size + map_file_nodes blocks + 1 ≤ fixed_of blocks
fixed_needs layout size blocks small =
    let all = file_fits (div_ceil blocks BLOCK_POINTERS) (level_of layout size) (nat_le (div_ceil blocks BLOCK_POINTERS) BODY_POINTERS) (level_low layout size small) in
    let same : div_ceil blocks BLOCK_POINTERS ≡ (blocks + 1023) / 1024 = omega arith in
    omega (arith, all, same)
