-- How many indirect blocks a point stores over a file: one for each group with a changed block, and one more where it was cut or got
-- another level.
use Rattle.std.proofs.Common.{◌≡◌, ℕ, zero, suc, ◌+◌, ◌-◌, ◌*◌, ◌/◌, ◌^◌, ◌<◌, ◌≤◌, ◌⊎◌, inl, inr, Result, Ok, refl, ap, sym, subst, ◌∙◌, arith, true, false}
use Rattle.std.specs.Prelude.{min, nat_lt, ◌==◌, if◌then◌else◌}
use Rattle.std.proofs.Math.Nat.{pow-zero}
use Rattle.std.specs.Ordering.{nat_cmp}
use Rattle.std.specs.BTreeMap as tree
use Rattle.std.proofs.lemmas.Bool.{cases_eq, cases_lt, cond_above, cond_below}
use Rattle.std.proofs.lemmas.Bool.Decides.{nat_tests}
use Rattle.layout.specs.Trees.{fan_out, greatest_size}
use Rattle.layout.specs.declared.trees.Layout.{Layout}
use Rattle.layout.specs.declared.trees.Layout.TheVariants.{Plain, Summed}
use Rattle.layout.specs.declared.pointer.Pointer.TheVariants.{Hole}
use Rattle.images.specs.Sums.{sum_below}
use Rattle.images.proofs.SumLaws.{is_in_sum, one_more, sum_of_none, sums_rise}
use Rattle.blocktree.specs.Names.{nodes_at}
use Rattle.blocktree.specs.PlaceMaps.{EndBefore, place_at}
use Rattle.blocktree.specs.Places.{block_count, depth_of}
use Rattle.blocktree.specs.declared.place_map.PlaceMap.{PlaceMap}
use Rattle.blocktree.specs.Trees.{IsChanged, slot_stores}
use Rattle.blocktree.specs.declared.tree.BlockTree.{BlockTree}
use Rattle.conspoint.specs.Space.{block_stores}
use Rattle.conspoint.specs.Steps.{Places}
use Rattle.conspoint.specs.declared.draft.Draft.{Draft}
use Rattle.conspoint.specs.declared.error.PlanError.{PlanError}
use Rattle.conspoint.proofs.StepLemmas.{places_then}
use Rattle.conspoint.proofs.SumLemmas.{block_counts}
use Rattle.inode.specs.declared.file.File.{File}
use Rattle.inode.specs.Room.{top_over}
use Rattle.inode.proofs.GroupLaws.{at_here, group_changed, mark, tops_all}
use Rattle.placement.specs.Nodes.{AllUnder, AreCounted, StaysUnder, height_of, node}
use Rattle.placement.specs.Files.{file_level}
use Rattle.placement.specs.Space.{height_stores, level_stores, more_over, tops_stored}
use Rattle.placement.specs.Steps.{CountsHeights, PlacesHeights, raise_stores}
use Rattle.placement.specs.declared.nodes.Nodes.{Nodes}
use Rattle.placement.proofs.FanLemmas.{fan_least, in_this_group, next_group, up_before, up_behind, within_group}
use Rattle.placement.proofs.HeldLaws.{first_nodes}
use Rattle.placement.proofs.RaiseLaws.{ones}

-- what is counted of so many blocks in the first groups
abbrev reach : Layout → (ℕ → ℕ) → ℕ → ℕ → ℕ
reach l f count j = sum_below f (min (fan_out l * j) count)

-- so many more in one group
abbrev extra : ℕ → ℕ → ℕ → ℕ
extra more at j = if j == at then more else 0

-- what is counted in a group, and so many more in this one
abbrev in_this : Layout → (ℕ → ℕ) → ℕ → ℕ → ℕ → ℕ → ℕ
in_this l f count at more j = reach l f count (j + 1) - reach l f count j + extra more at j

-- a group counts where something is counted in it
abbrev pub weight : Layout → (ℕ → ℕ) → ℕ → ℕ → ℕ → ℕ → ℕ
weight l f count at more j = min 1 (in_this l f count at more j)

reach_rises : (l : Layout) (f : ℕ → ℕ) (count j : ℕ) → reach l f count j ≤ reach l f count (j + 1)
reach_rises l f count j = sums_rise f (min (fan_out l * j) count) (min (fan_out l * (j + 1)) count) (next_group l count j)

here : (more m at : ℕ) → m ≡ at → extra more at m ≡ more
here more m at is = let yes : (m == at) ≡ true = grind (arith, nat_tests, is) in rw yes refl

elsewhere : (more m at : ℕ) → (m ≡ at → ⊥) → extra more at m ≡ 0
elsewhere more m at not = let no : (m == at) ≡ false = grind (arith, nat_tests, not) in rw no refl

-- as many groups count as blocks, and so many more
record AtMost (l : Layout) (f : ℕ → ℕ) (count at more m : ℕ) : Type 0 where
  before : m ≤ at → sum_below (weight l f count at more) m ≤ reach l f count m
  all : sum_below (weight l f count at more) m ≤ reach l f count m + more
  each : sum_below (weight l f count at more) m ≤ m

at_most : (l : Layout) (f : ℕ → ℕ) (count at more m : ℕ) → AtMost l f count at more m
at_most l f count at more zero =
    let none = sum_of_none (weight l f count at more) in
    record { before = λ le. omega (arith, none); all = omega (arith, none); each = omega (arith, none) }
at_most l f count at more (suc m) =
    let so_far = at_most l f count at more m in
    let added = one_more (weight l f count at more) m in
    let rises = reach_rises l f count m in
    let next : suc m ≡ m + 1 = omega arith in
    subst (λ (n : ℕ). AtMost l f count at more n) (sym next) (elim (cases_eq m at) [
      | inl is ↦
          let one = here more m at is in
          let few = so_far.before (omega (arith, is)) in
          record { before = λ le. absurd (omega (arith, is, le)); all = omega (arith, one, few, added, rises); each = omega (arith, so_far.each, added) }
      | inr other ↦
          let none = elsewhere more m at other in
          record {
            before = λ le. (let few = so_far.before (omega (arith, le)) in omega (arith, none, few, added, rises));
            all = omega (arith, none, so_far.all, added, rises);
            each = omega (arith, so_far.each, added);
          }
    ])

-- so many count at the most
pub weights_most : (l : Layout) (f : ℕ → ℕ) (count at more n : ℕ) → sum_below (weight l f count at more) n ≤ min n (sum_below f count + more)
weights_most l f count at more n =
    let all = at_most l f count at more n in
    let within = sums_rise f (min (fan_out l * n) count) count (omega arith) in
    omega (arith, all.all, all.each, within)

-- no block of a group that doesn't count is counted
none_counted : (l : Layout) (f : ℕ → ℕ) (count at more j i : ℕ) → weight l f count at more j ≡ 0 → i < fan_out l → fan_out l * j + i < count → f (fan_out l * j + i) ≡ 0
none_counted l f count at more j i none small low =
    let before = sums_rise f (min (fan_out l * j) count) (fan_out l * j + i) (omega arith) in
    let after = is_in_sum f (fan_out l * j + i) (min (fan_out l * (j + 1)) count) (within_group l count j i small low) in
    omega (arith, none, before, after)

not_at : (l : Layout) (f : ℕ → ℕ) (count at j : ℕ) → weight l f count at 1 j ≡ 0 → j ≡ at → ⊥
not_at l f count at j none is = omega (arith, none, here 1 j at is)

-- what stands at a block of a file: where it isn't counted, what the settled nodes that count have there
abbrev pub LeavesUncounted : (ℕ → ℕ) → ℕ → Nodes → ℕ → PlaceMap → Type 0
LeavesUncounted f kept settled count blocks =
    (i : ℕ) → i < count → f i ≡ 0 → place_at blocks i ≡ (if nat_lt i kept then node settled 0 i else Hole)

-- ---- where one indirect block more is stored

-- nothing of a file was cut off, and it has its settled level
record IsAsDeep (f : File) : Type 0 where
  none : more_over f ≡ 0
  kept : f.tree.count ≤ f.tree.kept
  long : f.tree.count ≤ block_count f.size
  depth : f.tree.depth ≡ depth_of f.tree.layout f.size

-- or it has no settled block
more_cases : (f : File) → (more_over f ≡ 1) ⊎ IsAsDeep f ⊎ (f.tree.count ≡ 0)
more_cases f = elim (cases_lt (min f.tree.kept (block_count f.size)) f.tree.count) [
  | inl less ↦ (let yes : nat_lt (min f.tree.kept (block_count f.size)) f.tree.count ≡ true = grind (arith, nat_tests, less) in inl (rw yes refl))
  | inr all ↦
      let no : nat_lt (min f.tree.kept (block_count f.size)) f.tree.count ≡ false = grind (arith, nat_tests, all) in
      elim (cases_eq f.tree.depth (depth_of f.tree.layout f.size)) [
        | inl same ↦
            let yes : (f.tree.depth == depth_of f.tree.layout f.size) ≡ true = grind (arith, nat_tests, same) in
            inr (inl (record { none = rw (no, yes) refl; kept = omega (arith, all); long = omega (arith, all); depth = same }))
        | inr other ↦
            let not : (f.tree.depth == depth_of f.tree.layout f.size) ≡ false = grind (arith, nat_tests, other) in
            elim (cases_eq f.tree.count 0) [
              | inl none ↦ inr (inr none)
              | inr some ↦ inl (rw (no, not) (omega (arith, some)))
            ]
      ]
]

-- a file whose blocks have so many heights has few
few_flat : (t : BlockTree) → t.depth ≡ 0 → t.kept ≤ 16
few_flat t flat =
    let one : fan_out t.layout ^ t.depth ≡ 1 = ap (λ (k : ℕ). fan_out t.layout ^ k) flat ∙ pow-zero (fan_out t.layout) in
    omega (arith, t.fits.0, t.fits.1, one)

few_deep : (t : BlockTree) → t.layout ≡ Plain → t.depth ≡ 1 → t.kept ≤ 16384
few_deep t plain deep =
    let more : fan_out t.layout ^ t.depth ≡ 1024 = ap (λ (l : Layout). fan_out l ^ t.depth) plain ∙ ap (λ (k : ℕ). 1024 ^ k) deep in
    omega (arith, t.fits.0, t.fits.1, more)

few_kept : (t : BlockTree) → t.layout ≡ Plain → t.depth ≤ 1 → t.kept ≤ 16384
few_kept t plain le = elim (cases_eq t.depth 0) [
  | inl flat ↦ omega (arith, few_flat t flat)
  | inr some ↦ few_deep t plain (omega (arith, le, some))
]

-- no settled block that counts is among these, or all of them count
abbrev pub IsOnOneSide : ℕ → ℕ → ℕ → Type 0
IsOnOneSide kept low high = (high ≤ kept) ⊎ (kept ≤ low)

-- Of blocks of which none is counted all are as they were settled, in a file that had as many heights, or holes.
module _ (f : ℕ → ℕ) (file : File) (settled : Nodes) (blocks : PlaceMap) (counted : AreCounted file.tree settled) (end : EndBefore (block_count file.size) blocks)
    (unchanged : LeavesUncounted f file.tree.kept settled (block_count file.size) blocks) (h low high : ℕ) (level : h < file_level file) (some : height_of settled ≤ h → file.tree.kept < high)
    (none : (i : ℕ) → low ≤ i → i < high → i < block_count file.size → f i ≡ 0) (side : more_over file ≡ 1 → IsOnOneSide (min file.tree.kept (block_count file.size)) low high) where
  abbrev count : ℕ
  count = block_count file.size

  abbrev kept : ℕ
  kept = file.tree.kept

  abbrev Stays : Type 0
  Stays = ((h < height_of settled) × ((i : ℕ) → low ≤ i → i < high → place_at blocks i ≡ node settled 0 i)) ⊎ ((i : ℕ) → low ≤ i → i < high → place_at blocks i ≡ Hole)

  -- where all settled ones that count are before
  all_holes : min kept count ≤ low → Stays
  all_holes past = inr (λ i le lt. elim (cases_lt i count) [
    | inl within ↦ unchanged i within (none i le lt within) ∙ sym (cond_above i kept (node settled 0 i) Hole Hole (omega (arith, past, le, within)) refl)
    | inr over ↦ end i over
  ])

  -- where all of these count
  all_kept : high ≤ min kept count → Stays
  all_kept whole = elim (cases_lt h (height_of settled)) [
    | inr flat ↦ absurd (omega (arith, some flat, whole))
    | inl deep ↦ inl (
      deep,
      λ i le lt.
          unchanged i (omega (arith, whole, lt)) (none i le lt (omega (arith, whole, lt))) ∙ sym (cond_below i kept (node settled 0 i) Hole (omega (arith, whole, lt))),
    )
  ]

  -- where all settled ones count
  all_same : IsAsDeep file → Stays
  all_same deep =
      let all : kept ≡ file.tree.count = omega (arith, file.tree.fits.1, deep.kept) in
      inl (
        omega (arith, counted.heights, deep.depth, level),
        λ i le lt. elim (cases_lt i kept) [
          | inl counts ↦
              let within : i < count = omega (arith, counts, all, deep.long) in
              unchanged i within (none i le lt within) ∙ sym (cond_below i kept (node settled 0 i) Hole counts)
          | inr past ↦
              let old = counted.end 0 i (omega (arith, first_nodes file.tree.layout file.tree.count, past, all)) in
              elim (cases_lt i count) [
                | inl within ↦ unchanged i within (none i le lt within) ∙ sym (cond_above i kept (node settled 0 i) Hole Hole past refl) ∙ sym old
                | inr over ↦ end i over ∙ sym old
              ]
        ],
      )

  pub stays : Stays
  stays = elim (more_cases file) [
    | inl one ↦ elim (side one) [ inl whole ↦ all_kept whole | inr past ↦ all_holes past ]
    | inr other ↦ elim other [
      | inl deep ↦ all_same deep
      | inr empty ↦ all_holes (omega (arith, file.tree.fits.1, empty))
    ]
  ]

-- ---- groups of blocks, and of as many of these

under_one : (l : Layout) (P : ℕ → Type 0) (j : ℕ) → ((i : ℕ) → fan_out l * j ≤ i → i < fan_out l * (j + 1) → P i) → AllUnder l P 1 j
unfolding AllUnder
under_one l P j each = λ i lt. each (fan_out l * j + i) (omega arith) (omega (arith, lt))

under_two : (P : ℕ → Type 0) (j : ℕ) → ((i : ℕ) → 1048576 * j ≤ i → i < 1048576 * (j + 1) → P i) → AllUnder Plain P 2 j
unfolding AllUnder
under_two P j each = λ k small i lt. each (1024 * (1024 * j + k) + i) (omega (arith, small)) (omega (arith, small, lt))

-- a block of a group of which none is changed isn't stored
group_none : (t : BlockTree) (j i : ℕ) → group_changed t j ≡ 0 → 1048576 * j ≤ i → i < 1048576 * (j + 1) → slot_stores (tree.get nat_cmp t.slots i) ≡ 0
group_none t j i none le lt =
    let g : ℕ → ℕ = λ k. slot_stores (tree.get nat_cmp t.slots (1048576 * j + k)) in
    let at : 1048576 * j + (i - 1048576 * j) ≡ i = omega (arith, le) in
    let here : g (i - 1048576 * j) ≡ slot_stores (tree.get nat_cmp t.slots i) = ap (λ (n : ℕ). slot_stores (tree.get nat_cmp t.slots n)) at in
    omega (arith, none, here, is_in_sum g (i - 1048576 * j) 1048576 (omega (arith, le, lt)))

module _ (f : ℕ → ℕ) (file : File) (settled : Nodes) (blocks : PlaceMap) (counted : AreCounted file.tree settled) (end : EndBefore (block_count file.size) blocks)
    (unchanged : LeavesUncounted f file.tree.kept settled (block_count file.size) blocks) where
  abbrev before : ℕ
  before = min file.tree.kept (block_count file.size)

  abbrev l : Layout
  l = settled.layout

  -- over a group that doesn't count none is stored
  pub one_stays : (j : ℕ) → 2 ≤ file_level file → weight l f (block_count file.size) (before / fan_out l) (more_over file) j ≡ 0 → StaysUnder settled blocks 1 j
  one_stays j level none =
      let side : more_over file ≡ 1 → IsOnOneSide before (fan_out l * j) (fan_out l * (j + 1)) = λ one.
      let other = not_at l f (block_count file.size) (before / fan_out l) j (subst (λ (m : ℕ). weight l f (block_count file.size) (before / fan_out l) m j ≡ 0) one none) in
      elim (cases_lt j (before / fan_out l)) [
        | inl less ↦ inl (up_before l before j less)
        | inr more ↦ elim (cases_eq j (before / fan_out l)) [ inl is ↦ absurd (other is) | inr not ↦ inr (up_behind l before j (omega (arith, more, not))) ]
      ] in
      elim (stays f file settled blocks counted end unchanged 1 (fan_out l * j) (fan_out l * (j + 1)) (omega (arith, level))
      (λ flat. (let few = few_flat file.tree (omega (arith, flat, counted.heights)) in omega (arith, few, fan_least l j)))
      (λ i le lt within. subst (λ (k : ℕ). f k ≡ 0) (in_this_group l j i le)
      (none_counted l f (block_count file.size) (before / fan_out l) (more_over file) j (i - fan_out l * j) none (omega (arith, le, lt)) (subst (λ (k : ℕ). k < block_count file.size) (sym (in_this_group l j i le)) within)))
      side) [
        | inl same ↦ inl (same.0, under_one l _ j same.1)
        | inr holes ↦ inr (under_one l _ j holes)
      ]

  -- so at the third height, in the plain layout
  pub two_stays : (j : ℕ) → l ≡ Plain → 3 ≤ file_level file → ((i : ℕ) → i < block_count file.size → f i ≡ slot_stores (tree.get nat_cmp file.tree.slots i)) → top_over file j ≡ 0 → StaysUnder settled blocks 2 j
  two_stays j plain level is none =
      let side : more_over file ≡ 1 → IsOnOneSide before (1048576 * j) (1048576 * (j + 1)) = λ one.
      elim (cases_eq j (mark file)) [
        | inl at ↦ absurd (omega (arith, none, one, at_here (mark file) (more_over file) j at))
        | inr not ↦ elim (cases_lt j (mark file)) [
          | inl less ↦ inl (omega (arith, less))
          | inr more ↦ inr (omega (arith, more, not))
        ]
      ] in
      let empty : group_changed file.tree j ≡ 0 = omega (arith, none) in
      elim (stays f file settled blocks counted end unchanged 2 (1048576 * j) (1048576 * (j + 1)) (omega (arith, level))
      (λ flat. (let few = few_kept file.tree (sym counted.layout ∙ plain) (omega (arith, flat, counted.heights)) in omega (arith, few)))
      (λ i le lt within. is i within ∙ group_none file.tree j i empty le lt)
      side) [
        | inl same ↦ inl (same.0, subst (λ (k : Layout). AllUnder k (λ i. place_at blocks i ≡ node settled 0 i) 2 j) (sym plain) (under_two _ j same.1))
        | inr holes ↦ inr (subst (λ (k : Layout). AllUnder k (λ i. place_at blocks i ≡ Hole) 2 j) (sym plain) (under_two _ j holes))
      ]

-- these numbers at the second height and those at the third
abbrev pub by_height : (ℕ → ℕ) → (ℕ → ℕ) → ℕ → ℕ → ℕ
by_height one two zero j = 0
by_height one two (suc zero) j = one j
by_height one two (suc (suc zero)) j = two j
by_height one two (suc (suc (suc h))) j = 1

counts_each : (one two : ℕ → ℕ) (blocks level : ℕ) (settled : Nodes) (lowest : PlaceMap) → ((j : ℕ) → 2 ≤ level → one j ≡ 0 → StaysUnder settled lowest 1 j) → ((j : ℕ) → 3 ≤ level → two j ≡ 0 → StaysUnder settled lowest 2 j)
    → CountsHeights (by_height one two) blocks level settled lowest
counts_each one two blocks level settled lowest first second zero j some low lt none = absurd (omega (arith, some))
counts_each one two blocks level settled lowest first second (suc zero) j some low lt none = first j (omega (arith, low)) none
counts_each one two blocks level settled lowest first second (suc (suc zero)) j some low lt none = second j (omega (arith, low)) none
counts_each one two blocks level settled lowest first second (suc (suc (suc h))) j some low lt none = absurd (omega (arith, none))

-- ---- what a file at a level comes to

raise_fits : (l : Layout) (blocks changed more tops : ℕ) (one two : ℕ → ℕ) (h : ℕ) → sum_below one (nodes_at l blocks 1) ≤ min (nodes_at l blocks 1) (changed + more) → sum_below two (nodes_at l blocks 2) ≤ tops
    → raise_stores l blocks (by_height one two) (suc h) ≤ height_stores l blocks changed more tops (suc h)
unfolding raise_stores height_stores
raise_fits l blocks changed more tops one two zero first second = first
raise_fits l blocks changed more tops one two (suc zero) first second = second
raise_fits l blocks changed more tops one two (suc (suc h)) first second = omega (arith, ones (nodes_at l blocks (suc (suc (suc h)))))

-- the blocks that are changed, and what is stored over them
pub stores_most : (l : Layout) (level blocks changed more tops : ℕ) (one two : ℕ → ℕ) → sum_below one (nodes_at l blocks 1) ≤ min (nodes_at l blocks 1) (changed + more) → sum_below two (nodes_at l blocks 2) ≤ tops → 1 ≤ level
    → changed + sum_below (raise_stores l blocks (by_height one two)) level ≤ level_stores l level blocks changed more tops
unfolding sum_below raise_stores height_stores
stores_most l zero blocks changed more tops one two first second le = absurd (omega (arith, le))
stores_most l (suc zero) blocks changed more tops one two first second le = omega arith
stores_most l (suc (suc level)) blocks changed more tops one two first second le =
    omega (arith, stores_most l (suc level) blocks changed more tops one two first second (omega arith), raise_fits l blocks changed more tops one two level first second)

pub changed_most : (l : Layout) (level blocks changed more tops : ℕ) → 1 ≤ level → changed ≤ level_stores l level blocks changed more tops
unfolding height_stores
changed_most l level blocks changed more tops some = omega (arith, is_in_sum (height_stores l blocks changed more tops) 0 level some)

-- the nodes of the third height that may be stored anew
abbrev pub tops_each : Layout → File → ℕ → ℕ
tops_each Plain file j = top_over file j
tops_each Summed file j = 1

-- of the plain layout they are no more than an inode has pointers
two_few : (count : ℕ) → count ≤ 16777216 → nodes_at Plain count 2 ≤ 16
unfolding nodes_at
two_few count low = omega (arith, low)

tops_low : (l : Layout) (file : File) → file.tree.layout ≡ l → sum_below (tops_each l file) (nodes_at l (block_count file.size) 2) ≤ tops_stored l file
tops_low Plain file is =
    let most : file.size ≤ 68719476736 = subst (λ (k : Layout). file.size ≤ greatest_size k) is file.within in
    let few : nodes_at Plain (block_count file.size) 2 ≤ 16 = two_few (block_count file.size) (omega (arith, most)) in
    omega (arith, sums_rise (top_over file) (nodes_at Plain (block_count file.size) 2) 16 few, tops_all file)
tops_low Summed file is = omega (arith, ones (nodes_at Summed (block_count file.size) 2))

pub tops_few : (file : File) → sum_below (tops_each file.tree.layout file) (nodes_at file.tree.layout (block_count file.size) 2) ≤ tops_stored file.tree.layout file
tops_few file = tops_low file.tree.layout file refl

-- over the others none is stored
pub tops_stay : (l : Layout) (f : ℕ → ℕ) (file : File) (settled : Nodes) (blocks : PlaceMap) → AreCounted file.tree settled → EndBefore (block_count file.size) blocks
    → LeavesUncounted f file.tree.kept settled (block_count file.size) blocks → (j : ℕ) → file.tree.layout ≡ l → 3 ≤ file_level file
    → ((i : ℕ) → i < block_count file.size → f i ≡ slot_stores (tree.get nat_cmp file.tree.slots i)) → tops_each l file j ≡ 0 → StaysUnder settled blocks 2 j
tops_stay Plain f file settled blocks counted end unchanged j is level each none = two_stays f file settled blocks counted end unchanged j (counted.layout ∙ is) level each none
tops_stay Summed f file settled blocks counted end unchanged j is level each none = absurd (omega (arith, none))

-- The blocks of a file are placed, and the nodes over them, where f counts each block that isn't as it was settled, and these numbers
-- each node of the third height that isn't.
pub placed_most : {T U : Type 0} {a b c : Draft} {x : T} {r : Result U PlanError} (f two : ℕ → ℕ) (changed tops : ℕ) (file : File) (settled : Nodes) (blocks : PlaceMap) → AreCounted file.tree settled
    → EndBefore (block_count file.size) blocks → LeavesUncounted f file.tree.kept settled (block_count file.size) blocks → 1 ≤ file_level file → sum_below f (block_count file.size) ≤ changed
    → sum_below two (nodes_at file.tree.layout (block_count file.size) 2) ≤ tops → ((j : ℕ) → 3 ≤ file_level file → two j ≡ 0 → StaysUnder settled blocks 2 j)
    → Places changed a b (Ok x) → PlacesHeights (block_count file.size) (file_level file) settled blocks b c r
    → Places (level_stores file.tree.layout (file_level file) (block_count file.size) changed (more_over file) tops) a c r
placed_most {a = a} {c = c} {r = r} f two changed tops file settled blocks counted end unchanged level fits above stay first over =
    let count = block_count file.size in
    let l = settled.layout in
    let at = min file.tree.kept count / fan_out l in
    let one = weight l f count at (more_over file) in
    let most = weights_most l f count at (more_over file) (nodes_at l count 1) in
    let higher : sum_below two (nodes_at l count 2) ≤ tops = subst (λ (k : Layout). sum_below two (nodes_at k count 2) ≤ tops) (sym counted.layout) above in
    subst (λ (k : Layout). Places (level_stores k (file_level file) count changed (more_over file) tops) a c r) counted.layout
    (places_then first (over (by_height one two) (counts_each one two count (file_level file) settled blocks (λ j high none. one_stays f file settled blocks counted end unchanged j high none) stay))
    (stores_most l (file_level file) count changed (more_over file) tops one two (omega (arith, most, fits)) higher level))

-- a block that isn't counted isn't changed
pub not_changed : (t : BlockTree) (first i : ℕ) → first ≤ i → block_stores t first i ≡ 0 → IsChanged t i → ⊥
not_changed t first i le none changed = omega (arith, none, block_counts t first i le changed)

-- the same numbers, and one for the first
abbrev pub with_one : (ℕ → ℕ) → ℕ → ℕ
with_one f i = if i == 0 then 1 else f i

one_first : (f : ℕ → ℕ) → with_one f 0 ≡ 1
one_first f = refl

pub one_later : (f : ℕ → ℕ) (i : ℕ) → (i ≡ 0 → ⊥) → with_one f i ≡ f i
one_later f i not = let no : (i == 0) ≡ false = grind (arith, nat_tests, not) in rw no refl

pub one_added : (f : ℕ → ℕ) (n : ℕ) → sum_below (with_one f) n ≤ sum_below f n + 1
one_added f zero = omega (arith, sum_of_none (with_one f))
one_added f (suc n) =
    let next : suc n ≡ n + 1 = omega arith in
    subst (λ (m : ℕ). sum_below (with_one f) m ≤ sum_below f m + 1) (sym next) (elim (cases_eq n 0) [
      | inl is ↦
          let one : with_one f n ≡ 1 = subst (λ (m : ℕ). with_one f m ≡ 1) (sym is) (one_first f) in
          let none : sum_below (with_one f) n ≡ 0 = subst (λ (m : ℕ). sum_below (with_one f) m ≡ 0) (sym is) (sum_of_none (with_one f)) in
          omega (arith, one, none, one_more (with_one f) n)
      | inr other ↦ omega (arith, one_added f n, one_later f n other, one_more (with_one f) n, one_more f n)
    ])

-- where the first counts, a block that doesn't is a later one
pub some_index : (f : ℕ → ℕ) (i : ℕ) → with_one f i ≡ 0 → 1 ≤ i
some_index f i none = elim (cases_eq i 0) [
  | inl is ↦ (let one : with_one f i ≡ 1 = subst (λ (m : ℕ). with_one f m ≡ 1) (sym is) (one_first f) in omega (arith, none, one))
  | inr other ↦ omega (arith, other)
]

pub some_stored : (f : ℕ → ℕ) (i : ℕ) → with_one f i ≡ 0 → f i ≡ 0
some_stored f i none =
    let later = some_index f i none in
    sym (one_later f i (λ is. omega (arith, later, is))) ∙ none
