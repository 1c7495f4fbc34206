-- Groups of nodes, each under one indirect block.
use Rattle.std.proofs.Common.{◌≡◌, inl, inr, ℕ, suc, ◌+◌, ◌-◌, ◌*◌, ◌/◌, ◌^◌, ◌<◌, ◌≤◌, refl, ap, sym, ◌∙◌, arith}
use Rattle.std.specs.Int.{div_ceil}
use Rattle.std.specs.Prelude.{min, nat_lt, if◌then◌else◌}
use Rattle.std.proofs.lemmas.Bool.{cases_lt, cond_above, cond_below}
use Rattle.layout.specs.Trees.{fan_out}
use Rattle.layout.specs.declared.TheConstants.{BLOCK_POINTERS}
use Rattle.layout.specs.declared.trees.Layout.{Layout}
use Rattle.layout.specs.declared.trees.Layout.TheVariants.{Plain, Summed}
use Rattle.layout.specs.declared.pointer.Pointer.{Pointer}
use Rattle.layout.specs.declared.pointer.Pointer.TheVariants.{Hole}
use Rattle.blocktree.specs.PlaceMaps.{place_at}
use Rattle.blocktree.specs.declared.place_map.PlaceMap.{PlaceMap}
use Rattle.conspoint.specs.Groups.{group}
use Rattle.placement.specs.declared.nodes.Nodes.{Nodes}
use Rattle.placement.specs.Nodes.{IsEmptyGroup, height_of, in_group, most_groups, node, under}

-- ---- numbers

pub fan_most : (l : Layout) (i : ℕ) → i < fan_out l → i < BLOCK_POINTERS
fan_most Plain i lt = lt
fan_most Summed i lt = omega (arith, lt)

-- as many groups as there are hold all nodes
pub groups_past : (l : Layout) (groups j i : ℕ) → groups ≤ j → fan_out l * groups ≤ fan_out l * j + i
groups_past Plain groups j i le = omega (arith, le)
groups_past Summed groups j i le = omega (arith, le)

pub groups_over : (l : Layout) (count groups i : ℕ) → groups ≡ div_ceil count (fan_out l) → fan_out l * groups ≤ i → count ≤ i
groups_over Plain count groups i is le = omega (arith, is, le)
groups_over Summed count groups i is le = omega (arith, is, le)

-- they are no more than the nodes, and their last node has an index
pub groups_fall : (l : Layout) (count : ℕ) → div_ceil count (fan_out l) ≤ count
groups_fall Plain count = omega arith
groups_fall Summed count = omega arith

pub groups_few : (l : Layout) (count groups : ℕ) → groups ≡ div_ceil count (fan_out l) → count < 4294966272 → fan_out l * groups < 2 ^ 32
groups_few Plain count groups is few = omega (arith, is, few)
groups_few Summed count groups is few = omega (arith, is, few)

pub groups_index : (l : Layout) (count : ℕ) → count ≤ 4294967295 → div_ceil count (fan_out l) ≤ most_groups l
groups_index Plain count low = omega (arith, low)
groups_index Summed count low = omega (arith, low)

pub group_index : (l : Layout) (j : ℕ) → j < most_groups l → fan_out l * j < 2 ^ 32
group_index Plain j low = omega (arith, low)
group_index Summed j low = omega (arith, low)

-- a node of a group, as its index in it
pub in_this_group : (l : Layout) (j i : ℕ) → fan_out l * j ≤ i → fan_out l * j + (i - fan_out l * j) ≡ i
in_this_group l j i le = omega (arith, le)

pub within_group : (l : Layout) (count j i : ℕ) → i < fan_out l → fan_out l * j + i < count → fan_out l * j + i < min (fan_out l * (j + 1)) count
within_group Plain count j i lt low = omega (arith, lt, low)
within_group Summed count j i lt low = omega (arith, lt, low)

pub next_group : (l : Layout) (count j : ℕ) → min (fan_out l * j) count ≤ min (fan_out l * (j + 1)) count
next_group Plain count j = omega arith
next_group Summed count j = omega arith

-- a group ends behind more than an inode has pointers
pub fan_least : (l : Layout) (j : ℕ) → 16 < fan_out l * (j + 1)
fan_least Plain j = omega arith
fan_least Summed j = omega arith

-- the groups before and behind that of a node
pub up_before : (l : Layout) (i j : ℕ) → j < i / fan_out l → fan_out l * (j + 1) ≤ i
up_before Plain i j lt = omega (arith, lt)
up_before Summed i j lt = omega (arith, lt)

pub up_behind : (l : Layout) (i j : ℕ) → i / fan_out l < j → i ≤ fan_out l * j
up_behind Plain i j lt = omega (arith, lt)
up_behind Summed i j lt = omega (arith, lt)

pub behind_used : (l : Layout) (count j i : ℕ) → min (count - fan_out l * j) (fan_out l) ≤ i → i < fan_out l → count ≤ fan_out l * j + i
behind_used Plain count j i past lt = omega (arith, past, lt)
behind_used Summed count j i past lt = omega (arith, past, lt)

-- ---- nodes

-- a hole, in any case
pub hole_either : (i n : ℕ) (p : Pointer) → p ≡ Hole → (if nat_lt i n then p else Hole) ≡ Hole
hole_either i n p is = elim (cases_lt i n) [
  | inl lt ↦ sym (cond_below i n p Hole lt) ∙ is
  | inr ge ↦ sym (cond_above i n p Hole Hole ge refl)
]

pub is_in_group : (n : Nodes) (m j i : ℕ) → i < fan_out n.layout → in_group n m j i ≡ node n m (fan_out n.layout * j + i)
is_in_group n m j i lt = sym (cond_below i (fan_out n.layout) (node n m (fan_out n.layout * j + i)) Hole lt)

pub behind_group : (n : Nodes) (m j i : ℕ) → fan_out n.layout ≤ i → in_group n m j i ≡ Hole
behind_group n m j i ge = sym (cond_above i (fan_out n.layout) (node n m (fan_out n.layout * j + i)) Hole Hole ge refl)

-- nodes as a map of places has them
pub group_is : (n : Nodes) (p : PlaceMap) (m : ℕ) → p.layout ≡ n.layout → ((k : ℕ) → place_at p k ≡ node n m k) → (j i : ℕ) → group p j i ≡ in_group n m j i
group_is n p m same is j i =
    ap (λ (l : Layout). if nat_lt i (fan_out l) then place_at p (fan_out l * j + i) else Hole) same
    ∙ ap (λ (q : Pointer). if nat_lt i (fan_out n.layout) then q else Hole) (is (fan_out n.layout * j + i))

-- and as others have them
pub group_same : (a b : Nodes) (m j : ℕ) → a.layout ≡ b.layout → ((i : ℕ) → i < fan_out b.layout → node a m (fan_out b.layout * j + i) ≡ node b m (fan_out b.layout * j + i)) → (i : ℕ) → in_group a m j i ≡ in_group b m j i
group_same a b m j same is i =
    ap (λ (l : Layout). if nat_lt i (fan_out l) then node a m (fan_out l * j + i) else Hole) same
    ∙ elim (cases_lt i (fan_out b.layout)) [
      | inl lt ↦ sym (cond_below i (fan_out b.layout) (node a m (fan_out b.layout * j + i)) Hole lt) ∙ is i lt ∙ sym (is_in_group b m j i lt)
      | inr ge ↦ sym (cond_above i (fan_out b.layout) (node a m (fan_out b.layout * j + i)) Hole Hole ge refl) ∙ sym (behind_group b m j i ge)
    ]

-- a group of holes
pub group_none : (n : Nodes) (m j : ℕ) → IsEmptyGroup n m j → (i : ℕ) → in_group n m j i ≡ Hole
group_none n m j holes i = elim (cases_lt i (fan_out n.layout)) [
  | inl lt ↦ is_in_group n m j i lt ∙ holes i lt
  | inr ge ↦ behind_group n m j i ge
]

pub none_group : (n : Nodes) (m j : ℕ) → ((i : ℕ) → i < BLOCK_POINTERS → in_group n m j i ≡ Hole) → IsEmptyGroup n m j
none_group n m j holes i lt = sym (is_in_group n m j i lt) ∙ holes i (fan_most n.layout i lt)

-- under a settled node
pub under_low : (n : Nodes) (m j i : ℕ) → suc m < height_of n → under n m j i ≡ in_group n m j i
under_low n m j i deep = sym (cond_below (suc m) (height_of n) (in_group n m j i) Hole deep)

pub under_high : (n : Nodes) (m j i : ℕ) → height_of n ≤ suc m → under n m j i ≡ Hole
under_high n m j i ge = sym (cond_above (suc m) (height_of n) (in_group n m j i) Hole Hole ge refl)
