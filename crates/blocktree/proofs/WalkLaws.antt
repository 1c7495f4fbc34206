-- Nodes under one indirect block more, at each fan-out.
use Rattle.std.proofs.Common.{◌≡◌, inl, inr, ℕ, zero, suc, ◌+◌, ◌-◌, ◌*◌, ◌/◌, ◌%◌, ◌^◌, ◌<◌, ◌≤◌, List, ap, min, sym, subst, ◌∙◌, arith}
use Rattle.std.proofs.lemmas.Bool.{cases_lt, cases_eq}
use Rattle.std.proofs.Math.Nat.{pow-zero}
use Rattle.std.specs.Int.{div_ceil}
use Rattle.layout.specs.Maps.{indirect_pointer, IsIndirectBlock}
use Rattle.layout.specs.Pointer.{PointsBelow}
use Rattle.layout.specs.Trees.{fan_out}
use Rattle.layout.specs.declared.trees.Layout.{Layout}
use Rattle.layout.specs.declared.pointer.Pointer.{Pointer}
use Rattle.layout.specs.declared.pointer.Pointer.TheVariants.{Hole, Block}
use Rattle.blocktree.specs.PlaceMaps.{place_at}
use Rattle.blocktree.specs.Places.{follow, place, IsStoredNode, IsPath}
use Rattle.layout.proofs.FanLaws.{up_from, up_below, up_is, node_is, pointer_within, first_of, group_low, fan_most}
use Rattle.blocktree.proofs.PlaceLaws.{node_of_path}
use Rattle.blocktree.specs.declared.place_map.PlaceMap.{PlaceMap}

-- no node is stored from one index on and before another
abbrev pub Gap : PlaceMap → ℕ → ℕ → Type 0
Gap p from to = (k : ℕ) → from ≤ k → k < to → place_at p k ≡ Hole

-- node i is what the one above it says
abbrev pub Follows : Layout → (ℕ → List ℕ) → PlaceMap → PlaceMap → ℕ → Type 0
Follows l disk above places i = place_at places i ≡ follow disk (place_at above (i / fan_out l)) (i % fan_out l)

-- under no node stands none
pub under_gap : (l : Layout) (disk : ℕ → List ℕ) (above places : PlaceMap) (from to i : ℕ) → Gap above from to → fan_out l * from ≤ i → i < fan_out l * to → place_at places i ≡ Hole → Follows l disk above places i
under_gap l disk above places from to i gap low high hole =
    hole ∙ ap (λ (p : Pointer). follow disk p (i % fan_out l)) (sym (gap (i / fan_out l) (up_from l from i low) (up_below l i to high)))

pub follows_more : (l : Layout) (disk : ℕ → List ℕ) (above old new : PlaceMap) (count from j node : ℕ) → from ≤ j → Gap above from j → place_at above j ≡ Block node
    → ((i : ℕ) → fan_out l * from ≤ i → place_at old i ≡ Hole) → ((i : ℕ) → i < fan_out l * from → i < count → Follows l disk above old i)
    → ((i : ℕ) → i < fan_out l * j → place_at new i ≡ place_at old i) → ((r : ℕ) → r < fan_out l → place_at new (fan_out l * j + r) ≡ indirect_pointer (disk node) r)
    → (i : ℕ) → i < fan_out l * (j + 1) → i < count → Follows l disk above new i
follows_more l disk above old new count from j node le gap there behind so_far before group i high low = elim (cases_lt i (fan_out l * j)) [
  | inl early ↦ before i early ∙ elim (cases_lt i (fan_out l * from)) [
    | inl done ↦ so_far i done low
    | inr more ↦ under_gap l disk above old from j i gap more early (behind i more)
  ]
  | inr late ↦
      let up : i / fan_out l ≡ j = up_is l i j late high in
      let at : i ≡ fan_out l * j + i % fan_out l = node_is l i j up in
      ap (λ (k : ℕ). place_at new k) at ∙ group (i % fan_out l) (pointer_within l i)
      ∙ ap (λ (p : Pointer). follow disk p (i % fan_out l)) (sym there) ∙ ap (λ (k : ℕ). follow disk (place_at above k) (i % fan_out l)) (sym up)
]

pub follows_all : (l : Layout) (disk : ℕ → List ℕ) (above places : PlaceMap) (count from groups : ℕ) → count ≤ fan_out l * groups → Gap above from groups
    → ((i : ℕ) → fan_out l * from ≤ i → place_at places i ≡ Hole) → ((i : ℕ) → i < fan_out l * from → i < count → Follows l disk above places i)
    → (i : ℕ) → i < count → Follows l disk above places i
follows_all l disk above places count from groups all gap behind so_far i low = elim (cases_lt i (fan_out l * from)) [
  | inl done ↦ so_far i done low
  | inr more ↦ under_gap l disk above places from groups i gap more (omega (arith, low, all)) (behind i more)
]

-- the indirect blocks of nodes are in the grammar
abbrev pub SoundNode : Layout → ℕ → (ℕ → List ℕ) → PlaceMap → ℕ → ℕ → Type 0
SoundNode l blocks disk above count j = IsStoredNode l blocks disk (count - fan_out l * j) (place_at above j)

pub gap_sound : (l : Layout) (blocks : ℕ) (disk : ℕ → List ℕ) (above : PlaceMap) (count j : ℕ) → place_at above j ≡ Hole → SoundNode l blocks disk above count j
gap_sound l blocks disk above count j hole = subst (λ (p : Pointer). IsStoredNode l blocks disk (count - fan_out l * j) p) (sym hole) tt

pub sound_more : (l : Layout) (blocks : ℕ) (disk : ℕ → List ℕ) (above : PlaceMap) (count from j node : ℕ) → Gap above from j → place_at above j ≡ Block node
    → ((k : ℕ) → k < from → SoundNode l blocks disk above count k) → IsIndirectBlock l blocks (count - fan_out l * j) (disk node) → (k : ℕ) → k < j + 1 → SoundNode l blocks disk above count k
sound_more l blocks disk above count from j node gap there so_far here k lt = elim (cases_lt k from) [
  | inl done ↦ so_far k done
  | inr more ↦ elim (cases_eq k j) [
    | inl e ↦ subst (λ (n : ℕ). SoundNode l blocks disk above count n) (sym e) (subst (λ (p : Pointer). IsStoredNode l blocks disk (count - fan_out l * j) p) (sym there) here)
    | inr n ↦ gap_sound l blocks disk above count k (gap k more (omega (arith, lt, n)))
  ]
]

pub sound_all : (l : Layout) (blocks : ℕ) (disk : ℕ → List ℕ) (above : PlaceMap) (count from groups : ℕ) → Gap above from groups
    → ((k : ℕ) → k < from → SoundNode l blocks disk above count k) → (k : ℕ) → k < groups → SoundNode l blocks disk above count k
sound_all l blocks disk above count from groups gap so_far k lt = elim (cases_lt k from) [
  | inl done ↦ so_far k done
  | inr more ↦ gap_sound l blocks disk above count k (gap k more lt)
]

-- a node is an indirect block in its grammar
pub node_block : (l : Layout) (blocks : ℕ) (disk : ℕ → List ℕ) (above : PlaceMap) (count j node : ℕ) → place_at above j ≡ Block node → SoundNode l blocks disk above count j → IsIndirectBlock l blocks (count - fan_out l * j) (disk node)
node_block l blocks disk above count j node there sound = subst (λ (p : Pointer). IsStoredNode l blocks disk (count - fan_out l * j) p) there sound

-- where a group of pointers is put, all stays on the disk, and ends where it has to
pub below_more : (l : Layout) (blocks count j : ℕ) (bytes : List ℕ) (old new : PlaceMap) → IsIndirectBlock l blocks (count - fan_out l * j) bytes → ((i : ℕ) → PointsBelow blocks (place_at old i))
    → ((i : ℕ) → i < fan_out l * j → place_at new i ≡ place_at old i) → ((r : ℕ) → r < fan_out l → place_at new (fan_out l * j + r) ≡ indirect_pointer bytes r)
    → ((i : ℕ) → fan_out l * j + fan_out l ≤ i → place_at new i ≡ Hole) → (i : ℕ) → PointsBelow blocks (place_at new i)
below_more l blocks count j bytes old new sound was before group behind i = elim (cases_lt i (fan_out l * j)) [
  | inl early ↦ subst (PointsBelow blocks) (sym (before i early)) (was i)
  | inr late ↦ elim (cases_lt i (fan_out l * j + fan_out l)) [
    | inl here ↦
        let at : fan_out l * j + (i - fan_out l * j) ≡ i = omega (arith, late) in
        let small : i - fan_out l * j < fan_out l = omega (arith, here, late) in
        let most : i - fan_out l * j < 1024 = omega (arith, small, fan_most l) in
        subst (λ (k : ℕ). PointsBelow blocks (place_at new k)) at (subst (PointsBelow blocks) (sym (group (i - fan_out l * j) small)) ((sound.within (i - fan_out l * j) most).0))
    | inr past ↦ subst (PointsBelow blocks) (sym (behind i past)) tt
  ]
]

pub ends_more : (l : Layout) (blocks count j : ℕ) (bytes : List ℕ) (new : PlaceMap) → IsIndirectBlock l blocks (count - fan_out l * j) bytes → fan_out l * j < count
    → ((r : ℕ) → r < fan_out l → place_at new (fan_out l * j + r) ≡ indirect_pointer bytes r)
    → ((i : ℕ) → fan_out l * j + fan_out l ≤ i → place_at new i ≡ Hole) → (i : ℕ) → count ≤ i → place_at new i ≡ Hole
ends_more l blocks count j bytes new sound low group behind i past = elim (cases_lt i (fan_out l * j + fan_out l)) [
  | inl here ↦
      let at : i ≡ fan_out l * j + (i - fan_out l * j) = omega (arith, low, past) in
      let small : i - fan_out l * j < fan_out l = omega (arith, here, low, past) in
      let most : i - fan_out l * j < 1024 = omega (arith, small, fan_most l) in
      let least : min (count - fan_out l * j) (fan_out l) ≤ i - fan_out l * j = omega (arith, past) in
      ap (λ (k : ℕ). place_at new k) at ∙ group (i - fan_out l * j) small ∙ (sound.within (i - fan_out l * j) most).1 least
  | inr more ↦ behind i more
]

-- ---- the way up

pub own_count : (l : Layout) (depth count : ℕ) → depth ≡ 0 → count ≤ 16 * fan_out l ^ depth → count ≤ 16
own_count l zero count e le = let one : fan_out l ^ 0 ≡ 1 = pow-zero (fan_out l) in omega arith
own_count l (suc depth) count e le = absurd (omega arith)

-- where each node's way is in the grammar, so is the indirect block over a group
pub node_over : (l : Layout) (blocks n : ℕ) (disk : ℕ → List ℕ) (pointers : List Pointer) (depth count j : ℕ) (above : PlaceMap) → n ≡ blocks → (depth ≡ 0 → ⊥) → j < div_ceil count (fan_out l)
    → place_at above j ≡ place l disk pointers (depth - 1) j → ((i : ℕ) → i < count → IsPath l blocks disk pointers depth count i) → IsStoredNode l n disk (count - fan_out l * j) (place_at above j)
node_over l blocks n disk pointers depth count j above same some lt is paths =
    let first : fan_out l * j < count = group_low l count j lt in
    let back : j ≡ fan_out l * j / fan_out l = sym (first_of l j) in
    node_of_path l blocks n (count - fan_out l * j) j disk pointers depth count (fan_out l * j) (place_at above j) same (ap (λ (k : ℕ). count - fan_out l * k) back) back some
    is (paths (fan_out l * j) first)
