-- What hangs from an inode.
use Rattle.std.proofs.Common.{◌≡◌, ℕ, zero, suc, ◌-◌, ◌<◌, ◌≤◌, List, All, drop, get_or-drop, refl, ap, ◌+◌, ◌∙◌, arith}
use Rattle.std.proofs.lemmas.Bool.Decides.{nat_tests}
use Rattle.std.specs.Int.{div_ceil}
use Rattle.std.proofs.lemmas.List.Elements.{All-from_get_or}
use Rattle.layout.specs.Trees.{fan_out, greatest_size, level_of}
use Rattle.layout.specs.declared.trees.Layout.{Layout}
use Rattle.layout.specs.declared.trees.Layout.TheVariants.{Plain, Summed}
use Rattle.layout.specs.declared.pointer.Pointer.{Pointer}
use Rattle.layout.specs.declared.pointer.Pointer.TheVariants.{Hole}
use Rattle.images.specs.Soundness as images
use Rattle.blocktree.specs.Names.{nodes_at}
use Rattle.blocktree.specs.Places.{block_count}
use Rattle.conspoint.specs.Groups.{pointer_at}
use Rattle.placement.proofs.FanLemmas.{groups_fall}

pub not_inline : (l : Layout) (size top : ℕ) → level_of l size ≡ suc top → 128 < size
not_inline l size top level = grind (arith, nat_tests)

pub is_inline : (l : Layout) (size : ℕ) → level_of l size ≡ 0 → size ≤ 128
is_inline l size level = grind (arith, nat_tests)

pub used_holes : (xs : List Pointer) (n : ℕ) → ((i : ℕ) → n ≤ i → pointer_at xs i ≡ Hole) → All (λ p. p ≡ Hole) (drop n xs)
used_holes xs n holes = All-from_get_or (λ p. p ≡ Hole) (drop n xs) Hole (λ i lt. get_or-drop n xs i Hole ∙ holes (n + i) (omega arith))

-- as many nodes by the size of a file as by its blocks
pub nodes_same : (l : Layout) (size m : ℕ) → images.nodes_of_size l size m ≡ nodes_at l (block_count size) m
unfolding nodes_at images.nodes_of_size
nodes_same l size zero = refl
nodes_same l size (suc m) = ap (λ (n : ℕ). div_ceil n (fan_out l)) (nodes_same l size m)

-- the lowest nodes are the blocks
pub first_nodes : (l : Layout) (count : ℕ) → nodes_at l count 0 ≡ count
unfolding nodes_at
first_nodes l count = refl

-- of no blocks there are no nodes
none_over : (l : Layout) → div_ceil 0 (fan_out l) ≡ 0
none_over Plain = refl
none_over Summed = refl

pub no_nodes : (l : Layout) (count m : ℕ) → count ≡ 0 → nodes_at l count m ≡ 0
unfolding nodes_at
no_nodes l count zero none = none
no_nodes l count (suc m) none = ap (λ (n : ℕ). div_ceil n (fan_out l)) (no_nodes l count m none) ∙ none_over l

-- no more nodes than blocks
pub nodes_fall : (l : Layout) (count m : ℕ) → nodes_at l count m ≤ count
unfolding nodes_at
nodes_fall l count zero = omega arith
nodes_fall l count (suc m) = omega (arith, nodes_fall l count m, groups_fall l (nodes_at l count m))

-- an inode has room for the pointers to the highest nodes
pub top_few : (l : Layout) (size top : ℕ) → size ≤ greatest_size l → level_of l size ≡ suc top → nodes_at l (block_count size) top ≤ 16
unfolding nodes_at
top_few l size zero most level = (let low : size ≤ 65536 = grind (arith, nat_tests, level) in omega (arith, low))
top_few Plain size (suc zero) most level = (let low : size ≤ 67108864 = grind (arith, nat_tests, level) in omega (arith, low))
top_few Plain size (suc (suc zero)) most level = omega (arith, most)
top_few Plain size (suc (suc (suc top))) most level = absurd (let few : level_of Plain size ≤ 3 = grind (arith, nat_tests, most) in omega (arith, few, level))
top_few Summed size (suc zero) most level = (let low : size ≤ 33554432 = grind (arith, nat_tests, level) in omega (arith, low))
top_few Summed size (suc (suc zero)) most level = (let low : size ≤ 17179869184 = grind (arith, nat_tests, level) in omega (arith, low))
top_few Summed size (suc (suc (suc zero))) most level = omega (arith, most)
top_few Summed size (suc (suc (suc (suc top)))) most level = absurd (let few : level_of Summed size ≤ 4 = grind (arith, nat_tests) in omega (arith, few, level))

-- a file at a level
pub top_of : (l : Layout) (size : ℕ) → 1 ≤ level_of l size → level_of l size ≡ suc (level_of l size - 1)
top_of l size some = omega (arith, some)
