-- How many nodes stand at a height, and that their ways are parts of those to the blocks, at each
-- fan-out.
use Rattle.std.proofs.Common.{◌≡◌, ℕ, zero, suc, ◌-◌, ◌*◌, ◌^◌, ◌<◌, ◌≤◌, List, refl, subst, arith}
use Rattle.std.proofs.Math.Nat.{sub-zero}
use Rattle.std.specs.Int.{div_ceil}
use Rattle.layout.specs.Trees.{fan_out}
use Rattle.layout.specs.declared.trees.Layout.{Layout}
use Rattle.layout.specs.declared.pointer.Pointer.{Pointer}
use Rattle.blocktree.specs.Names.{nodes_at}
use Rattle.blocktree.specs.Places.{IsPath}
use Rattle.blocktree.proofs.NameLaws.{paths_above, wide_above}

pub nodes_lowest : (l : Layout) (count height : ℕ) → height ≡ 0 → count ≡ nodes_at l count height
unfolding nodes_at
nodes_lowest l count zero e = refl
nodes_lowest l count (suc height) e = absurd (omega arith)

pub nodes_over : (l : Layout) (count height below wide : ℕ) → (height ≡ 0 → ⊥) → below ≡ nodes_at l count (height - 1) → wide ≡ div_ceil below (fan_out l) → wide ≡ nodes_at l count height
unfolding nodes_at
nodes_over l count zero below wide some is w = absurd (some refl)
nodes_over l count (suc height) below wide some is w =
    let one : suc height - 1 ≡ height = omega arith in
    let here : below ≡ nodes_at l count height = subst (λ (h : ℕ). below ≡ nodes_at l count h) one is in
    subst (λ (n : ℕ). wide ≡ div_ceil n (fan_out l)) here w

one_less : (depth height : ℕ) → suc height ≤ depth → depth - height - 1 ≡ depth - suc height
one_less depth height le = omega arith

some_left : (depth height : ℕ) → suc height ≤ depth → 0 < depth - height
some_left depth height le = omega arith

pub nodes_within : (l : Layout) (depth count height : ℕ) → height ≤ depth → count ≤ 16 * fan_out l ^ depth → nodes_at l count height ≤ 16 * fan_out l ^ (depth - height)
unfolding nodes_at
nodes_within l depth count zero le most = rw sub-zero most
nodes_within l depth count (suc height) le most =
    subst (λ (d : ℕ). div_ceil (nodes_at l count height) (fan_out l) ≤ 16 * fan_out l ^ d) (one_less depth height le)
    (wide_above l (depth - height) (nodes_at l count height) (div_ceil (nodes_at l count height) (fan_out l)) (some_left depth height le) refl (nodes_within l depth count height (omega arith) most))

pub nodes_paths : (l : Layout) (blocks : ℕ) (disk : ℕ → List ℕ) (pointers : List Pointer) (depth count height : ℕ) → height ≤ depth → ((i : ℕ) → i < count → IsPath l blocks disk pointers depth count i)
    → (i : ℕ) → i < nodes_at l count height → IsPath l blocks disk pointers (depth - height) (nodes_at l count height) i
unfolding nodes_at
nodes_paths l blocks disk pointers depth count zero le paths = rw sub-zero paths
nodes_paths l blocks disk pointers depth count (suc height) le paths =
    subst (λ (d : ℕ). (i : ℕ) → i < div_ceil (nodes_at l count height) (fan_out l) → IsPath l blocks disk pointers d (div_ceil (nodes_at l count height) (fan_out l)) i) (one_less depth height le)
    (paths_above l blocks blocks (div_ceil (nodes_at l count height) (fan_out l)) disk pointers (depth - height) (nodes_at l count height) refl refl (some_left depth height le) (nodes_paths l blocks disk pointers depth count height (omega arith) paths))
