-- How many nodes a file has at a height.
use Rattle.std.proofs.Common.{◌≡◌, ℕ, zero, suc, ◌-◌, refl, subst, arith}
use Rattle.std.specs.Int.{div_ceil}
use Rattle.layout.specs.Inode.{nodes_of_size}
use Rattle.layout.specs.Trees.{fan_out}
use Rattle.layout.specs.declared.trees.Layout.{Layout}

pub nodes_lowest : (layout : Layout) (size height n : ℕ) → height ≡ 0 → n ≡ div_ceil size 4096 → n ≡ nodes_of_size layout size height
unfolding nodes_of_size
nodes_lowest layout size zero n e is = is
nodes_lowest layout size (suc height) n e is = absurd (omega arith)

pub nodes_over : (layout : Layout) (size height below wide : ℕ) → (height ≡ 0 → ⊥) → below ≡ nodes_of_size layout size (height - 1) → wide ≡ div_ceil below (fan_out layout) → wide ≡ nodes_of_size layout size height
unfolding nodes_of_size
nodes_over layout size zero below wide some is w = absurd (some refl)
nodes_over layout size (suc height) below wide some is w =
    let one : suc height - 1 ≡ height = omega arith in
    let here : below ≡ nodes_of_size layout size height = subst (λ (h : ℕ). below ≡ nodes_of_size layout size h) one is in
    subst (λ (n : ℕ). wide ≡ div_ceil n (fan_out layout)) here w
