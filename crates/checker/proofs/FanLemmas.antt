-- A group of nodes under one, at each fan-out.
use Rattle.std.proofs.Common.{◌≡◌, ℕ, ◌+◌, ◌*◌, ◌/◌, ◌<◌, ◌≤◌, arith}
use Rattle.layout.specs.Trees.{fan_out}
use Rattle.layout.specs.declared.trees.Layout.{Layout}
use Rattle.layout.specs.declared.trees.Layout.TheVariants.{Plain, Summed}

-- it ends where the next one starts
pub group_up : (l : Layout) (i j : ℕ) → fan_out l * j ≤ i → i < fan_out l * j + fan_out l → i / fan_out l ≡ j
group_up Plain i j le lt = omega (arith, le, lt)
group_up Summed i j le lt = omega (arith, le, lt)

pub group_from : (l : Layout) (i j : ℕ) → i / fan_out l ≡ j → fan_out l * j ≤ i
group_from Plain i j is = omega (arith, is)
group_from Summed i j is = omega (arith, is)

pub group_to : (l : Layout) (i j : ℕ) → i / fan_out l ≡ j → i < fan_out l * j + fan_out l
group_to Plain i j is = omega (arith, is)
group_to Summed i j is = omega (arith, is)

-- a block has place for each pointer
pub fan_low : (l : Layout) → fan_out l ≤ 1024
fan_low Plain = omega arith
fan_low Summed = omega arith
