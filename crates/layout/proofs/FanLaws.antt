-- Steps between a node and the one above it, at each fan-out.
use Rattle.std.proofs.Common.{◌≡◌, ℕ, ◌+◌, ◌*◌, ◌/◌, ◌%◌, ◌<◌, ◌≤◌, arith}
use Rattle.std.specs.Int.{div_ceil}
use Rattle.layout.specs.Trees.{fan_out}
use Rattle.layout.specs.declared.trees.Layout.{Layout}
use Rattle.layout.specs.declared.trees.Layout.TheVariants.{Plain, Summed}

pub up_low : (l : Layout) (from i : ℕ) → from ≤ i → from / fan_out l ≤ i / fan_out l
up_low Plain from i le = omega (arith, le)
up_low Summed from i le = omega (arith, le)

pub up_from : (l : Layout) (from i : ℕ) → fan_out l * from ≤ i → from ≤ i / fan_out l
up_from Plain from i le = omega (arith, le)
up_from Summed from i le = omega (arith, le)

pub up_below : (l : Layout) (i to : ℕ) → i < fan_out l * to → i / fan_out l < to
up_below Plain i to lt = omega (arith, lt)
up_below Summed i to lt = omega (arith, lt)

pub up_within : (l : Layout) (i count : ℕ) → i < count → i / fan_out l < div_ceil count (fan_out l)
up_within Plain i count lt = omega (arith, lt)
up_within Summed i count lt = omega (arith, lt)

pub up_is : (l : Layout) (i j : ℕ) → fan_out l * j ≤ i → i < fan_out l * (j + 1) → i / fan_out l ≡ j
up_is Plain i j le lt = omega (arith, le, lt)
up_is Summed i j le lt = omega (arith, le, lt)

pub node_is : (l : Layout) (i j : ℕ) → i / fan_out l ≡ j → i ≡ fan_out l * j + i % fan_out l
node_is Plain i j up = omega (arith, up)
node_is Summed i j up = omega (arith, up)

pub pointer_within : (l : Layout) (i : ℕ) → i % fan_out l < fan_out l
pointer_within Plain i = omega arith
pointer_within Summed i = omega arith

pub up_back : (l : Layout) (j r : ℕ) → r < fan_out l → (fan_out l * j + r) / fan_out l ≡ j
up_back Plain j r lt = omega (arith, lt)
up_back Summed j r lt = omega (arith, lt)

pub pointer_back : (l : Layout) (j r : ℕ) → r < fan_out l → (fan_out l * j + r) % fan_out l ≡ r
pointer_back Plain j r lt = omega (arith, lt)
pointer_back Summed j r lt = omega (arith, lt)

pub first_of : (l : Layout) (j : ℕ) → fan_out l * j / fan_out l ≡ j
first_of Plain j = omega arith
first_of Summed j = omega arith

pub group_low : (l : Layout) (count j : ℕ) → j < div_ceil count (fan_out l) → fan_out l * j < count
group_low Plain count j lt = omega (arith, lt)
group_low Summed count j lt = omega (arith, lt)

pub groups_all : (l : Layout) (count : ℕ) → count ≤ fan_out l * div_ceil count (fan_out l)
groups_all Plain count = omega arith
groups_all Summed count = omega arith

pub fewer : (l : Layout) (m count : ℕ) → count ≤ 16 * (fan_out l * m) → div_ceil count (fan_out l) ≤ 16 * m
fewer Plain m count le = omega (arith, le)
fewer Summed m count le = omega (arith, le)

-- a block has place for each pointer
pub fan_most : (l : Layout) → fan_out l ≤ 1024
fan_most Plain = omega arith
fan_most Summed = omega arith

pub pointer_low : (l : Layout) (i : ℕ) → i % fan_out l < 1024
pointer_low Plain i = omega arith
pointer_low Summed i = omega arith
