-- Further steps between a node and its group, at each fan-out.
use Rattle.std.proofs.Common.{◌≡◌, ℕ, ◌+◌, ◌-◌, ◌*◌, ◌/◌, ◌%◌, ◌^◌, ◌<◌, ◌≤◌, ◌∙◌, ap, arith}
use Rattle.std.specs.Int.{div_ceil}
use Rattle.layout.specs.Trees.{fan_out, greatest_size}
use Rattle.layout.specs.declared.trees.Layout.{Layout}
use Rattle.layout.specs.declared.trees.Layout.TheVariants.{Plain, Summed}

pub together : (l : Layout) (k i : ℕ) → k / fan_out l ≡ i / fan_out l → k % fan_out l ≡ i % fan_out l → k ≡ i
together Plain k i up part = omega (arith, up, part)
together Summed k i up part = omega (arith, up, part)

pub up_in : (l : Layout) (i j end : ℕ) → j ≤ i / fan_out l → i < fan_out l * j + end → end ≤ fan_out l → i / fan_out l ≡ j
up_in Plain i j end low high most = omega (arith, low, high, most)
up_in Summed i j end low high most = omega (arith, low, high, most)

pub part_low : (l : Layout) (from i j : ℕ) → i / fan_out l ≡ j → from ≤ i → from - fan_out l * j ≤ i % fan_out l
part_low Plain from i j up le = omega (arith, up, le)
part_low Summed from i j up le = omega (arith, up, le)

pub part_high : (l : Layout) (i j end : ℕ) → i / fan_out l ≡ j → i < fan_out l * j + end → i % fan_out l < end
part_high Plain i j end up lt = omega (arith, up, lt)
part_high Summed i j end up lt = omega (arith, up, lt)

pub part_within : (l : Layout) (i j count : ℕ) → i / fan_out l ≡ j → i < count → i % fan_out l < count - fan_out l * j
part_within Plain i j count up lt = omega (arith, up, lt)
part_within Summed i j count up lt = omega (arith, up, lt)

pub part_past : (l : Layout) (i j count : ℕ) → i / fan_out l ≡ j → count ≤ i → count - fan_out l * j ≤ i % fan_out l
part_past Plain i j count up le = omega (arith, up, le)
part_past Summed i j count up le = omega (arith, up, le)

pub from_in : (l : Layout) (from j : ℕ) → from / fan_out l ≤ j → from ≤ fan_out l * j + fan_out l
from_in Plain from j le = omega (arith, le)
from_in Summed from j le = omega (arith, le)

pub down_low : (l : Layout) (from i : ℕ) → from ≤ i / fan_out l → fan_out l * from ≤ i
down_low Plain from i le = omega (arith, le)
down_low Summed from i le = omega (arith, le)

pub behind_group : (l : Layout) (i j : ℕ) → fan_out l * j + fan_out l ≤ i → j < i / fan_out l
behind_group Plain i j le = omega (arith, le)
behind_group Summed i j le = omega (arith, le)

-- a number of nodes, told by a number that is the fan-out
pub wide_is : (count wide fan value : ℕ) → wide ≡ div_ceil count fan → fan ≡ value → wide ≡ div_ceil count value
wide_is count wide fan value is same = is ∙ ap (λ (f : ℕ). div_ceil count f) same

pub times : (l : Layout) (m i : ℕ) → i < 16 * (fan_out l * m) → i / fan_out l < 16 * m
times Plain m i lt = omega (arith, lt)
times Summed m i lt = omega (arith, lt)

-- the greatest size of any layout
pub size_fits : (l : Layout) (size : ℕ) → size ≤ greatest_size l → size ≤ 2 ^ 43
size_fits Plain size le = omega (arith, le)
size_fits Summed size le = omega (arith, le)
