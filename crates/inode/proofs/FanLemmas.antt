-- What the two layouts have in common, and steps between a node and the one above it.
use Rattle.std.proofs.Common.{ℕ, ◌-◌, ◌*◌, ◌/◌, ◌%◌, ◌<◌, ◌≤◌, arith}
use Rattle.std.specs.Prelude.{min}
use Rattle.layout.specs.Trees.{fan_out, greatest_size}
use Rattle.layout.specs.declared.trees.Layout.{Layout}
use Rattle.layout.specs.declared.trees.Layout.TheVariants.{Plain, Summed}

-- and each allows that
pub greatest_least : (l : Layout) → 68719476736 ≤ greatest_size l
greatest_least Plain = omega arith
greatest_least Summed = omega arith

-- past so many nodes, the node above has no more pointers
pub past_used : (l : Layout) (count i : ℕ) → count ≤ i → min (count - fan_out l * (i / fan_out l)) (fan_out l) ≤ i % fan_out l
past_used Plain count i le = omega (arith, le)
past_used Summed count i le = omega (arith, le)
