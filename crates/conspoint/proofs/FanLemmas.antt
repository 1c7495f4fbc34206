-- The nodes of a group among all, at each fan-out.
use Rattle.std.proofs.Common.{◌≡◌, ℕ, ◌+◌, ◌*◌, ◌/◌, ◌<◌, ◌≤◌, subst, sym, arith}
use Rattle.layout.specs.Trees.{fan_out}
use Rattle.layout.specs.declared.trees.Layout.{Layout}
use Rattle.layout.specs.declared.trees.Layout.TheVariants.{Plain, Summed}
use Rattle.layout.proofs.FanLaws.{up_below, up_from}

-- one of the groups from one on stands behind its first node
pub node_from : (l : Layout) (from k i : ℕ) → from ≤ k → fan_out l * from ≤ fan_out l * k + i
node_from Plain from k i le = omega (arith, le)
node_from Summed from k i le = omega (arith, le)

-- and one of those before another before its first node
pub node_before : (l : Layout) (k i to : ℕ) → k < to → i < fan_out l → fan_out l * k + i < fan_out l * to
node_before Plain k i to lt low = omega (arith, lt, low)
node_before Summed k i to lt low = omega (arith, lt, low)

-- so does one of a group before the one of this node
pub node_below : (l : Layout) (k i index : ℕ) → k < index / fan_out l → i < fan_out l → fan_out l * k + i < index
node_below Plain k i index lt low = omega (arith, lt, low)
node_below Summed k i index lt low = omega (arith, lt, low)

-- the group of a node
pub group_of : (l : Layout) (fan from to index : ℕ) → fan ≡ fan_out l → fan * from ≤ index → index < fan * to → (from ≤ index / fan) × (index / fan < to)
group_of l fan from to index is = subst (λ (f : ℕ). f * from ≤ index → index < f * to → (from ≤ index / f) × (index / f < to)) (sym is) (λ low high. (up_from l from index low, up_below l index to high))
