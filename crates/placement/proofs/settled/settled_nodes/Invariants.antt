use Rattle.std.proofs.Common.{◌≡◌, ℕ, suc, ◌-◌, ◌<◌, ◌≤◌, List}
use Rattle.layout.specs.Places.{place}
use Rattle.layout.specs.declared.pointer.Pointer.TheVariants.{Hole}
use Rattle.buffers.specs.Reads.{HasOnlyRead}
use Rattle.blocktree.specs.Names.{nodes_at}
use Rattle.placement.specs.Nodes.{AreAlike, AreWithin, IsEmptyGroup, height_of, node}
use Rattle.placement.proofs.settled.settled_nodes.Given as goal

abbrev pub invariant-loop-height : goal.invariant-loop-height
invariant-loop-height g l = record {
  read : HasOnlyRead g.B.Blocks l.initial.blocks l.blocks;
  layout : l.nodes.layout ≡ l.tree.layout;
  alike : AreAlike l.nodes;
  count : height_of l.nodes ≡ l.height;
  within : AreWithin (g.B.Blocks.count l.initial.blocks) l.nodes;
  end : (m i : ℕ) → nodes_at l.tree.layout l.tree.count m ≤ i → node l.nodes m i ≡ Hole;
  full : (m j : ℕ) → suc m < l.height → IsEmptyGroup l.nodes m j → node l.nodes (suc m) j ≡ Hole;
  nodes : (disk : ℕ → List ℕ) → g.B.Blocks.Shows l.initial.blocks disk → (m i : ℕ) → m < l.height → i < nodes_at l.tree.layout l.tree.count m → node l.nodes m i ≡ place l.tree.layout disk l.tree.pointers (l.tree.depth - m) i;
}
