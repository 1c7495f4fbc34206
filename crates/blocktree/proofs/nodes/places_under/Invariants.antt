use Rattle.std.proofs.Common.{◌≡◌, ℕ, ◌-◌, ◌*◌, ◌<◌, ◌≤◌, List}
use Rattle.buffers.specs.Reads.{HasOnlyRead}
use Rattle.layout.specs.Trees.{fan_out}
use Rattle.blocktree.specs.PlaceMaps.{AreBelow, EndBefore}
use Rattle.blocktree.proofs.WalkLaws.{Follows, SoundNode}
use Rattle.blocktree.proofs.nodes.places_under.Given as goal

abbrev pub invariant-loop-node : goal.invariant-loop-node
invariant-loop-node g l = record {
  read : HasOnlyRead g.B.Blocks l.initial.blocks l.blocks;
  layout : l.places.layout ≡ l.layout;
  low : l.from ≤ l.groups;
  within : AreBelow (g.B.Blocks.count l.initial.blocks) l.places;
  behind : EndBefore (fan_out l.layout * l.from) l.places;
  end : EndBefore l.count l.places;
  nodes : (disk : ℕ → List ℕ) → g.B.Blocks.Shows l.initial.blocks disk → (i : ℕ) → i < fan_out l.layout * l.from → i < l.count → Follows l.layout disk l.above l.places i;
  sound : (disk : ℕ → List ℕ) → g.B.Blocks.Shows l.initial.blocks disk → (k : ℕ) → k < l.from → SoundNode l.layout (g.B.Blocks.count l.initial.blocks) disk l.above l.count k;
}

abbrev pub decreases-loop-node : goal.decreases-loop-node
decreases-loop-node g l = l.groups - l.from
