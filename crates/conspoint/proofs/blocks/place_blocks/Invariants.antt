use Rattle.std.proofs.Common.{◌≡◌, ◌≢◌, ℕ, ◌-◌, ◌<◌, ◌≤◌, Ok}
use Rattle.std.specs.Prelude.{min}
use Rattle.layout.specs.Places.{pointed}
use Rattle.layout.specs.declared.pointer.Pointer.TheVariants.{Hole}
use Rattle.blocktree.specs.PlaceMaps.{EndBefore, place_at}
use Rattle.blocktree.specs.Trees.{IsChanged}
use Rattle.conspoint.specs.Blocks.{AreWholeOver, changed_or}
use Rattle.conspoint.specs.Drafts.{OnEach}
use Rattle.conspoint.specs.Groups.{ArePlaced}
use Rattle.conspoint.specs.Space.{changed_blocks}
use Rattle.conspoint.specs.Steps.{Places}
use Rattle.conspoint.proofs.blocks.place_blocks.Given as goal

abbrev pub invariant-loop-i : goal.invariant-loop-i
invariant-loop-i l = record {
  low : l.first ≤ l.from;
  step : Places {T = Unit {0}} (changed_blocks l.tree l.first (min l.from l.count)) l.fn.draft l.draft (Ok tt);
  layout : l.nodes.layout ≡ l.fn.settled.layout;
  end : EndBefore l.count l.nodes;
  before : (i : ℕ) → i < l.first → place_at l.nodes i ≡ place_at l.fn.settled i;
  holes : (i : ℕ) → place_at l.nodes i ≡ Hole → place_at l.fn.settled i ≡ Hole;
  stored : (i : ℕ) → i < l.from → l.first ≤ i → IsChanged l.tree i → place_at l.nodes i ≢ Hole;
  unchanged : (i : ℕ) → (IsChanged l.tree i → ⊥) → place_at l.nodes i ≡ place_at l.fn.settled i;
  blocks : OnEach l.draft (λ e. (i : ℕ) → i < l.from → l.first ≤ i → pointed e (place_at l.nodes i) ≡ changed_or l.tree i (pointed e (place_at l.fn.settled i)));
  whole : AreWholeOver l.tree l.first l.from;
  placed : ArePlaced l.fn.draft l.draft l.fn.settled l.nodes;
}

abbrev pub decreases-loop-i : goal.decreases-loop-i
decreases-loop-i l = l.count - l.from
