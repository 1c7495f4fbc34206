use Rattle.std.proofs.Common.{◌≡◌, ℕ, ◌-◌, ◌<◌, ◌≤◌, Ok}
use Rattle.layout.specs.declared.pointer.Pointer.TheVariants.{Hole}
use Rattle.blocktree.specs.Names.{nodes_at}
use Rattle.blocktree.specs.PlaceMaps.{place_at}
use Rattle.conspoint.specs.Drafts.{OnEach}
use Rattle.placement.specs.Layouts.{StandOver}
use Rattle.placement.specs.Nodes.{AreAlike, ArePlacedIn, height_of, node}
use Rattle.placement.specs.Steps.{PlacesHeights}
use Rattle.placement.proofs.RaiseLaws.{IsStill}
use Rattle.placement.proofs.raising.raise_all.Given as goal

abbrev pub invariant-loop-height : goal.invariant-loop-height
invariant-loop-height l = record {
  step : PlacesHeights {T = Unit {0}} l.count l.height l.settled l.fn.lowest l.fn.draft l.draft (Ok tt);
  layout : l.nodes.layout ≡ l.settled.layout;
  alike : AreAlike l.nodes;
  heights : height_of l.nodes ≡ l.height;
  groups : l.groups ≡ nodes_at l.settled.layout l.count (l.height - 1);
  few : l.groups ≤ l.count;
  lowest : (i : ℕ) → node l.nodes 0 i ≡ place_at l.fn.lowest i;
  end : (m i : ℕ) → nodes_at l.settled.layout l.count m ≤ i → node l.nodes m i ≡ Hole;
  over : OnEach l.draft (λ e. StandOver e l.settled l.nodes);
  still : (h j : ℕ) → h < l.height → IsStill l.settled l.fn.lowest h j (node l.nodes h j);
  placed : ArePlacedIn 1 l.height l.fn.draft l.draft l.settled l.nodes;
}
