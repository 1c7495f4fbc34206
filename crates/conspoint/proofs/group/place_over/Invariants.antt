use Rattle.std.proofs.Common.{◌≡◌, ℕ, ◌-◌, ◌<◌, ◌≤◌, Ok}
use Rattle.images.specs.Sums.{sum_below}
use Rattle.blocktree.specs.PlaceMaps.{EndBefore, place_at}
use Rattle.conspoint.specs.Drafts.{OnEach}
use Rattle.conspoint.specs.Groups.{group, IsGroup, Follows, ArePlaced}
use Rattle.conspoint.specs.Space.{CountsGroups}
use Rattle.conspoint.specs.Steps.{Places}
use Rattle.conspoint.proofs.group.place_over.Given as goal

abbrev pub invariant-loop-j : goal.invariant-loop-j
invariant-loop-j l = record {
  low : l.from ≤ l.groups;
  step : (w : ℕ → ℕ) → CountsGroups w l.groups (group l.old) (group l.new) → Places {T = Unit {0}} (sum_below w l.from) l.fn.draft l.draft (Ok tt);
  layout : l.over.layout ≡ l.layout;
  behind : EndBefore l.from l.over;
  groups : OnEach l.draft (λ e. (j : ℕ) → j < l.from → IsGroup e (place_at l.settled j) (group l.old j) (group l.new j) (place_at l.over j));
  follows : (j : ℕ) → j < l.from → Follows (place_at l.settled j) (group l.old j) (group l.new j) (place_at l.over j);
  placed : ArePlaced l.fn.draft l.draft l.settled l.over;
}

abbrev pub decreases-loop-j : goal.decreases-loop-j
decreases-loop-j l = l.groups - l.from
