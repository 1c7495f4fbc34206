use Rattle.std.proofs.Common.{◌≡◌, ℕ, ap, sym, ◌∙◌, arith}
use Rattle.std.specs.Prelude.{min, nat_lt, if◌then◌else◌}
use Rattle.layout.specs.Places.{pointed}
use Rattle.layout.specs.declared.geometry.TheConstants.{MOST_BLOCKS}
use Rattle.layout.specs.declared.pointer.Pointer.TheVariants.{Hole}
use Rattle.blocktree.specs.PlaceMaps.{place_at}
use Rattle.conspoint.specs.Blocks.{changed_or}
use Rattle.placement.specs.Nodes.{node}
use Rattle.placement.proofs.PlacedLaws.{kept_as, kept_below, kept_end, kept_first, kept_same, placed_at, wider}
use Rattle.placement.proofs.blocks.place_lowest.Goals as goal
use Rattle.placement.proofs.blocks.place_lowest.Goals.{In_ok-below}

-- the settled blocks that count still
below_is : (c : In_ok-below) → (i : ℕ) → place_at c.in_ok-below.below i ≡ (if nat_lt i (min c.args.tree.now.kept c.args.count) then node c.args.settled.now 0 i else Hole)
below_is c =
    kept_as (place_at c.height.result.now) (node c.args.settled.now 0) c.in_ok-below.below c.min-kept.result (min c.args.tree.now.kept c.args.count)
    (c.min-kept.ensures ∙ ap (λ (k : ℕ). min k c.args.count) c.kept.ensures.value) c.height.ensures.nodes c.in_ok-below.ensures.places

pub place_blocks-requires : goal.place_blocks-requires
place_blocks-requires c =
    let count = c.args.draft.now.map.count in
    let settled = node c.args.settled.now 0 in
    let below = c.in_ok-below.below in
    let kept = min c.args.tree.now.kept c.args.count in
    let each = below_is (goal.at.place_blocks-requires c).In_ok-below in
    record {
      within = wider count MOST_BLOCKS below c.args.draft.now.map.most (kept_below count settled below kept each (c.requires.settled 0));
      end = kept_end settled below kept c.args.count (omega arith) each;
    }

pub returns-clause-lowest : goal.returns-clause-lowest
returns-clause-lowest c =
    let t = c.args.tree.now in
    let settled = node c.args.settled.now 0 in
    let below = c.in_ok-below.below in
    let kept = min t.kept c.args.count in
    let each = below_is (goal.at.returns-clause-lowest c).In_ok-below in
    let blocks = c.in_ok-nodes.ensures in
    record {
      end = blocks.end;
      placed = placed_at c.args.draft.now c.place_blocks.new.draft settled below c.in_ok-nodes.nodes (kept_below c.args.draft.now.map.count settled below kept each (c.requires.settled 0))
          (kept_same settled below kept each) blocks.placed;
      blocks = λ e has i lt le. blocks.blocks e has i lt le ∙ ap (λ p. changed_or t i (pointed e p)) (kept_first settled below t.kept c.args.count i each lt);
      unchanged = λ i lt le not. blocks.unchanged i not ∙ kept_first settled below t.kept c.args.count i each lt;
      whole = blocks.whole;
    }

pub returns-clause-stored : goal.returns-clause-stored
returns-clause-stored c =
    let each = below_is (goal.at.returns-clause-stored c).In_ok-below in
    record {
      holes = λ i le lt hole. sym (kept_first (node c.args.settled.now 0) c.in_ok-below.below c.args.tree.now.kept c.args.count i each lt) ∙ c.in_ok-nodes.ensures.holes i hole;
      changed = λ i le lt changed. c.in_ok-nodes.ensures.stored i lt le changed;
    }

pub returns-clause-layout : goal.returns-clause-layout
returns-clause-layout c = c.in_ok-nodes.ensures.layout ∙ c.in_ok-below.ensures.layout ∙ c.height.ensures.layout c.requires.alike
