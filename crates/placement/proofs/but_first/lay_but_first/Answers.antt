use Rattle.std.proofs.Common.{◌≤◌, ◌+◌, ℕ, Ok, Result, sym, subst, ◌∙◌, arith, rules}
use Rattle.blocktree.specs.PlaceMaps.{AreBelow, place_at}
use Rattle.blocktree.specs.Names.{nodes_at}
use Rattle.blocktree.specs.Places.{block_count}
use Rattle.conspoint.specs.Space.{block_stores, changed_blocks}
use Rattle.conspoint.specs.Steps.{Places}
use Rattle.conspoint.specs.declared.draft.Draft.{Draft}
use Rattle.conspoint.specs.declared.error.PlanError.{PlanError}
use Rattle.conspoint.proofs.StepLemmas.{places_err, places_ok, places_rise}
use Rattle.placement.specs.Files.{file_level, object_block, with_first}
use Rattle.placement.specs.Layouts.{AreLowest}
use Rattle.placement.specs.Nodes.{AreSettledIn}
use Rattle.placement.specs.Space.{first_stores, more_over}
use Rattle.placement.specs.Steps.{PlacesHeights}
use Rattle.placement.proofs.CostLaws.{changed_most, not_changed, one_added, placed_most, some_index, some_stored, with_one}
use Rattle.placement.proofs.LaidLaws.{laid_over}
use Rattle.placement.proofs.RaiseLaws.{ones, placed_heights}
use Rattle.placement.proofs.StandLaws.{blocks_are, first_is}
use Rattle.placement.proofs.but_first.lay_but_first.Goals as goal
use Rattle.placement.proofs.but_first.lay_but_first.Goals.{In_ok-placed}

lowest_is : (c : In_ok-placed) → AreLowest 1 (block_count c.args.object.now.file.size) c.args.object.now.file.tree c.args.settled.now c.args.draft.now c.place_but_first.new.draft c.in_ok-placed.placed.0
lowest_is c = rw (c.tree.ensures, c.block_count-count.ensures) at c.in_ok-placed.ensures.lowest

pub lay_over-requires : goal.lay_over-requires
lay_over-requires c =
    let lowest = lowest_is (goal.at.lay_over-requires c).In_ok-placed in
    let count = sym c.in_ok-placed.ensures.step.grows.count in
    record {
      level = search rules;
      layout = c.requires.counted.layout;
      same = c.in_ok-placed.ensures.layout;
      end = lowest.end;
      blocks = subst (λ (n : ℕ). AreBelow n c.in_ok-placed.placed.0) count lowest.placed.within;
      settled = subst (λ (n : ℕ). AreSettledIn n c.args.settled.now) count c.requires.settled;
    }

pub returns-clause-reserved : goal.returns-clause-reserved
returns-clause-reserved c =
    let size = c.args.object.now.file.size in
    (placed_heights (block_count size) (file_level c.args.object.now.file) c.args.settled.now c.in_ok-placed.placed.0 c.in_ok-laid.ensures.step).others c.in_ok-placed.placed.1 c.in_ok-placed.ensures.reserved

pub returns-clause-laid : goal.returns-clause-laid
returns-clause-laid c =
    laid_over (lowest_is (goal.at.returns-clause-laid c).In_ok-placed) c.in_ok-laid.ensures.raised c.in_ok-placed.ensures.step.grows c.in_ok-laid.ensures.step (omega arith)
    (omega (arith, c.in_ok-laid.ensures.kept, c.kept_of-kept.ensures, c.block_count-count.ensures))

pub returns-clause-first : goal.returns-clause-first
returns-clause-first c = c.in_ok-laid.ensures.raised.lowest_are 0 ∙ c.in_ok-placed.ensures.first

pub returns-clause-whole : goal.returns-clause-whole
returns-clause-whole c = (lowest_is (goal.at.returns-clause-whole c).In_ok-placed).whole

pub returns-clause-stands : goal.returns-clause-stands
returns-clause-stands c = λ s disk base change known e has same.
    let o = c.args.object.now in
    let settled = c.args.settled.now in
    let nodes = c.in_ok-placed.placed.0 in
    let first = c.in_ok-placed.placed.1 in
    let over = placed_heights (block_count o.file.size) (file_level o.file) settled nodes c.in_ok-laid.ensures.step in
    c.in_ok-laid.ensures.stands s disk base (change.blocks ∙ sym c.in_ok-placed.ensures.step.grows.count) change.sound known e has same (with_first (e first) (object_block disk o))
    (first_is e (place_at nodes) first (object_block disk o) c.in_ok-placed.ensures.first
    (blocks_are disk e base o settled known same (lowest_is (goal.at.returns-clause-stands c).In_ok-placed) (over.grows.has e has)))

-- the blocks are placed before
most : {U : Type 0} {d : Draft} {r : Result U PlanError} (c : In_ok-placed)
    → PlacesHeights (block_count c.args.object.now.file.size) (file_level c.args.object.now.file) c.args.settled.now c.in_ok-placed.placed.0 c.place_but_first.new.draft d r
    → Places (first_stores c.args.object.now.file) c.args.draft.now d r
most c step =
    let file = c.args.object.now.file in
    let t = file.tree in
    let count = block_count file.size in
    let level : 1 ≤ file_level file = search rules in
    let stores = block_stores t 1 in
    let lowest : Places (changed_blocks t 1 count + 1) c.args.draft.now c.place_but_first.new.draft (Ok c.in_ok-placed.placed) = rw (c.tree.ensures, c.block_count-count.ensures) at c.in_ok-placed.ensures.step in
    let is = lowest_is c in
    placed_most (with_one stores) (λ j. 1) (changed_blocks t 1 count + 1) (nodes_at t.layout count 2) file c.args.settled.now c.in_ok-placed.placed.0 c.requires.counted is.end
    (λ i lt none. is.unchanged i lt (some_index stores i none) (not_changed t 1 i (some_index stores i none) (some_stored stores i none)))
    level (one_added stores count) (omega (arith, ones (nodes_at t.layout count 2))) (λ j high none. absurd (omega (arith, none))) lowest step

pub returns-clause-step : goal.returns-clause-step
returns-clause-step c = places_ok (most (goal.at.returns-clause-step c).In_ok-placed c.in_ok-laid.ensures.step)

pub returns-in_err-laid-clause-step : goal.returns-in_err-laid-clause-step
returns-in_err-laid-clause-step c =
    places_err c.from_residual-in_err-laid.result c.from_residual-in_err-laid.ensures.1 (most (goal.at.returns-in_err-laid-clause-step c).In_ok-placed c.in_err-laid.ensures.step)

pub returns-in_err-placed-clause-step : goal.returns-in_err-placed-clause-step
returns-in_err-placed-clause-step c =
    let file = c.args.object.now.file in
    let level : 1 ≤ file_level file = search rules in
    places_err c.from_residual.result c.from_residual.ensures.1
    (places_rise (rw (c.tree.ensures, c.block_count-count.ensures) at c.in_err-placed.ensures.step) (changed_most file.tree.layout (file_level file) (block_count file.size) (changed_blocks file.tree 1 (block_count file.size) + 1) (more_over file) (nodes_at file.tree.layout (block_count file.size) 2) level))
