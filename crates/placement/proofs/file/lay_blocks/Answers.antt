use Rattle.std.proofs.Common.{◌≡◌, ℕ, ◌<◌, Ok, Result, refl, sym, subst, ◌∙◌, arith}
use Rattle.std.specs.Ordering.{nat_cmp}
use Rattle.std.specs.BTreeMap as tree
use Rattle.std.proofs.lemmas.Bool.{cond_above}
use Rattle.blocktree.specs.PlaceMaps.{AreBelow, place_at}
use Rattle.blocktree.specs.Places.{block_count}
use Rattle.blocktree.specs.Trees.{slot_stores}
use Rattle.conspoint.specs.Space.{block_stores, changed_blocks}
use Rattle.conspoint.specs.Steps.{Places}
use Rattle.conspoint.specs.declared.draft.Draft.{Draft}
use Rattle.conspoint.specs.declared.error.PlanError.{PlanError}
use Rattle.conspoint.proofs.StepLemmas.{places_err, places_ok, places_rise}
use Rattle.placement.specs.Files.{file_level, object_block}
use Rattle.placement.specs.Layouts.{AreLowest}
use Rattle.placement.specs.Nodes.{AreSettledIn, AreStored}
use Rattle.placement.specs.Space.{file_stores, more_over, tops_stored}
use Rattle.placement.specs.Steps.{PlacesHeights}
use Rattle.placement.proofs.CostLaws.{LeavesUncounted, changed_most, not_changed, placed_most, tops_each, tops_few, tops_stay}
use Rattle.placement.proofs.LaidLaws.{laid_over}
use Rattle.placement.proofs.RaiseLaws.{placed_heights}
use Rattle.placement.proofs.StandLaws.{blocks_are}
use Rattle.placement.proofs.file.lay_blocks.Goals as goal
use Rattle.placement.proofs.file.lay_blocks.Goals.{In_ok-blocks}

lowest_is : (c : In_ok-blocks) → AreLowest 0 (block_count c.args.object.now.file.size) c.args.object.now.file.tree c.args.settled.now c.args.draft.now c.place_lowest.new.draft c.in_ok-blocks.blocks
lowest_is c = rw (c.tree.ensures, c.block_count-count.ensures) at c.in_ok-blocks.ensures.lowest

pub lay_over-requires : goal.lay_over-requires
lay_over-requires c =
    let lowest = lowest_is (goal.at.lay_over-requires c).In_ok-blocks in
    let count = sym c.in_ok-blocks.ensures.step.grows.count in
    record {
      level = c.requires.level;
      layout = c.requires.counted.layout;
      same = c.in_ok-blocks.ensures.layout;
      end = lowest.end;
      blocks = subst (λ (n : ℕ). AreBelow n c.in_ok-blocks.blocks) count lowest.placed.within;
      settled = subst (λ (n : ℕ). AreSettledIn n c.args.settled.now) count c.requires.settled;
    }

pub returns-clause-laid : goal.returns-clause-laid
returns-clause-laid c =
    laid_over (lowest_is (goal.at.returns-clause-laid c).In_ok-blocks) c.in_ok-laid.ensures.raised c.in_ok-blocks.ensures.step.grows c.in_ok-laid.ensures.step (omega arith)
    (omega (arith, c.in_ok-laid.ensures.kept, c.kept_of-kept.ensures, c.block_count-count.ensures))

pub returns-clause-stored : goal.returns-clause-stored
returns-clause-stored c =
    let count = block_count c.args.object.now.file.size in
    let t = c.args.object.now.file.tree in
    let stored : AreStored 0 count t c.args.settled.now (place_at c.in_ok-blocks.blocks) = rw (c.tree.ensures, c.block_count-count.ensures) at c.in_ok-blocks.ensures.stored in
    let is = c.in_ok-laid.ensures.raised.lowest_are in
    record { holes = λ i low lt hole. stored.holes i low lt (sym (is i) ∙ hole); changed = λ i low lt changed hole. stored.changed i low lt changed (sym (is i) ∙ hole) }

pub returns-clause-whole : goal.returns-clause-whole
returns-clause-whole c = (lowest_is (goal.at.returns-clause-whole c).In_ok-blocks).whole

pub returns-clause-stands : goal.returns-clause-stands
returns-clause-stands c = λ s disk base change known e has same.
    let o = c.args.object.now in
    let settled = c.args.settled.now in
    let over = placed_heights (block_count o.file.size) (file_level o.file) settled c.in_ok-blocks.blocks c.in_ok-laid.ensures.step in
    c.in_ok-laid.ensures.stands s disk base (change.blocks ∙ sym c.in_ok-blocks.ensures.step.grows.count) change.sound known e has same (object_block disk o)
    (λ i. blocks_are disk e base o settled known same (lowest_is (goal.at.returns-clause-stands c).In_ok-blocks) (over.grows.has e has) i (omega arith))

-- the blocks are placed before
most : {U : Type 0} {d : Draft} {r : Result U PlanError} (c : In_ok-blocks)
    → PlacesHeights (block_count c.args.object.now.file.size) (file_level c.args.object.now.file) c.args.settled.now c.in_ok-blocks.blocks c.place_lowest.new.draft d r
    → Places (file_stores c.args.object.now.file) c.args.draft.now d r
most c step =
    let file = c.args.object.now.file in
    let t = file.tree in
    let count = block_count file.size in
    let lowest : Places (changed_blocks t 0 count) c.args.draft.now c.place_lowest.new.draft (Ok c.in_ok-blocks.blocks) = rw (c.tree.ensures, c.block_count-count.ensures) at c.in_ok-blocks.ensures.step in
    let is = lowest_is c in
    let unchanged : LeavesUncounted (block_stores t 0) t.kept c.args.settled.now count c.in_ok-blocks.blocks = λ i lt none. is.unchanged i lt (omega arith) (not_changed t 0 i (omega arith) none) in
    let stored : (i : ℕ) → i < count → block_stores t 0 i ≡ slot_stores (tree.get nat_cmp t.slots i) = λ i lt.
    sym (cond_above i 0 0 (slot_stores (tree.get nat_cmp t.slots i)) (slot_stores (tree.get nat_cmp t.slots i)) (omega arith) refl) in
    placed_most (block_stores t 0) (tops_each t.layout file) (changed_blocks t 0 count) (tops_stored t.layout file) file c.args.settled.now c.in_ok-blocks.blocks c.requires.counted is.end unchanged
    c.requires.level (omega arith) (tops_few file)
    (λ j high none. tops_stay t.layout (block_stores t 0) file c.args.settled.now c.in_ok-blocks.blocks c.requires.counted is.end unchanged j refl high stored none)
    lowest step

pub returns-clause-step : goal.returns-clause-step
returns-clause-step c = places_ok (most (goal.at.returns-clause-step c).In_ok-blocks c.in_ok-laid.ensures.step)

pub returns-in_err-laid-clause-step : goal.returns-in_err-laid-clause-step
returns-in_err-laid-clause-step c =
    places_err c.from_residual-in_err-laid.result c.from_residual-in_err-laid.ensures.1 (most (goal.at.returns-in_err-laid-clause-step c).In_ok-blocks c.in_err-laid.ensures.step)

pub returns-in_err-blocks-clause-step : goal.returns-in_err-blocks-clause-step
returns-in_err-blocks-clause-step c =
    let file = c.args.object.now.file in
    places_err c.from_residual.result c.from_residual.ensures.1
    (places_rise (rw (c.tree.ensures, c.block_count-count.ensures) at c.in_err-blocks.ensures.step) (changed_most file.tree.layout (file_level file) (block_count file.size) (changed_blocks file.tree 0 (block_count file.size)) (more_over file) (tops_stored file.tree.layout file) c.requires.level))
