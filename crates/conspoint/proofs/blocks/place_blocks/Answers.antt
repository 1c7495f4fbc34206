use Rattle.std.proofs.Common.{◌≡◌, ◌≢◌, inl, inr, ◌+◌, ◌<◌, ◌≤◌, ℕ, refl, ap, sym, subst, ◌∙◌, arith, rules}
use Rattle.std.specs.Prelude.{min}
use Rattle.std.proofs.lemmas.Bool.{cases_eq, cases_lt}
use Rattle.layout.specs.Places.{pointed}
use Rattle.layout.specs.declared.pointer.Pointer.TheVariants.{Hole, Block}
use Rattle.layout.proofs.PointerLaws.{hole_block}
use Rattle.images.proofs.SumLaws.{sums_rise}
use Rattle.buffers.specs.Disks.{IsWhole}
use Rattle.blocktree.specs.PlaceMaps.{place_at}
use Rattle.blocktree.specs.Trees.{IsChanged}
use Rattle.conspoint.specs.Blocks.{changed_or}
use Rattle.conspoint.specs.Space.{block_stores, changed_blocks}
use Rattle.conspoint.proofs.BlockLemmas.{changed_block, unchanged_block}
use Rattle.conspoint.proofs.StepLemmas.{places_err, places_none, places_ok, places_out, places_rise, places_then}
use Rattle.conspoint.proofs.GroupLemmas.{placed_more, placed_same}
use Rattle.conspoint.proofs.SumLemmas.{added_one}
use Rattle.blocktree.proofs.PlaceMapLaws.{changed_all}
use Rattle.conspoint.proofs.blocks.place_blocks.Goals as goal

pub loop-i-init : goal.loop-i-init
loop-i-init c = record {
  low = search rules;
  step = places_none c.args.draft.now;
  layout = refl;
  end = c.requires.end;
  before = search rules;
  holes = search rules;
  stored = λ i lt le. absurd (omega (arith, lt, le));
  unchanged = search rules;
  blocks = λ e has i lt le. absurd (omega (arith, lt, le));
  whole = λ i le lt. absurd (omega (arith, lt, le));
  placed = placed_same c.args.draft.now c.args.settled c.requires.within;
}

pub loop-i-preserved : goal.loop-i-preserved
loop-i-preserved c =
    let so_far = c.loop-i.invariant in
    let i = c.in-Some.i in
    let t = c.args.tree.now in
    let first = c.args.first in
    let settled = c.args.settled in
    let p = Block c.in_ok-place.place in
    let found = c.in-Some.ensures.found in
    let stored = c.in_ok-place.ensures in
    let put = c.in_ok-set.ensures in
    let low : first ≤ i = omega (arith, so_far.low, found.0) in
    record {
      low = omega (arith, low);
      step = places_ok (places_then so_far.step stored.step (added_one t first c.loop-i.from i c.args.count low found.0 found.1 found.2));
      layout = put.layout ∙ so_far.layout;
      end = changed_all (λ j q. c.args.count ≤ j → q ≡ Hole) c.loop-i.nodes c.set.new.self i p put.there put.others (λ le. absurd (omega (arith, le, found.1))) (λ j n. so_far.end j);
      before = changed_all (λ j q. j < first → q ≡ place_at settled j) c.loop-i.nodes c.set.new.self i p put.there put.others (λ lt. absurd (omega (arith, lt, low))) (λ j n. so_far.before j);
      holes = changed_all (λ j q. q ≡ Hole → place_at settled j ≡ Hole) c.loop-i.nodes c.set.new.self i p put.there put.others (λ is. hole_block (sym is)) (λ j n. so_far.holes j);
      stored = changed_all (λ j q. j < i + 1 → first ≤ j → IsChanged t j → q ≢ Hole) c.loop-i.nodes c.set.new.self i p put.there put.others (λ lt le is hole. hole_block (sym hole))
          (λ j n lt le is. elim (cases_lt j c.loop-i.from) [
            | inl done ↦ so_far.stored j done le is
            | inr more ↦ absurd (c.in-Some.ensures.before j more (omega (arith, lt, n)) is)
          ]);
      unchanged = changed_all (λ j q. (IsChanged t j → ⊥) → q ≡ place_at settled j) c.loop-i.nodes c.set.new.self i p put.there put.others (λ not. absurd (not found.2)) (λ j n. so_far.unchanged j);
      blocks = λ e has. changed_all (λ j q. j < i + 1 → first ≤ j → pointed e q ≡ changed_or t j (pointed e (place_at settled j))) c.loop-i.nodes c.set.new.self i p put.there put.others
          (λ lt le. stored.stored e has ∙ changed_block t i c.in-Some.block.now (pointed e (place_at settled i)) c.in-Some.ensures.block found.2)
          (λ j n lt le. elim (cases_lt j c.loop-i.from) [
            | inl done ↦ so_far.blocks e (stored.step.grows.has e has) j done le
            | inr more ↦
                let not = c.in-Some.ensures.before j more (omega (arith, lt, n)) in
                ap (pointed e) (so_far.unchanged j not) ∙ unchanged_block t j (pointed e (place_at settled j)) not
          ]);
      whole = λ j le lt below is. elim (cases_eq j i) [
        | inl same ↦
            let block = changed_block t i c.in-Some.block.now below c.in-Some.ensures.block found.2 in
            subst (λ (k : ℕ). IsWhole (changed_or t k below)) (sym same) (subst IsWhole block c.in_ok-place.ensures.whole)
        | inr n ↦ elim (cases_lt j c.loop-i.from) [
          | inl done ↦ so_far.whole j le done below is
          | inr more ↦ subst IsWhole (unchanged_block t j below (c.in-Some.ensures.before j more (omega (arith, lt, n)))) is
        ]
      ];
      placed = placed_more c.args.draft.now c.loop-i.draft c.store_shared.new.draft settled c.loop-i.nodes c.set.new.self i p so_far.step.grows stored.step.grows so_far.placed put.there put.others
          (stored.from (place_at settled i)) stored.within;
    }

pub returns-in_err-place-clause-step : goal.returns-in_err-place-clause-step
returns-in_err-place-clause-step c =
    let so_far = c.loop-i.invariant in
    let found = c.in-Some.ensures.found in
    let more = added_one c.args.tree.now c.args.first c.loop-i.from c.in-Some.i c.args.count (omega (arith, so_far.low, found.0)) found.0 found.1 found.2 in
    let rise = sums_rise (block_stores c.args.tree.now c.args.first) (min (c.in-Some.i + 1) c.args.count) c.args.count (omega arith) in
    places_err c.from_residual.result c.from_residual.ensures.1 (places_then so_far.step c.in_err-place.ensures.step (omega (arith, more, rise)))

pub returns-in_err-set-clause-step : goal.returns-in_err-set-clause-step
returns-in_err-set-clause-step c =
    let so_far = c.loop-i.invariant in
    let found = c.in-Some.ensures.found in
    let more = added_one c.args.tree.now c.args.first c.loop-i.from c.in-Some.i c.args.count (omega (arith, so_far.low, found.0)) found.0 found.1 found.2 in
    let rise = sums_rise (block_stores c.args.tree.now c.args.first) (min (c.in-Some.i + 1) c.args.count) c.args.count (omega arith) in
    places_out c.from_residual-in_err-set.result c.from_residual-in_err-set.ensures.1
    (places_then {k = changed_blocks c.args.tree.now c.args.first c.args.count} so_far.step c.in_ok-place.ensures.step (omega (arith, more, rise)))

pub returns-clause-step : goal.returns-clause-step
returns-clause-step c =
    places_rise (places_ok c.loop-i.invariant.step) (sums_rise (block_stores c.args.tree.now c.args.first) (min c.loop-i.from c.args.count) c.args.count (omega arith))

pub returns-clause-stored : goal.returns-clause-stored
returns-clause-stored c = λ i lt le is. elim (cases_lt i c.loop-i.from) [
  | inl done ↦ c.loop-i.invariant.stored i done le is
  | inr more ↦ absurd (c.in_default.ensures.none i more lt is)
]

pub returns-clause-blocks : goal.returns-clause-blocks
returns-clause-blocks c e has i lt le = elim (cases_lt i c.loop-i.from) [
  | inl done ↦ c.loop-i.invariant.blocks e has i done le
  | inr more ↦
      let not = c.in_default.ensures.none i more lt in
      ap (pointed e) (c.loop-i.invariant.unchanged i not) ∙ unchanged_block c.args.tree.now i (pointed e (place_at c.args.settled i)) not
]

pub returns-clause-whole : goal.returns-clause-whole
returns-clause-whole c i le lt below is = elim (cases_lt i c.loop-i.from) [
  | inl done ↦ c.loop-i.invariant.whole i le done below is
  | inr more ↦ subst IsWhole (unchanged_block c.args.tree.now i below (c.in_default.ensures.none i more lt)) is
]
