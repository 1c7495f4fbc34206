use Rattle.std.proofs.Common.{◌≡◌, ◌<◌, ◌≤◌, ◌/◌, ℕ, length, slice_index, refl, sym, subst, ◌∙◌, arith, rules}
use Rattle.std.proofs.lemmas.List.{get_or_default}
use Rattle.blocktree.specs.Trees.{IsSoundAt}
use Rattle.blockmap.specs.Maps.{entry_at}
use Rattle.inofile.specs.Inodes.{IsChanged}
use Rattle.planning.proofs.SettledLaws.{over_later}
use Rattle.planning.proofs.LoopLaws.{all_planned, none_before, one_more}
use Rattle.conspoint.proofs.DraftLemmas.{grows_twice}
use Rattle.planning.proofs.ProgressLaws.{sets_twice}
use Rattle.planning.proofs.SpaceLaws.{is_behind, is_counted}
use Rattle.planning.proofs.number.plan_numbers.Given.{Over}
use Rattle.planning.proofs.number.plan_numbers.Goals as goal
use Rattle.planning.proofs.number.plan_numbers.Goals.{After-index}
use Rattle.planning.proofs.PromiseLaws.{file_none, file_then, plans_err, plans_out, plans_so_far, plans_then}

pub loop-i-init : goal.loop-i-init
loop-i-init g c = record {
  read = search rules;
  grows = search rules;
  sets = λ b i other. refl;
  counted = λ m below. omega arith;
  file = file_none c.args.file.now;
  planned = λ o from start. none_before from c.args.draft.now o.disk o.settled o.before c.args.inodes.now c.args.file.now c.in_ok-numbers.numbers.items start;
}

is_number : (g : Over) (c : After-index g) → (3 ≤ c.index.result.now) × (c.index.result.now < c.args.inodes.now.geometry.inodes)
is_number g c = c.in_ok-numbers.ensures.within c.index.result.now (c.loop-i.i, omega arith, sym c.index.ensures)

pub plan_number-requires-clause-low : goal.plan_number-requires-clause-low
plan_number-requires-clause-low g c = (is_number g (goal.at.plan_number-requires-clause-low g c).After-index).0

pub plan_number-requires-clause-high : goal.plan_number-requires-clause-high
plan_number-requires-clause-high g c = (is_number g (goal.at.plan_number-requires-clause-high g c).After-index).1

pub loop-i-preserved : goal.loop-i-preserved
loop-i-preserved g c =
    let so_far = c.loop-i.invariant in
    let xs = c.in_ok-numbers.numbers.items in
    let within : c.loop-i.i < length xs = omega arith in
    let is : c.index.result.now ≡ slice_index xs c.loop-i.i = c.index.ensures ∙ get_or_default xs c.loop-i.i c.index.result.now 0 within in
    let one_changed = (c.in_ok-numbers.ensures.members c.index.result.now).0 (c.loop-i.i, within, sym c.index.ensures) in
    record {
      read = search rules;
      grows = grows_twice c.args.draft.now c.loop-i.draft c.plan_number.new.draft so_far.grows c.plan_number.ensures.step.grows;
      sets = sets_twice (entry_at c.args.draft.now.map.parts.items) (entry_at c.loop-i.draft.map.parts.items) (entry_at c.plan_number.new.draft.map.parts.items) so_far.sets c.in_ok-plan_number.ensures.step.sets;
      counted = λ m below.
          let before = so_far.counted c.index.result.now (λ k lt. is_behind xs c.loop-i.i c.index.result.now k c.in_ok-numbers.ensures.sorted within is lt) in
          let here : c.index.result.now < m = omega (arith, is, below c.loop-i.i (omega arith)) in
          omega (arith, before, c.in_ok-plan_number.ensures.step.takes, is_counted c.args.inodes.now c.index.result.now m here);
      file = file_then (λ i at. (c.index.result.now, sym at, one_changed)) so_far.file c.plan_number.ensures.file;
      planned = λ o from start.
          one_more from c.loop-i.draft c.plan_number.new.draft o.disk o.settled o.before c.args.inodes.now c.loop-i.file c.plan_number.new.file
          xs c.loop-i.i c.index.result.now c.in_ok-numbers.ensures.sorted within is (so_far.planned o from start)
          (c.in_ok-plan_number.ensures.planned (over_later so_far.read.count so_far.read.same o));
    }

pub returns-in_err-plan_number-clause-damaged : goal.returns-in_err-plan_number-clause-damaged
returns-in_err-plan_number-clause-damaged g c = λ o same sound bad.
    let so_far = c.loop-i.invariant in
    let at = c.index.result.now / 21 in
    c.in_err-plan_number.ensures.damaged (over_later so_far.read.count so_far.read.same o) (λ b. so_far.grows.settled.settled b ∙ same b)
    (subst (λ (n : ℕ). IsSoundAt n o.disk c.loop-i.file.tree at) (sym so_far.read.count) (so_far.file.sound (g.B.Blocks.count c.args.blocks.now) o.disk at (sound at)))
    (search rules)

pub returns-clause-planned : goal.returns-clause-planned
returns-clause-planned g c = λ o from start.
    all_planned from c.loop-i.draft o.disk o.settled o.before c.args.inodes.now c.loop-i.file c.in_ok-numbers.numbers.items c.loop-i.i (IsChanged c.args.inodes.now) (omega arith)
    c.in_ok-numbers.ensures.members (c.loop-i.invariant.planned o from start)

pub plan_number-requires-clause-changed : goal.plan_number-requires-clause-changed
plan_number-requires-clause-changed g c = (c.in_ok-numbers.ensures.members c.index.result.now).0 (c.loop-i.i, omega arith, sym c.index.ensures)

pub returns-in_err-numbers-clause-step : goal.returns-in_err-numbers-clause-step
returns-in_err-numbers-clause-step g c = plans_out c.from_residual.result c.from_residual.ensures.1

pub returns-in_err-plan_number-clause-step : goal.returns-in_err-plan_number-clause-step
returns-in_err-plan_number-clause-step g c =
    let xs = c.in_ok-numbers.numbers.items in
    let n = c.index.result.now in
    let within : c.loop-i.i < length xs = omega arith in
    let is : n ≡ slice_index xs c.loop-i.i = c.index.ensures ∙ get_or_default xs c.loop-i.i n 0 within in
    let before = c.loop-i.invariant.counted n (λ k lt. is_behind xs c.loop-i.i n k c.in_ok-numbers.ensures.sorted within is lt) in
    let last = (c.in_ok-numbers.ensures.within n (c.loop-i.i, within, sym c.index.ensures)).1 in
    let so_far = plans_so_far {T = Unit {0}} {w = tt {0}} c.loop-i.invariant.read c.loop-i.invariant.grows c.loop-i.invariant.sets before in
    plans_err c.from_residual-in_err-plan_number.result c.from_residual-in_err-plan_number.ensures.1 (plans_then so_far c.in_err-plan_number.ensures.step (is_counted c.args.inodes.now n c.args.inodes.now.geometry.inodes last))

pub returns-clause-step : goal.returns-clause-step
returns-clause-step g c =
    let xs = c.in_ok-numbers.numbers.items in
    plans_so_far c.loop-i.invariant.read c.loop-i.invariant.grows c.loop-i.invariant.sets (c.loop-i.invariant.counted c.args.inodes.now.geometry.inodes (λ k lt.
    let within : k < length xs = omega (arith, lt) in
    (c.in_ok-numbers.ensures.within (slice_index xs k) (k, within, get_or_default xs k (slice_index xs k) 0 within)).1))

pub returns-in_err-numbers-clause-file : goal.returns-in_err-numbers-clause-file
returns-in_err-numbers-clause-file g c = file_none c.args.file.now

pub returns-in_err-plan_number-clause-file : goal.returns-in_err-plan_number-clause-file
returns-in_err-plan_number-clause-file g c =
    file_then (λ i at. (c.index.result.now, sym at, (c.in_ok-numbers.ensures.members c.index.result.now).0 (c.loop-i.i, omega arith, sym c.index.ensures)))
    c.loop-i.invariant.file c.plan_number.ensures.file

pub returns-clause-file : goal.returns-clause-file
returns-clause-file g c = c.loop-i.invariant.file
