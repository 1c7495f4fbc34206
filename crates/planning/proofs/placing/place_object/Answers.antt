use Rattle.std.proofs.Common.{◌≡◌, inl, inr, ◌<◌, refl, subst, rules, arith}
use Rattle.std.proofs.lemmas.Bool.{both_ways, cases_lt}
use Rattle.images.specs.Roots.{free_inode}
use Rattle.conspoint.proofs.DraftLemmas.{taken_later}
use Rattle.planning.proofs.NumberLaws.{change_over, change_anew, placed_anew, settled_later}
use Rattle.planning.proofs.placing.place_object.Goals as goal
use Rattle.images.proofs.EmptyLaws.{none_named}
use Rattle.placement.proofs.StepLaws.{both_err, both_ok, both_then}
use Rattle.std.specs.Prelude.{All}

pub returns-in_err-placed-clause-damaged : goal.returns-in_err-placed-clause-damaged
returns-in_err-placed-clause-damaged g c = λ s disk shows file object bad. elim (cases_lt 0 c.args.object.now.file.tree.count) [
  | inl some ↦ c.in_err-placed.ensures.damaged s disk c.args.settled shows (change_over s c.args.draft.now disk c.args.settled c.args.object.now file object (inl some)) (search rules)
  | inr none ↦ c.in_err-placed.ensures.damaged s disk (free_inode s.layout) shows (change_anew s c.args.draft.now disk c.args.settled c.args.object.now file object (omega arith)) (search rules)
]

pub returns-in_err-cleared-clause-damaged : goal.returns-in_err-cleared-clause-damaged
returns-in_err-cleared-clause-damaged g c = λ s disk shows file object bad.
    let later = settled_later s c.args.draft.now c.place_file.new.draft disk c.args.settled file c.place_file.ensures.step.parts c.place_file.ensures.step.grows.count in
    c.in_err-cleared.ensures.damaged s disk (c.place_file.ensures.step.reads.same disk shows) later (search rules)

pub returns-then-lies_over-clause-placed : goal.returns-then-lies_over-clause-placed
returns-then-lies_over-clause-placed g c = λ s disk shows file object.
    (c.in_ok-placed.ensures.placed s disk c.args.settled shows (change_over s c.args.draft.now disk c.args.settled c.args.object.now file object (c.lies_over.ensures.0 c.if-lies_over.true))).placed

pub returns-then-lies_over-clause-content : goal.returns-then-lies_over-clause-content
returns-then-lies_over-clause-content g c = λ s disk shows file object.
    (c.in_ok-placed.ensures.placed s disk c.args.settled shows (change_over s c.args.draft.now disk c.args.settled c.args.object.now file object (c.lies_over.ensures.0 c.if-lies_over.true))).content

pub returns-clause-placed : goal.returns-clause-placed
returns-clause-placed g c = λ s disk shows file object e has same.
    let none : c.args.object.now.file.tree.count ≡ 0 = elim (cases_lt 0 c.args.object.now.file.tree.count) [
      | inl some ↦ absurd (both_ways c.lies_over.result c.if-lies_over.false (c.lies_over.ensures.1 (inl some)))
      | inr least ↦ omega (arith, least)
    ] in
    let later = settled_later s c.args.draft.now c.place_file.new.draft disk c.args.settled file c.place_file.ensures.step.parts c.place_file.ensures.step.grows.count in
    let cleared = c.in_ok-cleared.ensures.cleared s disk (c.place_file.ensures.step.reads.same disk shows) later e has same in
    placed_anew s disk e c.args.settled c.in_ok-placed.placed.inode c.in_ok-cleared.cleared.inode _ _ _ _ (λ b is names. file.used b names (c.in_ok-placed.ensures.blocks.given b is).free)
    ((c.in_ok-placed.ensures.placed s disk (free_inode s.layout) shows (change_anew s c.args.draft.now disk c.args.settled c.args.object.now file object none)).placed e (c.clear.ensures.step.grows.has e has) (λ b names. absurd (none_named disk (free_inode s.layout) refl b names)))
    cleared.placed cleared.none

pub returns-clause-content : goal.returns-clause-content
returns-clause-content g c = λ s disk shows file object e has same.
    let none : c.args.object.now.file.tree.count ≡ 0 = elim (cases_lt 0 c.args.object.now.file.tree.count) [
      | inl some ↦ absurd (both_ways c.lies_over.result c.if-lies_over.false (c.lies_over.ensures.1 (inl some)))
      | inr least ↦ omega (arith, least)
    ] in
    (c.in_ok-placed.ensures.placed s disk (free_inode s.layout) shows (change_anew s c.args.draft.now disk c.args.settled c.args.object.now file object none)).content e (c.clear.ensures.step.grows.has e has) (λ b names. absurd (none_named disk (free_inode s.layout) refl b names))

pub returns-in_err-placed-clause-step : goal.returns-in_err-placed-clause-step
returns-in_err-placed-clause-step g c = both_err c.from_residual.result c.from_residual.ensures.1 c.in_err-placed.ensures.step

pub returns-then-lies_over-clause-step : goal.returns-then-lies_over-clause-step
returns-then-lies_over-clause-step g c = both_ok c.in_ok-placed.ensures.step

pub returns-in_err-cleared-clause-step : goal.returns-in_err-cleared-clause-step
returns-in_err-cleared-clause-step g c =
    both_err c.from_residual-in_err-cleared.result c.from_residual-in_err-cleared.ensures.1 (both_then c.in_ok-placed.ensures.step c.in_err-cleared.ensures.step (omega arith))

pub returns-clause-step : goal.returns-clause-step
returns-clause-step g c = both_ok (both_then c.in_ok-placed.ensures.step c.in_ok-cleared.ensures.step (omega arith))

pub returns-clause-blocks : goal.returns-clause-blocks
returns-clause-blocks g c =
    let first = c.in_ok-placed.ensures.blocks in
    record {
      taken = first.taken;
      freed = subst (λ n. All (λ b. b < n) c.in_ok-cleared.cleared.freed.items) c.in_ok-placed.ensures.step.grows.count c.in_ok-cleared.ensures.blocks.freed;
      given = λ b is. taken_later c.args.draft.now c.place_file.new.draft c.clear.new.draft b (first.given b is) c.in_ok-cleared.ensures.step.grows;
    }
