use Rattle.std.proofs.Common.{arith, true, refl, ap, rules, sym, ◌∙◌}
use Rattle.std.specs.Int.{bit_at}
use Rattle.blockmap.specs.Maps.{entry_at, settled_at}
use Rattle.layout.specs.declared.pointer.Pointer.TheVariants.{Block}
use Rattle.planning.specs.Changes.{ChangesPlane}
use Rattle.planning.proofs.ChangeLaws.{plane_active, plane_from, plane_changed}
use Rattle.planning.proofs.change.take.Goals as goal
use Rattle.planning.proofs.change.take.Goals.{In_ok-mark_system}
use Rattle.layout.proofs.PointerLaws.{block_same}
use Rattle.conspoint.proofs.StepLemmas.{marks_take, takes_err, takes_of, takes_ok, takes_then}

changed : (c : In_ok-mark_system) → ChangesPlane c.args.slot (Block c.in_ok-place.place) 1 (λ b. bit_at (settled_at c.args.draft.now.map.parts.items b) 0)
    (entry_at c.args.draft.now.map.parts.items) (entry_at c.mark_system.new.self.map.parts.items)
changed c =
    plane_from c.args.slot (Block c.in_ok-place.place) 1 c.args.draft.now.map.parts.items c.place_head.new.draft.map.parts.items (entry_at c.mark_system.new.self.map.parts.items) c.place_head.ensures.step.parts
    (plane_changed c.args.slot c.in_ok-place.place 1 true (λ b. bit_at (settled_at c.place_head.new.draft.map.parts.items b) 0) (entry_at c.place_head.new.draft.map.parts.items)
    (entry_at c.take_plane.new.self.map.parts.items) (entry_at c.mark_system.new.self.map.parts.items) c.requires.slot c.in_ok-take_plane.ensures.plane c.in_ok-mark_system.ensures.bit
    c.in_ok-mark_system.ensures.stay refl)

pub returns-clause-active : goal.returns-clause-active
returns-clause-active c =
    plane_active c.args.slot 1 (Block c.in_ok-place.place) (λ b. bit_at (settled_at c.args.draft.now.map.parts.items b) 0) (entry_at c.args.draft.now.map.parts.items)
    (entry_at c.mark_system.new.self.map.parts.items) c.requires.slot (changed c)

pub returns-clause-touched : goal.returns-clause-touched
returns-clause-touched c = λ j lt.
    c.mark_system.ensures.step.grows.settled.touched j
    (c.in_ok-take_plane.ensures.touched j (omega (arith, lt, c.mark_system.ensures.step.grows.settled.count, c.take_plane.ensures.step.grows.settled.count)))

pub returns-clause-taken : goal.returns-clause-taken
returns-clause-taken c =
    let place = c.in_ok-place.place in
    record {
      block = (place, refl);
      head = λ b is e has. ap e (sym (block_same place b is)) ∙ c.in_ok-place.ensures.stored e (c.take_plane.ensures.step.grows.has e (c.mark_system.ensures.step.grows.has e has));
      points = search rules;
      given = λ b is. (let low = c.in_ok-place.ensures.taken.to in omega (arith, low, c.take_plane.ensures.step.next, c.mark_system.ensures.step.next, block_same place b is));
      free = search rules;
      sets = changed c;
    }

pub returns-in_err-place-clause-step : goal.returns-in_err-place-clause-step
returns-in_err-place-clause-step c = takes_err c.from_residual.result c.from_residual.ensures.1 (takes_of c.in_err-place.ensures.step)

pub returns-in_err-take_plane-clause-step : goal.returns-in_err-take_plane-clause-step
returns-in_err-take_plane-clause-step c =
    takes_err c.from_residual-in_err-take_plane.result c.from_residual-in_err-take_plane.ensures.1 (takes_then (takes_of c.in_ok-place.ensures.step) (marks_take c.in_err-take_plane.ensures.step) (omega arith))

pub returns-in_err-mark_system-clause-step : goal.returns-in_err-mark_system-clause-step
returns-in_err-mark_system-clause-step c =
    takes_err c.from_residual-in_err-mark_system.result c.from_residual-in_err-mark_system.ensures.1 (takes_then (takes_then {k = 1} (takes_of c.in_ok-place.ensures.step) (marks_take c.in_ok-take_plane.ensures.step) (omega arith)) (marks_take c.in_err-mark_system.ensures.step) (omega arith))

pub returns-clause-step : goal.returns-clause-step
returns-clause-step c =
    takes_ok (takes_then (takes_then {k = 1} (takes_of c.in_ok-place.ensures.step) (marks_take c.in_ok-take_plane.ensures.step) (omega arith)) (marks_take c.in_ok-mark_system.ensures.step) (omega arith))
