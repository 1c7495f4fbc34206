use Rattle.std.proofs.Common.{arith, false, refl, sym, subst}
use Rattle.blockmap.specs.Maps.{entry_at}
use Rattle.layout.specs.declared.pointer.Pointer.{Pointer}
use Rattle.planning.specs.Changes.{ChangesPlane}
use Rattle.planning.proofs.ChangeLaws.{plane_active, plane_alone, plane_changed}
use Rattle.planning.proofs.change.delete.Goals as goal
use Rattle.planning.proofs.change.delete.Goals.{In_ok-mark_system-in-Block, In-Hole}
use Rattle.conspoint.proofs.StepLemmas.{marks_take, takes_err, takes_ok, takes_then}

-- the block's own entry is changed last
marked : (c : In_ok-mark_system-in-Block) → ChangesPlane c.args.slot c.args.pointer 0 (λ b. 0) (entry_at c.args.draft.now.map.parts.items) (entry_at c.mark_system.new.self.map.parts.items)
marked c =
    let before = entry_at c.args.draft.now.map.parts.items in
    let between = entry_at c.clear_plane.new.self.map.parts.items in
    let after = entry_at c.mark_system.new.self.map.parts.items in
    subst (λ (p : Pointer). ChangesPlane c.args.slot p 0 (λ b. 0) before after) (sym c.in-Block.is)
    (plane_changed c.args.slot c.in-Block.place 0 false (λ b. 0) before between after c.requires.slot c.in_ok-clear_plane.ensures.plane c.in_ok-mark_system-in-Block.ensures.bit c.in_ok-mark_system-in-Block.ensures.stay refl)

alone : (c : In-Hole) → ChangesPlane c.args.slot c.args.pointer 0 (λ b. 0) (entry_at c.args.draft.now.map.parts.items) (entry_at c.clear_plane.new.self.map.parts.items)
alone c =
    let before = entry_at c.args.draft.now.map.parts.items in
    let after = entry_at c.clear_plane.new.self.map.parts.items in
    subst (λ (p : Pointer). ChangesPlane c.args.slot p 0 (λ b. 0) before after) (sym c.in-Hole.is)
    (plane_alone c.args.slot 0 (λ b. 0) before after c.requires.slot c.in_ok-clear_plane.ensures.plane)

pub returns-in_ok-mark_system-in-Block-clause-active : goal.returns-in_ok-mark_system-in-Block-clause-active
returns-in_ok-mark_system-in-Block-clause-active c =
    plane_active c.args.slot 0 c.args.pointer (λ b. 0) (entry_at c.args.draft.now.map.parts.items) (entry_at c.mark_system.new.self.map.parts.items) c.requires.slot
    (marked c)

pub returns-in_ok-mark_system-in-Block-clause-sets : goal.returns-in_ok-mark_system-in-Block-clause-sets
returns-in_ok-mark_system-in-Block-clause-sets c = marked c

pub returns-in-Hole-clause-active : goal.returns-in-Hole-clause-active
returns-in-Hole-clause-active c =
    plane_active c.args.slot 0 c.args.pointer (λ b. 0) (entry_at c.args.draft.now.map.parts.items) (entry_at c.clear_plane.new.self.map.parts.items) c.requires.slot
    (alone c)

pub returns-in-Hole-clause-sets : goal.returns-in-Hole-clause-sets
returns-in-Hole-clause-sets c = alone c

pub returns-in_err-clear_plane-clause-step : goal.returns-in_err-clear_plane-clause-step
returns-in_err-clear_plane-clause-step c =
    takes_err c.from_residual.result c.from_residual.ensures.1 (marks_take c.in_err-clear_plane.ensures.step)

pub returns-in_err-mark_system-in-Block-clause-step : goal.returns-in_err-mark_system-in-Block-clause-step
returns-in_err-mark_system-in-Block-clause-step c =
    takes_err c.from_residual-in_err-mark_system-in-Block.result c.from_residual-in_err-mark_system-in-Block.ensures.1 (takes_then (marks_take c.in_ok-clear_plane.ensures.step) (marks_take c.in_err-mark_system-in-Block.ensures.step) (omega arith))

pub returns-in_ok-mark_system-in-Block-clause-step : goal.returns-in_ok-mark_system-in-Block-clause-step
returns-in_ok-mark_system-in-Block-clause-step c =
    takes_ok (takes_then (marks_take c.in_ok-clear_plane.ensures.step) (marks_take c.in_ok-mark_system-in-Block.ensures.step) (omega arith))

pub returns-in-Hole-clause-step : goal.returns-in-Hole-clause-step
returns-in-Hole-clause-step c = takes_ok (marks_take c.in_ok-clear_plane.ensures.step)
