use Rattle.std.proofs.Common.{◌≡◌, ℕ, zero, suc, Ok, ◌+◌, ◌-◌, ◌<◌, ◌≤◌, length, get_or, inl, inr, refl, rules, ap, arith, sym, subst, ◌∙◌}
use Rattle.std.proofs.lemmas.List.{get_or_default}
use Rattle.layout.specs.declared.pointer.Pointer.{Pointer}
use Rattle.layout.specs.declared.pointer.Pointer.TheVariants.{Hole}
use Rattle.std.proofs.lemmas.Bool.{cases_eq}
use Rattle.images.specs.Roots.{slot}
use Rattle.layout.proofs.PointerLaws.{hole_block}
use Rattle.images.specs.SnapshotSteps.{HasHead, IsSlotNumber, SnapshotStep}
use Rattle.layout.specs.Places.{pointed}
use Rattle.blockmap.specs.Maps.{entry_at, settled_at}
use Rattle.planning.specs.Changes.{ChangesPlane, FitsSlots, IsStepOf, StartsActive, StepsSets, head_nodes}
use Rattle.planning.specs.declared.change.SnapshotChange.{SnapshotChange}
use Rattle.planning.proofs.change.change_snapshots.Goals as goal
use Rattle.conspoint.proofs.StepLemmas.{marks_take, places_none, takes_err, takes_of, takes_ok}
use Rattle.conspoint.specs.Steps.{Takes}
use Rattle.layout.specs.declared.root.Root.{Root}

-- the pointer in a slot, as it is read
slot_at : (r : Root) (k : ℕ) (p : Pointer) → 1 ≤ k → k - 1 < length r.snapshots → slot r k ≡ get_or r.snapshots (k - 1) p
slot_at r zero p low within = absurd (omega arith)
slot_at r (suc k) p low within =
    let at : suc k - 1 ≡ k = omega arith in
    get_or_default r.snapshots k Hole p (omega (arith, within)) ∙ sym (ap (λ (i : ℕ). get_or r.snapshots i p) at)

pub returns-in-Unchanged-clause-step : goal.returns-in-Unchanged-clause-step
returns-in-Unchanged-clause-step c = takes_of (places_none c.args.draft.now)

pub returns-in_err-pointer-in-Take-clause-step : goal.returns-in_err-pointer-in-Take-clause-step
returns-in_err-pointer-in-Take-clause-step c =
    subst (λ n. Takes n c.args.draft.now c.take.new.draft c.from_residual.result) (sym (ap head_nodes c.in-Take.is)) (takes_err c.from_residual.result c.from_residual.ensures.1 c.in_err-pointer-in-Take.ensures.step)

pub returns-in_ok-pointer-in-Take-clause-step : goal.returns-in_ok-pointer-in-Take-clause-step
returns-in_ok-pointer-in-Take-clause-step c =
    subst (λ n. Takes {T = Root} n c.args.draft.now c.take.new.draft (Ok c.with_pointer.result)) (sym (ap head_nodes c.in-Take.is)) (takes_ok c.in_ok-pointer-in-Take.ensures.step)

pub returns-in_err-delete-in-Delete-clause-step : goal.returns-in_err-delete-in-Delete-clause-step
returns-in_err-delete-in-Delete-clause-step c =
    subst (λ n. Takes n c.args.draft.now c.delete.new.draft c.from_residual-in_err-delete-in-Delete.result) (sym (ap head_nodes c.in-Delete.is))
    (takes_err c.from_residual-in_err-delete-in-Delete.result c.from_residual-in_err-delete-in-Delete.ensures.1 c.in_err-delete-in-Delete.ensures.step)

pub returns-in_ok-delete-in-Delete-clause-step : goal.returns-in_ok-delete-in-Delete-clause-step
returns-in_ok-delete-in-Delete-clause-step c =
    subst (λ n. Takes {T = Root} n c.args.draft.now c.delete.new.draft (Ok c.with_pointer-in-Delete.result)) (sym (ap head_nodes c.in-Delete.is)) (takes_ok c.in_ok-delete-in-Delete.ensures.step)

pub returns-in-Unchanged-clause-changed : goal.returns-in-Unchanged-clause-changed
returns-in-Unchanged-clause-changed c = record {
  root = c.requires.root;
  geometry = refl;
  steps = λ step is. record { slots = search rules; head = search rules };
  heads = λ k b new. absurd (new.1 new.0);
  sets = search rules;
}

pub returns-in_ok-pointer-in-Take-clause-changed : goal.returns-in_ok-pointer-in-Take-clause-changed
returns-in_ok-pointer-in-Take-clause-changed c =
    let made = c.with_pointer.ensures in
    let taken = c.in_ok-pointer-in-Take.ensures.taken in
    record {
      root = made.root;
      geometry = made.geometry;
      steps = λ step is.
          let step_is = subst (λ (x : SnapshotChange). IsStepOf x c.args.root.now step) c.in-Take.is is in
          record {
            slots = search rules;
            head = λ e has. subst (λ (x : SnapshotStep). HasHead x c.with_pointer.result e) (sym step_is)
                (ap (pointed e) (made.sets.there ∙ taken.block.1) ∙ taken.head taken.block.0 taken.block.1 e has);
          };
      heads = λ k b new. elim (cases_eq k c.in-Take.slot) [
        | inl is ↦ (taken.given b (sym made.sets.there ∙ sym (ap (slot c.with_pointer.result) is) ∙ new.0), c.in_ok-pointer-in-Take.ensures.touched)
        | inr other ↦ absurd (new.1 (sym (made.sets.others k other) ∙ new.0))
      ];
      sets = search rules;
    }

pub returns-in_ok-delete-in-Delete-clause-changed : goal.returns-in_ok-delete-in-Delete-clause-changed
returns-in_ok-delete-in-Delete-clause-changed c =
    let made = c.with_pointer-in-Delete.ensures in
    record {
      root = made.root;
      geometry = made.geometry;
      steps = λ step is. record { slots = search rules; head = search rules };
      heads = λ k b new. elim (cases_eq k c.in-Delete.slot) [
        | inl is ↦ hole_block (sym made.sets.there ∙ sym (ap (slot c.with_pointer-in-Delete.result) is) ∙ new.0)
        | inr other ↦ absurd (new.1 (sym (made.sets.others k other) ∙ new.0))
      ];
      sets = λ step is.
          let named = subst (λ (x : SnapshotChange). IsStepOf x c.args.root.now step) c.in-Delete.is is in
          let number : IsSlotNumber c.in-Delete.slot = subst FitsSlots c.in-Delete.is c.requires.fits in
          subst (λ (x : SnapshotStep). StepsSets x c.args.root.now c.with_pointer-in-Delete.result (settled_at c.args.draft.now.map.parts.items) (entry_at c.args.draft.now.map.parts.items) (entry_at c.delete.new.draft.map.parts.items)) (sym named.1)
          (subst (λ (p : Pointer). ChangesPlane c.in-Delete.slot p 0 (λ b. 0) (entry_at c.args.draft.now.map.parts.items) (entry_at c.delete.new.draft.map.parts.items))
          (sym (slot_at c.args.root.now c.in-Delete.slot c.index-root-slot.result number.first (omega (arith, number, c.requires.root.slots)))) c.in_ok-delete-in-Delete.ensures.sets);
    }

pub returns-in_ok-load_plane-in-Restore-clause-step : goal.returns-in_ok-load_plane-in-Restore-clause-step
returns-in_ok-load_plane-in-Restore-clause-step c =
    subst (λ n. Takes {T = Root} n c.args.draft.now c.load_plane.new.self (Ok c.args.root.now)) (sym (ap head_nodes c.in-Restore.is)) (takes_ok (marks_take c.in_ok-load_plane-in-Restore.ensures.step))

pub returns-in_ok-load_plane-in-Restore-clause-active : goal.returns-in_ok-load_plane-in-Restore-clause-active
returns-in_ok-load_plane-in-Restore-clause-active c =
    subst (λ (x : SnapshotChange). StartsActive x (settled_at c.args.draft.now.map.parts.items) (entry_at c.args.draft.now.map.parts.items) (entry_at c.load_plane.new.self.map.parts.items)) (sym c.in-Restore.is)
    (λ b. (c.in_ok-load_plane-in-Restore.ensures.plane (b + 1)).there b (omega arith))

pub returns-in_ok-load_plane-in-Restore-clause-changed : goal.returns-in_ok-load_plane-in-Restore-clause-changed
returns-in_ok-load_plane-in-Restore-clause-changed c = record {
  root = c.requires.root;
  geometry = refl;
  steps = λ step is. record { slots = search rules; head = search rules };
  heads = λ k b new. absurd (new.1 new.0);
  sets = λ step is.
      let named = subst (λ (x : SnapshotChange). IsStepOf x c.args.root.now step) c.in-Restore.is is in
      subst (λ (x : SnapshotStep). StepsSets x c.args.root.now c.args.root.now (settled_at c.args.draft.now.map.parts.items) (entry_at c.args.draft.now.map.parts.items) (entry_at c.load_plane.new.self.map.parts.items)) (sym named.1)
      (λ b i other. (c.in_ok-load_plane-in-Restore.ensures.plane (b + 1)).others b i (omega arith) other);
}
