-- The trees that consistency points start from.
use Rattle.std.proofs.Common.{◌≡◌, ◌≢◌, ◌⊎◌, inl, inr, ℕ, refl, arith}
use Rattle.layout.specs.Places.{Blocks}
use Rattle.layout.specs.declared.root.Root.{Root}
use Rattle.images.specs.Points.{IsBase}
use Rattle.images.specs.Roots.{Reach, Whole, whole}
use Rattle.images.specs.Room.{IsOwn, KeepsOwn}
use Rattle.images.specs.SnapshotSteps.{CanStep, SnapshotStep, base_plane, base_tree, deleted, restored, taken, unchanged}
use Rattle.images.specs.Soundness.{IsSoundTree}
use Rattle.images.specs.States.{IsSound}
use Rattle.images.proofs.PointLaws.{active_base, frozen_base}

pub step_sound : (d : Blocks) (r : Root) (step : SnapshotStep) → IsSound r (whole d r) → CanStep step r (whole d r) → IsSoundTree r.geometry (base_tree step (whole d r))
step_sound d r unchanged sound can = sound.active
step_sound d r (taken k s) sound can = sound.active
step_sound d r (deleted k name) sound can = sound.active
step_sound d r (restored k name) sound can = sound.frozen k can.has.block can.has.there

pub step_base : (d : Blocks) (r : Root) (step : SnapshotStep) → IsSound r (whole d r) → CanStep step r (whole d r) → IsBase d r (base_tree step (whole d r)) (base_plane step)
step_base d r unchanged sound can = active_base d r sound.exact sound.active.once
step_base d r (taken k s) sound can = active_base d r sound.exact sound.active.once
step_base d r (deleted k name) sound can = active_base d r sound.exact sound.active.once
step_base d r (restored k name) sound can =
    frozen_base d r k can.number.first (λ last. omega (arith, last, can.number.last)) sound.exact (sound.frozen k can.has.block can.has.there).once

-- a snapshot's tree shares nothing of what every point stores
pub step_apart : (r : Root) (w : Whole) (step : SnapshotStep) → KeepsOwn r w → ((b : ℕ) → IsOwn w.active b → Reach (base_tree step w) b → ⊥) ⊎ (base_tree step w ≡ w.active)
step_apart r w unchanged own = inr refl
step_apart r w (taken k s) own = inr refl
step_apart r w (deleted k name) own = inr refl
step_apart r w (restored k name) own = inl (own.frozen k)

-- and its plane isn't the active tree's
pub step_plane : (step : SnapshotStep) (r : Root) (w : Whole) → CanStep step r w → (base_plane step ≢ 0) ⊎ (base_tree step w ≡ w.active)
step_plane unchanged r w can = inr refl
step_plane (taken k s) r w can = inr refl
step_plane (deleted k name) r w can = inr refl
step_plane (restored k name) r w can = inl (λ none. omega (arith, none, can.number.first))
