use Rattle.images.specs.Roots.{whole}
use Rattle.images.specs.SnapshotSteps.{base_plane, base_tree}
use Rattle.images.proofs.BaseLaws.{step_base, step_plane, step_sound}
use Rattle.images.proofs.RoomLaws.{keeps_own}
use Rattle.images.proofs.StepLaws as laws
use Rattle.images.proofs.point.planned_points_hold.Goals as goal

pub returns : goal.returns
returns c = λ d e r new files first v snapshots root new_root holds same step plan good stores later newest objects volume can.
    laws.step_holds d e r new files first v snapshots root holds same step plan good
    (keeps_own d e r new (base_tree step (whole d r)) (base_plane step) files root new_root holds.sound (step_base d r step holds.sound can) same plan
    (step_sound d r step holds.sound can) (step_plane step r (whole d r) can) good stores)
    later newest objects volume can
