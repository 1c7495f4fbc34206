use Rattle.images.specs.Roots.{whole}
use Rattle.images.specs.SnapshotSteps.{base_plane, base_tree}
use Rattle.images.proofs.BaseLaws.{step_apart, step_base, step_sound}
use Rattle.images.proofs.RoomLaws as laws
use Rattle.images.proofs.room.points_leave_room.Goals as goal

pub returns-clause-all : goal.returns-clause-all
returns-clause-all c = λ d e r new files root new_root sound same step can plan.
    laws.all_below d e r new (base_tree step (whole d r)) (base_plane step) files root new_root sound (step_base d r step sound can) same plan

pub returns-clause-own : goal.returns-clause-own
returns-clause-own c = λ d e r new files root new_root sound same step can plan good none mid below firsts.
    laws.but_own d e r new (base_tree step (whole d r)) (base_plane step) files root new_root sound (step_base d r step sound can) same plan
    (step_sound d r step sound can) (step_apart r (whole d r) step sound.own) none good mid below firsts
