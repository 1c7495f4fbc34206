use Rattle.std.proofs.Common.{Ok}
use Rattle.layout.specs.StateLimits.{limits_of}
use Rattle.model.specs.Changing.{sets_mode}
use Rattle.model.specs.Volumes.{tree_of}
use Rattle.calls.proofs.PrepareSteps.{changes_as, fails_as}
use Rattle.calls.proofs.SweptLaws.{comes_swept}
use Rattle.calls.proofs.preparing.set.set_mode.Goals as goal

pub returns-in_err-changing : goal.returns-in_err-changing
returns-in_err-changing g c =
    fails_as _ c.from_residual.result c.from_residual.ensures.1 c.in_err-changing.ensures (λ disk settled v table stands volume mounted errno given is. rw c.in-Some.is (given is))

pub returns : goal.returns
returns g c = changes_as c.in_ok-changing.ensures (λ disk settled v table stands volume mounted given is.
    comes_swept (sets_mode c.args.now (tree_of v table) c.args.number c.args.mode) (limits_of c.args.inodes.now.geometry) v table (Ok c.in_ok-changing.changing) (rw c.in-Some.is (given is)))
