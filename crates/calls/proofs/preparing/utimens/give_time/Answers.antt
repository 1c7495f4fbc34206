use Rattle.std.proofs.Common.{◌≡◌, ◌∙◌, Some, None, Ok, refl, sym}
use Rattle.layout.specs.StateLimits.{limits_of}
use Rattle.model.specs.Changing.{gives_time, meant_time}
use Rattle.model.specs.Volumes.{tree_of}
use Rattle.records.proofs.StandLaws.{no_look}
use Rattle.calls.proofs.PrepareSteps.{changes_as, fails_as, grants}
use Rattle.calls.proofs.SweptLaws.{comes_swept}
use Rattle.calls.proofs.preparing.utimens.give_time.Goals as goal

pub returns-in_default : goal.returns-in_default
returns-in_default g c = grants no_look tt tt (λ disk settled v stands. tt) (λ disk settled v table stands volume mounted some.
    let none : meant_time c.args.now c.args.time ≡ None = sym c.meant.ensures ∙ c.in_default.is in
    rw none (refl, refl, refl))

pub returns-in_err-changing : goal.returns-in_err-changing
returns-in_err-changing g c =
    let is : meant_time c.args.now c.args.time ≡ Some c.in-Some.modified = sym c.meant.ensures ∙ c.in-Some.is in
    fails_as _ c.from_residual.result c.from_residual.ensures.1 c.in_err-changing.ensures (λ disk settled v table stands volume mounted errno given some. rw is (given some))

pub returns : goal.returns
returns g c =
    let is : meant_time c.args.now c.args.time ≡ Some c.in-Some.modified = sym c.meant.ensures ∙ c.in-Some.is in
    changes_as c.in_ok-changing.ensures (λ disk settled v table stands volume mounted given some.
    comes_swept (gives_time c.args.now (tree_of v table) c.args.number (meant_time c.args.now c.args.time)) (limits_of c.args.inodes.now.geometry) v table (Ok c.in_ok-changing.changing) (rw is (given some)))
