use Rattle.std.proofs.Common.{◌≡◌, ◌&&◌, ◌∙◌, true, false, Ok, refl, sym}
use Rattle.std.specs.Prelude.{is_none}
use Rattle.layout.specs.StateLimits.{limits_of}
use Rattle.model.specs.Changing.{gives_owners}
use Rattle.model.specs.Volumes.{tree_of}
use Rattle.records.proofs.StandLaws.{no_look}
use Rattle.calls.proofs.PrepareSteps.{changes_as, fails_as, grants}
use Rattle.calls.proofs.SweptLaws.{comes_swept}
use Rattle.calls.proofs.preparing.chown.give_owners.Goals as goal

pub returns-then-keeps_both : goal.returns-then-keeps_both
returns-then-keeps_both g c = grants no_look tt tt (λ disk settled v stands. tt) (λ disk settled v table stands volume mounted some.
    let none : (is_none c.args.owner && is_none c.args.group) ≡ true = sym c.keeps_both.ensures ∙ c.if-keeps_both.true in
    rw none (refl, refl, refl))

pub returns-in_err-changing : goal.returns-in_err-changing
returns-in_err-changing g c =
    let given : (is_none c.args.owner && is_none c.args.group) ≡ false = sym c.keeps_both.ensures ∙ c.if-keeps_both.false in
    fails_as _ c.from_residual.result c.from_residual.ensures.1 c.in_err-changing.ensures (λ disk settled v table stands volume mounted errno told some. rw given (told some))

pub returns : goal.returns
returns g c =
    let given : (is_none c.args.owner && is_none c.args.group) ≡ false = sym c.keeps_both.ensures ∙ c.if-keeps_both.false in
    changes_as c.in_ok-changing.ensures (λ disk settled v table stands volume mounted told some.
    comes_swept (gives_owners c.args.now (tree_of v table) c.args.number c.args.owner c.args.group) (limits_of c.args.inodes.now.geometry) v table (Ok c.in_ok-changing.changing) (rw given (told some)))
