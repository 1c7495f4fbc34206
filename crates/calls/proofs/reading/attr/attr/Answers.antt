use Rattle.std.proofs.Common.{◌≡◌, ◌∙◌, false, true, refl, sym, ap}
use Rattle.std.proofs.lemmas.Bool.{not-false, not-true}
use Rattle.layout.specs.StateLimits.{limits_of}
use Rattle.model.specs.declared.limits.Limits.{Limits}
use Rattle.records.proofs.StandLaws.{no_look}
use Rattle.calls.proofs.AttrLaws.{attr_answers, attr_not_kept, attr_refused}
use Rattle.calls.proofs.SeeSteps.{follows, passes, refuses}
use Rattle.calls.proofs.reading.attr.attr.Goals as goal

pub returns-then-not-limits : goal.returns-then-not-limits
returns-then-not-limits g c = refuses no_look refl (λ disk settled v table stands volume.
    let limits = limits_of c.args.inodes.now.geometry in
    attr_not_kept v table limits c.args.follow c.args.path.now
    (sym (ap (λ (l : Limits). l.has_attributes) c.limits.ensures) ∙ not-true c.limits.result.has_attributes c.if-not-limits.true))

pub returns-in_err-number : goal.returns-in_err-number
returns-in_err-number g c =
    let limits = limits_of c.args.inodes.now.geometry in
    let has : limits.has_attributes ≡ true = sym (ap (λ (l : Limits). l.has_attributes) c.limits.ensures) ∙ not-false c.limits.result.has_attributes c.if-not-limits.false in
    passes _ c.from_residual.result c.from_residual.ensures.1 c.in_err-number.ensures
    (λ disk settled v table stands volume. attr_refused v table limits has c.args.follow c.args.path.now)

pub returns : goal.returns
returns g c =
    let limits = limits_of c.args.inodes.now.geometry in
    let has : limits.has_attributes ≡ true = sym (ap (λ (l : Limits). l.has_attributes) c.limits.ensures) ∙ not-false c.limits.result.has_attributes c.if-not-limits.false in
    follows c.in_ok-number.ensures.looks c.attr_number.ensures (λ disk settled v table stands volume told tells.
    attr_answers v table limits has volume c.volumes_tell_links.ensures c.in_ok-number.number c.args.follow c.args.path.now told (c.in_ok-number.ensures.leads disk settled v table stands volume) tells)
