use Rattle.std.proofs.Common.{◌∙◌, Ok, Err, refl}
use Rattle.layout.specs.StateLimits.{limits_of}
use Rattle.model.specs.declared.errno.Errno.TheVariants.{EINVAL}
use Rattle.paths.proofs.Looks.{looks_more}
use Rattle.calls.proofs.SeeSteps.{grants, passes, refuses, stops_later}
use Rattle.calls.proofs.StatLaws.{link_answers, link_refused, link_text}
use Rattle.calls.proofs.reading.readlink.readlink.Goals as goal

pub returns-in_err-number : goal.returns-in_err-number
returns-in_err-number g c = passes _ c.from_residual.result c.from_residual.ensures.1 c.in_err-number.ensures
    (λ disk settled v table stands volume. link_refused v table (limits_of c.args.inodes.now.geometry) c.args.path.now)

pub returns-in_err-found : goal.returns-in_err-found
returns-in_err-found g c =
    stops_later c.from_residual-in_err-found.result c.from_residual-in_err-found.ensures.1 c.in_ok-number.ensures.looks c.in_err-found.ensures.looks (λ disk settled v stands. c.in_err-found.ensures.damaged disk settled v stands)

pub returns-in_err-text-in-Link : goal.returns-in_err-text-in-Link
returns-in_err-text-in-Link g c =
    stops_later c.from_residual-in_err-text-in-Link.result c.from_residual-in_err-text-in-Link.ensures.1
    (looks_more c.in_ok-number.ensures.looks c.in_ok-found.ensures.looks) c.in_err-text-in-Link.ensures.looks c.in_err-text-in-Link.ensures.damaged

pub returns-in_ok-text-in-Link : goal.returns-in_ok-text-in-Link
returns-in_ok-text-in-Link g c = grants (looks_more (looks_more c.in_ok-number.ensures.looks c.in_ok-found.ensures.looks) c.in_ok-text-in-Link.ensures.looks) (λ disk settled v table stands volume.
    let text = c.args.path.now in
    let n = c.in_ok-number.number in
    let now = c.lead.ensures.looks.kept disk settled v stands in
    link_answers v table (limits_of c.args.inodes.now.geometry) text n (Ok c.new.result) (c.in_ok-number.ensures.leads disk settled v table stands volume)
    (link_text (v n) c.in_ok-found.found c.new.result (c.in_ok-found.ensures.found disk settled v now) c.in-Link.is
    (c.new.ensures ∙ c.in_ok-text-in-Link.ensures.found disk settled v (c.kind_at.ensures.looks.kept disk settled v now))))

pub returns-in_default : goal.returns-in_default
returns-in_default g c = refuses (looks_more c.in_ok-number.ensures.looks c.in_ok-found.ensures.looks) refl (λ disk settled v table stands volume.
    let text = c.args.path.now in
    let now = c.lead.ensures.looks.kept disk settled v stands in
    link_answers v table (limits_of c.args.inodes.now.geometry) text c.in_ok-number.number (Err EINVAL) (c.in_ok-number.ensures.leads disk settled v table stands volume)
    (λ is. c.in_default.not-Link (c.in_ok-found.ensures.found disk settled v now ∙ is), refl))
