use Rattle.std.proofs.Common.{◌∙◌, Ok, Err, refl, sym}
use Rattle.layout.specs.StateLimits.{limits_of}
use Rattle.model.specs.declared.errno.Errno.TheVariants.{ENOTDIR}
use Rattle.paths.proofs.Looks.{looks_more}
use Rattle.calls.proofs.ListLaws.{list_answers, list_refused}
use Rattle.calls.proofs.SeeSteps.{grants, passes, refuses, stops_later}
use Rattle.calls.proofs.reading.list.list.Goals as goal

pub returns-in_err-number : goal.returns-in_err-number
returns-in_err-number g c = passes _ c.from_residual.result c.from_residual.ensures.1 c.in_err-number.ensures
    (λ disk settled v table stands volume. list_refused (limits_of c.args.inodes.now.geometry) v table volume c.args.path.now)

pub returns-in_err-found : goal.returns-in_err-found
returns-in_err-found g c =
    stops_later c.from_residual-in_err-found.result c.from_residual-in_err-found.ensures.1 c.in_ok-number.ensures.looks c.in_err-found.ensures.looks (λ disk settled v stands. c.in_err-found.ensures.damaged disk settled v stands)

pub returns-then-not-found : goal.returns-then-not-found
returns-then-not-found g c = refuses (looks_more c.in_ok-number.ensures.looks c.in_ok-found.ensures.looks) refl (λ disk settled v table stands volume.
    let text = c.args.path.now in
    let now = c.lead.ensures.looks.kept disk settled v stands in
    list_answers (limits_of c.args.inodes.now.geometry) v table volume c.in_ok-number.number text (Err ENOTDIR) (c.in_ok-number.ensures.leads disk settled v table stands volume)
    (sym (c.in_ok-found.ensures.found disk settled v now) ∙ c.if-not-found.true, refl))

pub returns-in_err-names : goal.returns-in_err-names
returns-in_err-names g c =
    stops_later c.from_residual-in_err-names.result c.from_residual-in_err-names.ensures.1
    (looks_more c.in_ok-number.ensures.looks c.in_ok-found.ensures.looks) c.in_err-names.ensures.looks (λ disk settled v stands. c.in_err-names.ensures.damaged disk settled v stands)

pub returns : goal.returns
returns g c = grants (looks_more (looks_more c.in_ok-number.ensures.looks c.in_ok-found.ensures.looks) c.in_ok-names.ensures.looks) (λ disk settled v table stands volume.
    let text = c.args.path.now in
    let now = c.lead.ensures.looks.kept disk settled v stands in
    list_answers (limits_of c.args.inodes.now.geometry) v table volume c.in_ok-number.number text (Ok c.in_ok-names.names) (c.in_ok-number.ensures.leads disk settled v table stands volume) (
      sym (c.in_ok-found.ensures.found disk settled v now) ∙ c.if-not-found.false,
      c.in_ok-names.ensures.found disk settled v (c.is_directory_at.ensures.looks.kept disk settled v now),
    ))
