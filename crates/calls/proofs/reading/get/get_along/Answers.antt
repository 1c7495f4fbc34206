use Rattle.std.proofs.Common.{◌∙◌, ℕ, nat_abs, w64, inr, Some, Ok, Err, refl, ap, subst}
use Rattle.std.proofs.lemmas.Int.{to_z-of_z}
use Rattle.layout.specs.StateLimits.{limits_of}
use Rattle.model.specs.declared.errno.Errno.TheVariants.{EISDIR}
use Rattle.paths.proofs.Looks.{looks_more}
use Rattle.records.specs.Reading.{ReadsNumber}
use Rattle.calls.proofs.GetLaws.{get_led, get_led_nowhere}
use Rattle.calls.proofs.SeeSteps.{grants, passes, refuses, stops_later}
use Rattle.calls.proofs.reading.get.get_along.Goals as goal

pub returns-in_err-number : goal.returns-in_err-number
returns-in_err-number g c = passes _ c.from_residual.result c.from_residual.ensures.1 c.in_err-number.ensures
    (λ disk settled v table stands volume errno is. get_led_nowhere (limits_of c.args.inodes.now.geometry) v table c.args.path.now c.args.offset c.args.count errno (inr (c.requires.passed, is)))

pub returns-in_err-found : goal.returns-in_err-found
returns-in_err-found g c =
    stops_later c.from_residual-in_err-found.result c.from_residual-in_err-found.ensures.1 c.in_ok-number.ensures.looks c.in_err-found.ensures.looks (λ disk settled v stands. c.in_err-found.ensures.damaged disk settled v stands)

pub returns-in-Some : goal.returns-in-Some
returns-in-Some g c = grants (looks_more c.in_ok-number.ensures.looks c.in_ok-found.ensures.looks) (λ disk settled v table stands volume.
    let text = c.args.path.now in
    let n = c.in_ok-number.number in
    let start = c.unsigned_abs.ensures.value ∙ ap nat_abs (to_z-of_z w64 c.args.offset c.ranges.offset) in
    let found = c.in_ok-found.ensures.found disk settled v (c.find_object.ensures.looks.kept disk settled v stands) in
    get_led (limits_of c.args.inodes.now.geometry) v table text c.args.offset c.args.count n (Ok c.in-Some.text) (c.requires.passed, c.in_ok-number.ensures.leads disk settled v table stands volume)
    (c.in_ok-number.ensures.followed disk settled v stands volume refl)
    (subst (λ (k : ℕ). ReadsNumber v n k c.args.count (Some c.in-Some.text)) start (subst (ReadsNumber v n c.unsigned_abs.result c.args.count) c.in-Some.is found)))

pub returns-in-None : goal.returns-in-None
returns-in-None g c = refuses (looks_more c.in_ok-number.ensures.looks c.in_ok-found.ensures.looks) refl (λ disk settled v table stands volume.
    let text = c.args.path.now in
    let n = c.in_ok-number.number in
    let found = c.in_ok-found.ensures.found disk settled v (c.find_object.ensures.looks.kept disk settled v stands) in
    get_led (limits_of c.args.inodes.now.geometry) v table text c.args.offset c.args.count n (Err EISDIR) (c.requires.passed, c.in_ok-number.ensures.leads disk settled v table stands volume)
    (c.in_ok-number.ensures.followed disk settled v stands volume refl) (subst (ReadsNumber v n c.unsigned_abs.result c.args.count) c.in-None.is found, refl))
