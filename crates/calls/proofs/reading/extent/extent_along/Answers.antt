use Rattle.std.proofs.Common.{◌∙◌, ℕ, nat_abs, w64, inr, Some, Ok, Err, refl, ap, subst}
use Rattle.std.proofs.lemmas.Int.{to_z-of_z}
use Rattle.layout.specs.StateLimits.{limits_of}
use Rattle.model.specs.declared.errno.Errno.TheVariants.{EISDIR}
use Rattle.paths.proofs.Looks.{looks_more}
use Rattle.records.specs.Reading.{TellsNumber}
use Rattle.calls.proofs.ExtentLaws.{extent_led, extent_led_nowhere}
use Rattle.calls.proofs.SeeSteps.{grants, passes, refuses, stops_later}
use Rattle.calls.proofs.reading.extent.extent_along.Goals as goal

pub returns-in_err-number : goal.returns-in_err-number
returns-in_err-number g c = passes _ c.from_residual.result c.from_residual.ensures.1 c.in_err-number.ensures
    (λ disk settled v table stands volume errno is over stored shows told. extent_led_nowhere (limits_of c.args.inodes.now.geometry) stored v table c.args.path.now c.args.offset errno (inr (c.requires.passed, is)))

pub returns-in_err-found : goal.returns-in_err-found
returns-in_err-found g c =
    stops_later c.from_residual-in_err-found.result c.from_residual-in_err-found.ensures.1 c.in_ok-number.ensures.looks c.in_err-found.ensures.looks (λ disk settled v stands. c.in_err-found.ensures.damaged disk settled v stands)

pub returns-in-Some : goal.returns-in-Some
returns-in-Some g c = grants (looks_more c.in_ok-number.ensures.looks c.in_ok-found.ensures.looks) (λ disk settled v table stands volume over stored shows told.
    let text = c.args.path.now in
    let n = c.in_ok-number.number in
    let start = c.unsigned_abs.ensures.value ∙ ap nat_abs (to_z-of_z w64 c.args.offset c.ranges.offset) in
    let found = c.in_ok-found.ensures.found disk settled v (c.find_object.ensures.looks.kept disk settled v stands) over stored (c.find_object.ensures.looks.reads.same over shows) told in
    extent_led (limits_of c.args.inodes.now.geometry) stored v table text c.args.offset n (Ok c.in-Some.extent) (c.requires.passed, c.in_ok-number.ensures.leads disk settled v table stands volume)
    (c.in_ok-number.ensures.followed disk settled v stands volume refl)
    (subst (λ (k : ℕ). TellsNumber v (stored n) n k (Some c.in-Some.extent)) start (subst (TellsNumber v (stored n) n c.unsigned_abs.result) c.in-Some.is found)))

pub returns-in-None : goal.returns-in-None
returns-in-None g c = refuses (looks_more c.in_ok-number.ensures.looks c.in_ok-found.ensures.looks) refl (λ disk settled v table stands volume over stored shows told.
    let text = c.args.path.now in
    let n = c.in_ok-number.number in
    let found = c.in_ok-found.ensures.found disk settled v (c.find_object.ensures.looks.kept disk settled v stands) over stored (c.find_object.ensures.looks.reads.same over shows) told in
    extent_led (limits_of c.args.inodes.now.geometry) stored v table text c.args.offset n (Err EISDIR) (c.requires.passed, c.in_ok-number.ensures.leads disk settled v table stands volume)
    (c.in_ok-number.ensures.followed disk settled v stands volume refl) (subst (TellsNumber v (stored n) n c.unsigned_abs.result) c.in-None.is found, refl))
