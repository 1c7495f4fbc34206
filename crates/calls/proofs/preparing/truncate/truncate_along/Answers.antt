use Rattle.std.proofs.Common.{◌≡◌, ◌∙◌, ℕ, nat_abs, w64, inr, Err, refl, ap, sym, subst, ◌≤◌, arith}
use Rattle.std.proofs.lemmas.Int.{to_z-of_z}
use Rattle.layout.specs.Limits.{Sizes}
use Rattle.layout.specs.StateLimits.{limits_of}
use Rattle.model.specs.declared.errno.Errno.TheVariants.{EISDIR}
use Rattle.paths.proofs.Looks.{looks_more}
use Rattle.calls.proofs.PrepareSteps.{follows, passes, refuses, stops_later}
use Rattle.calls.proofs.TruncateLaws.{TruncatesNumber, truncates_found, found_file, found_other, truncate_comes, truncate_nowhere}
use Rattle.calls.proofs.preparing.truncate.truncate_along.Goals as goal

pub returns-in_err-number : goal.returns-in_err-number
returns-in_err-number g c = passes _ c.from_residual.result c.from_residual.ensures.1 c.in_err-number.ensures
    (λ disk settled v table stands volume mounted errno is.
    truncate_nowhere (limits_of c.args.inodes.now.geometry) c.args.now v table c.args.path.now c.args.size errno (inr (c.requires.passed, is)))

pub returns-in_err-found : goal.returns-in_err-found
returns-in_err-found g c =
    stops_later c.from_residual-in_err-found.result c.from_residual-in_err-found.ensures.1 c.in_ok-number.ensures.looks c.in_err-found.ensures.looks (λ disk settled v stands. c.in_err-found.ensures.damaged disk settled v stands)

pub truncate_file-requires-clause-within : goal.truncate_file-requires-clause-within
truncate_file-requires-clause-within g c =
    let size : c.unsigned_abs.result ≡ nat_abs c.args.size = c.unsigned_abs.ensures.value ∙ ap nat_abs (to_z-of_z w64 c.args.size c.ranges.size) in
    subst (λ (z : Sizes). c.unsigned_abs.result ≤ (limits_of z).file_bytes) (sym (c.in_ok-found.ensures.looks.geometry ∙ c.in_ok-number.ensures.looks.geometry)) (omega (arith, size, c.requires.within))

pub returns-in-File : goal.returns-in-File
returns-in-File g c = follows (looks_more c.in_ok-number.ensures.looks c.in_ok-found.ensures.looks) c.truncate_file.ensures (λ disk settled v table stands volume mounted r truncates_file.
    let text = c.args.path.now in
    let limits = limits_of c.args.inodes.now.geometry in
    let n = c.in_ok-number.number in
    let size : c.unsigned_abs.result ≡ nat_abs c.args.size = c.unsigned_abs.ensures.value ∙ ap nat_abs (to_z-of_z w64 c.args.size c.ranges.size) in
    let is = found_file (v n) (sym (c.in_ok-found.ensures.found disk settled v (c.find_object.ensures.looks.kept disk settled v stands)) ∙ c.in-File.is) in
    truncate_comes limits c.args.now v table text c.args.size n (c.requires.passed, c.in_ok-number.ensures.leads disk settled v table stands volume)
    (c.in_ok-number.ensures.followed disk settled v stands volume refl) r
    (subst (λ (m : ℕ). TruncatesNumber limits c.args.now v table n m r) size (truncates_found limits c.args.now v table n c.unsigned_abs.result r is truncates_file)))

pub returns-in_default : goal.returns-in_default
returns-in_default g c = refuses (looks_more c.in_ok-number.ensures.looks c.in_ok-found.ensures.looks) refl (λ disk settled v table stands volume mounted.
    let text = c.args.path.now in
    let n = c.in_ok-number.number in
    let found = c.in_ok-found.ensures.found disk settled v (c.find_object.ensures.looks.kept disk settled v stands) in
    truncate_comes (limits_of c.args.inodes.now.geometry) c.args.now v table text c.args.size n (c.requires.passed, c.in_ok-number.ensures.leads disk settled v table stands volume)
    (c.in_ok-number.ensures.followed disk settled v stands volume refl) (Err EISDIR) (found_other (v n) (λ e. c.in_default.not-File (found ∙ e)), refl))
