use Rattle.std.proofs.Common.{◌≡◌, ◌∙◌, ℕ, nat_abs, w64, inr, refl, ap, sym, subst}
use Rattle.std.proofs.lemmas.Int.{to_z-of_z}
use Rattle.layout.specs.StateLimits.{limits_of}
use Rattle.paths.proofs.Looks.{looks_more}
use Rattle.calls.specs.Store.{PutsInto}
use Rattle.calls.proofs.StoreLaws.{store_comes, store_directory, store_nowhere}
use Rattle.calls.proofs.StoreSteps.{follows, passes, refuses, stops_later}
use Rattle.calls.proofs.TruncateLaws.{found_file, found_other}
use Rattle.calls.proofs.preparing.store.store_along.Goals as goal

pub returns-in_err-number : goal.returns-in_err-number
returns-in_err-number g c = passes _ c.from_residual.result c.from_residual.ensures.1 c.in_err-number.ensures
    (λ disk settled v table stands volume mounted errno is.
    store_nowhere (limits_of c.args.inodes.now.geometry) c.args.now v table c.args.path.now c.args.offset c.args.bytes.now errno (inr (c.requires.passed, is)))

pub returns-in_err-found : goal.returns-in_err-found
returns-in_err-found g c =
    stops_later c.from_residual-in_err-found.result c.from_residual-in_err-found.ensures.1 c.in_ok-number.ensures.looks c.in_err-found.ensures.looks (λ disk settled v stands. c.in_err-found.ensures.damaged disk settled v stands)

pub returns-in-File : goal.returns-in-File
returns-in-File g c = follows (looks_more c.in_ok-number.ensures.looks c.in_ok-found.ensures.looks) c.put_bytes.ensures (λ disk settled v table stands volume mounted r puts.
    let limits = limits_of c.args.inodes.now.geometry in
    let n = c.in_ok-number.number in
    let place : c.unsigned_abs.result ≡ nat_abs c.args.offset = c.unsigned_abs.ensures.value ∙ ap nat_abs (to_z-of_z w64 c.args.offset c.ranges.offset) in
    let is = found_file (v n) (sym (c.in_ok-found.ensures.found disk settled v (c.find_object.ensures.looks.kept disk settled v stands)) ∙ c.in-File.is) in
    store_comes limits c.args.now v table c.args.path.now c.args.offset c.args.bytes.now n (c.requires.passed, c.in_ok-number.ensures.leads disk settled v table stands volume) is r
    (subst (λ (k : ℕ). PutsInto limits c.args.now v table n k c.args.bytes.now r) place (puts is)))

pub returns-in_default : goal.returns-in_default
returns-in_default g c = refuses (looks_more c.in_ok-number.ensures.looks c.in_ok-found.ensures.looks) refl (λ disk settled v table stands volume mounted.
    let n = c.in_ok-number.number in
    let found = c.in_ok-found.ensures.found disk settled v (c.find_object.ensures.looks.kept disk settled v stands) in
    store_directory (limits_of c.args.inodes.now.geometry) c.args.now v table c.args.path.now c.args.offset c.args.bytes.now n (c.requires.passed, c.in_ok-number.ensures.leads disk settled v table stands volume)
    (c.in_ok-number.ensures.followed disk settled v stands volume refl) (found_other (v n) (λ e. c.in_default.not-File (found ∙ e))))
