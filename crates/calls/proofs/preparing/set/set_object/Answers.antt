use Rattle.std.proofs.Common.{◌∙◌, sym, subst, ◌≤◌, nat_abs, IfSome}
use Rattle.layout.specs.Limits.{Sizes}
use Rattle.layout.specs.StateLimits.{limits_of}
use Rattle.model.specs.Changing.{sets_object}
use Rattle.model.specs.Trees.{Object}
use Rattle.model.specs.Volumes.{tree_of}
use Rattle.calls.specs.Changing.{ComesOrStays}
use Rattle.calls.proofs.PrepareSteps.{follows, stops}
use Rattle.calls.proofs.SetLaws.{directory_left, file_object}
use Rattle.calls.proofs.TruncateLaws.{found_file}
use Rattle.calls.proofs.preparing.set.set_object.Goals as goal

pub returns-in_err-found : goal.returns-in_err-found
returns-in_err-found g c = stops c.from_residual.result c.from_residual.ensures.1 c.in_err-found.ensures.looks (λ disk settled v stands. c.in_err-found.ensures.damaged disk settled v stands)

pub set_file-requires-clause-within : goal.set_file-requires-clause-within
set_file-requires-clause-within g c =
    subst (λ (z : Sizes). IfSome c.args.settings.size (λ size. nat_abs size ≤ (limits_of z).file_bytes)) (sym c.in_ok-found.ensures.looks.geometry) c.requires.within

pub returns-in-File : goal.returns-in-File
returns-in-File g c = follows c.in_ok-found.ensures.looks c.set_file.ensures (λ disk settled v table stands volume mounted r given o object plain.
    let limits = limits_of c.args.inodes.now.geometry in
    let n = c.args.number in
    let is = found_file (v n) (sym (c.in_ok-found.ensures.found disk settled v stands) ∙ c.in-File.is) in
    subst (λ (x : Object). ComesOrStays (sets_object c.args.now (tree_of v table) c.args.settings x) limits v table r) (file_object n (v n) o is object) (given is))

pub returns-in_default : goal.returns-in_default
returns-in_default g c = follows c.in_ok-found.ensures.looks c.set_directory.ensures (λ disk settled v table stands volume mounted r given o object plain.
    let limits = limits_of c.args.inodes.now.geometry in
    let n = c.args.number in
    let found = c.in_ok-found.ensures.found disk settled v stands in
    let is = directory_left n (v n) o (λ e. c.in_default.not-File (found ∙ e)) plain object in
    subst (λ (x : Object). ComesOrStays (sets_object c.args.now (tree_of v table) c.args.settings x) limits v table r) is.1 (given is.0))
