use Rattle.std.proofs.Common.{◌≡◌, ◌∙◌, ℕ, nat_abs, w64, ap, subst}
use Rattle.std.proofs.lemmas.Int.{to_z-of_z}
use Rattle.layout.specs.StateLimits.{limits_of}
use Rattle.model.specs.Changing.{sets_both, truncates_file}
use Rattle.model.specs.Volumes.{tree_of}
use Rattle.calls.specs.Changing.{ComesOrStays}
use Rattle.calls.proofs.PrepareSteps.{leaves}
use Rattle.calls.proofs.SetLaws.{truncate_file_comes}
use Rattle.calls.proofs.preparing.set.set_size.Goals as goal

pub returns-in-None : goal.returns-in-None
returns-in-None g c = leaves c.truncate_file.ensures (λ disk settled v table stands volume mounted r given is.
    let limits = limits_of c.args.inodes.now.geometry in
    let size : c.unsigned_abs.result ≡ nat_abs c.args.size = c.unsigned_abs.ensures.value ∙ ap nat_abs (to_z-of_z w64 c.args.size c.ranges.size) in
    rw c.in-None.is (subst (λ (k : ℕ). ComesOrStays (truncates_file c.args.now (tree_of v table) c.args.number k) limits v table r) size
    (truncate_file_comes limits c.args.now v table c.args.number c.unsigned_abs.result r (given is))))

pub returns-in-Some : goal.returns-in-Some
returns-in-Some g c = leaves c.set_both.ensures (λ disk settled v table stands volume mounted r given is.
    let limits = limits_of c.args.inodes.now.geometry in
    let size : c.unsigned_abs-in-Some.result ≡ nat_abs c.args.size = c.unsigned_abs-in-Some.ensures.value ∙ ap nat_abs (to_z-of_z w64 c.args.size c.ranges.size) in
    rw c.in-Some.is (subst (λ (k : ℕ). ComesOrStays (sets_both c.args.now (tree_of v table) c.args.number c.in-Some.mode k) limits v table r) size (given is)))
