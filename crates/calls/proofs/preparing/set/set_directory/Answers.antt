use Rattle.std.proofs.Common.{◌≡◌, is_some, false, sym, ◌∙◌}
use Rattle.calls.proofs.PrepareSteps.{leaves}
use Rattle.calls.proofs.SetLaws.{directory_has_mode}
use Rattle.calls.proofs.preparing.set.set_directory.Goals as goal

pub returns : goal.returns
returns g c = leaves c.set_mode.ensures (λ disk settled v table stands volume mounted r given is.
    let none : is_some c.args.settings.size ≡ false = sym c.is_some.ensures ∙ c.if-is_some.false in
    rw none (given (directory_has_mode (v c.args.number) is)))
