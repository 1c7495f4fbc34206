use Rattle.std.proofs.Common.{◌∙◌, inl, inr, refl, sym}
use Rattle.calls.proofs.PrepareSteps.{follows, refuses, stops}
use Rattle.calls.proofs.preparing.rmdir.remove_entry.Goals as goal

pub returns-in_err-found : goal.returns-in_err-found
returns-in_err-found g c = stops c.from_residual.result c.from_residual.ensures.1 c.in_err-found.ensures.looks (λ disk settled v stands. c.in_err-found.ensures.damaged disk settled v stands)

pub returns-in-Directory : goal.returns-in-Directory
returns-in-Directory g c = follows c.in_ok-found.ensures.looks c.prepare_removal.ensures
    (λ disk settled v table stands volume mounted r told. inr (sym (c.in_ok-found.ensures.found disk settled v stands) ∙ c.in-Directory.is, told))

pub returns-in_default : goal.returns-in_default
returns-in_default g c = refuses c.in_ok-found.ensures.looks refl
    (λ disk settled v table stands volume mounted. inl (λ is. c.in_default.not-Directory (c.in_ok-found.ensures.found disk settled v stands ∙ is), refl))
