use Rattle.std.proofs.Common.{◌↔◌, ℕ, IfOk, IsTrue, subst}
use Rattle.model.specs.Records.{IsBelow}
use Rattle.model.specs.Volumes.{entries}
use Rattle.images.specs.Soundness.{by_bytes}
use Rattle.calls.proofs.preparing.rename.comes_below.Goals as goal

pub returns-clause-below : goal.returns-clause-below
returns-clause-below g c = λ disk settled v stands name volume there tells.
    subst (λ (k : ℕ). IfOk c.goes_below.result (λ below. IsTrue below ↔ IsBelow (entries v) c.args.number k)) c.here.ensures
    (c.goes_below.ensures.below by_bytes name disk settled v stands volume there)

pub returns-clause-damaged : goal.returns-clause-damaged
returns-clause-damaged g c = λ disk settled v stands is. c.goes_below.ensures.damaged by_bytes disk settled v stands is
