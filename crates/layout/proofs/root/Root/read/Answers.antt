use Rattle.std.proofs.Common.{refl, sym, ap, subst, ◌∙◌, arith}
use Rattle.std.proofs.lemmas.Bool.{false≢true}
use Rattle.layout.specs.Root.{IsRoot}
use Rattle.layout.specs.RootReading.{root_in}
use Rattle.layout.proofs.RootLaws.{root_takes, root_again}
use Rattle.layout.proofs.Formats.{some_is}
use Rattle.layout.proofs.root.Root.read.Goals as goal

pub returns-in_default-clause-only : goal.returns-in_default-clause-only
returns-in_default-clause-only c = λ r is e. c.in_default.ensures ∙ ap root_in e ∙ root_again r is

pub returns-then-fits-clause-found : goal.returns-then-fits-clause-found
returns-then-fits-clause-found c =
    (c.if-fits.ensures.0 refl, root_takes c.args.bytes.now c.in-Some.root (λ i. omega (arith, c.type_inv.bytes i)) (sym c.in-Some.ensures))

pub returns-then-fits-clause-only : goal.returns-then-fits-clause-only
returns-then-fits-clause-only c = λ r is e. c.in-Some.ensures ∙ ap root_in e ∙ root_again r is

pub returns-else-fits-clause-only : goal.returns-else-fits-clause-only
returns-else-fits-clause-only c = λ r is e.
    let same = some_is c.in-Some.root r (c.in-Some.ensures ∙ ap root_in e ∙ root_again r is) in
    absurd (false≢true (c.if-fits.ensures.1 (subst IsRoot (sym same) is)))
