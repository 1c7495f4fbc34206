use Rattle.std.proofs.Common.{refl, sym, ap, subst, ◌∙◌, arith}
use Rattle.std.proofs.lemmas.Bool.{false≢true}
use Rattle.layout.specs.Inode.{IsSomeInode}
use Rattle.layout.specs.InodeReading.{inode_in}
use Rattle.layout.proofs.InodeLaws.{inode_takes, inode_read}
use Rattle.layout.proofs.Formats.{some_is}
use Rattle.layout.proofs.inode.Inode.read.Goals as goal

pub returns-in_default-clause-only : goal.returns-in_default-clause-only
returns-in_default-clause-only c = λ i is of e.
    c.in_default.ensures ∙ ap (inode_in c.args.layout) e ∙ inode_read c.args.layout i is of

pub returns-then-fits_some-clause-found : goal.returns-then-fits_some-clause-found
returns-then-fits_some-clause-found c =
    let took = inode_takes c.args.layout c.args.bytes.now c.in-Some.inode (λ i. omega (arith, c.type_inv.bytes i)) (sym c.in-Some.ensures) in
    (c.if-fits_some.ensures.0 refl, took.1, took.0)

pub returns-then-fits_some-clause-only : goal.returns-then-fits_some-clause-only
returns-then-fits_some-clause-only c = λ i is of e. c.in-Some.ensures ∙ ap (inode_in c.args.layout) e ∙ inode_read c.args.layout i is of

pub returns-else-fits_some-clause-only : goal.returns-else-fits_some-clause-only
returns-else-fits_some-clause-only c = λ i is of e.
    let same = some_is c.in-Some.inode i (c.in-Some.ensures ∙ ap (inode_in c.args.layout) e ∙ inode_read c.args.layout i is of) in
    absurd (false≢true (c.if-fits_some.ensures.1 (subst (IsSomeInode) (sym same) is)))
