use Rattle.std.proofs.Common.{◌≡◌, ◌∙◌, Option, Some, sym, subst}
use Rattle.std.specs.Prelude.{IfSome}
use Rattle.std.proofs.lemmas.Bool.{false≢true}
use Rattle.layout.specs.Inode.{IsInode, IsSomeInode}
use Rattle.layout.specs.declared.inode.Inode.{Inode}
use Rattle.loading.proofs.inodes.read_inode.Goals as goal

pub returns-then-fits-clause-only : goal.returns-then-fits-clause-only
returns-then-fits-clause-only c = λ i is spelled.
    let some : IsSomeInode i = record { sizes = c.args.geometry; are_sizes = c.inodes.ensures.within; fits = is } in
    c.in_ok-inode.ensures.only i some (is.layout ∙ sym c.layout.ensures) spelled

pub returns-else-fits-clause-only : goal.returns-else-fits-clause-only
returns-else-fits-clause-only c = λ i is spelled.
    let some : IsSomeInode i = record { sizes = c.args.geometry; are_sizes = c.inodes.ensures.within; fits = is } in
    let here : Some c.in_ok-inode.inode ≡ Some i = c.in_ok-inode.ensures.only i some (is.layout ∙ sym c.layout.ensures) spelled in
    absurd (false≢true (sym c.if-fits.false ∙ c.fits.ensures.1 (subst (λ (o : Option Inode). IfSome o (IsInode c.args.geometry)) (sym here) is)))
