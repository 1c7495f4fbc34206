use Rattle.std.proofs.Common.{refl, sym, ap, subst, ◌∙◌, arith}
use Rattle.std.proofs.lemmas.Bool.{false≢true}
use Rattle.std.proofs.lemmas.Option.{none-some}
use Rattle.layout.specs.Directory.{Named, IsEntry, named_of, entry_in}
use Rattle.layout.proofs.EntryLaws.{entry_takes, entry_again}
use Rattle.layout.proofs.Formats.{some_is}
use Rattle.layout.proofs.entry.Entry.read.Goals as goal

pub returns-in_default-clause-only : goal.returns-in_default-clause-only
returns-in_default-clause-only c = λ e is begins.
    none-some e (c.in_default.ensures ∙ ap entry_in begins.1 ∙ entry_again 65536 e begins.0 (omega arith) is)

pub returns-then-fits-clause-found : goal.returns-then-fits-clause-found
returns-then-fits-clause-found c =
    (c.if-fits.ensures.0 refl, entry_takes c.args.bytes.now (named_of c.in-Some.entry) (λ i. omega (arith, c.type_inv.bytes i)) (sym c.in-Some.ensures))

pub returns-then-fits-clause-only : goal.returns-then-fits-clause-only
returns-then-fits-clause-only c = λ e is begins.
    some_is (named_of c.in-Some.entry) e (c.in-Some.ensures ∙ ap entry_in begins.1 ∙ entry_again 65536 e begins.0 (omega arith) is)

pub returns-else-fits-clause-only : goal.returns-else-fits-clause-only
returns-else-fits-clause-only c = λ e is begins.
    let same = some_is (named_of c.in-Some.entry) e (c.in-Some.ensures ∙ ap entry_in begins.1 ∙ entry_again 65536 e begins.0 (omega arith) is) in
    absurd (false≢true (c.if-fits.ensures.1 (subst (λ (n : Named). IsEntry 65536 n) (sym same) is)))
