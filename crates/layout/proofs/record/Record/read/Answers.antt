use Rattle.std.proofs.Common.{◌≡◌, Some, None, refl, sym, ap, subst, ◌∙◌, arith}
use Rattle.std.proofs.lemmas.Bool.{false≢true}
use Rattle.layout.specs.Record.{KeepsLimits, change_of}
use Rattle.layout.specs.RecordReading.{change_in}
use Rattle.layout.proofs.RecordLaws.{change_takes, change_again}
use Rattle.layout.proofs.Formats.{some_is}
use Rattle.layout.proofs.record.Record.read.Goals as goal

pub returns-in_default-clause-only : goal.returns-in_default-clause-only
returns-in_default-clause-only c = λ d is e.
    let read : change_in c.args.layout c.args.bytes.now ≡ Some d = ap (change_in c.args.layout) e ∙ change_again c.args.layout d is in
    let none : None ≡ change_in c.args.layout c.args.bytes.now = c.in_default.ensures in
    cc

pub returns-then-keeps_limits-clause-found : goal.returns-then-keeps_limits-clause-found
returns-then-keeps_limits-clause-found c =
    let t = change_takes c.args.layout c.args.bytes.now (change_of c.in-Some.record) (λ i. omega (arith, c.type_inv.bytes i)) (sym c.in-Some.ensures) in
    (record { time = t.time; limits = c.if-keeps_limits.ensures.0 refl; fields = t.fields; attributes = t.attributes }, t.bytes_are)

pub returns-then-keeps_limits-clause-only : goal.returns-then-keeps_limits-clause-only
returns-then-keeps_limits-clause-only c = λ d is e.
    some_is (change_of c.in-Some.record) d (c.in-Some.ensures ∙ ap (change_in c.args.layout) e ∙ change_again c.args.layout d is)

pub returns-else-keeps_limits-clause-only : goal.returns-else-keeps_limits-clause-only
returns-else-keeps_limits-clause-only c = λ d is e.
    let same = some_is (change_of c.in-Some.record) d (c.in-Some.ensures ∙ ap (change_in c.args.layout) e ∙ change_again c.args.layout d is) in
    let kept : KeepsLimits (change_of c.in-Some.record) = subst KeepsLimits (sym same) is.limits in
    absurd (false≢true (c.if-keeps_limits.ensures.1 kept))
