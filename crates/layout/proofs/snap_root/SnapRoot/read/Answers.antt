use Rattle.std.proofs.Common.{refl, sym, ap, subst, ◌∙◌, arith}
use Rattle.std.proofs.lemmas.Bool.{false≢true}
use Rattle.std.proofs.lemmas.Option.{none-some}
use Rattle.layout.specs.SnapRoot.{Snapshot, IsSnapshot, snapshot_of, snapshot_in}
use Rattle.layout.proofs.SnapshotLaws.{snapshot_takes, snapshot_read}
use Rattle.layout.proofs.Formats.{some_is}
use Rattle.layout.proofs.snap_root.SnapRoot.read.Goals as goal

pub returns-in_default-clause-only : goal.returns-in_default-clause-only
returns-in_default-clause-only c = λ v is of e. none-some v (c.in_default.ensures ∙ ap (snapshot_in c.args.layout) e ∙ snapshot_read c.args.layout v is of)

pub returns-then-fits-clause-found : goal.returns-then-fits-clause-found
returns-then-fits-clause-found c =
    let took = snapshot_takes c.args.layout c.args.bytes.now (snapshot_of c.in-Some.root) (λ i. omega (arith, c.type_inv.bytes i)) (sym c.in-Some.ensures) in
    (c.if-fits.ensures.0 refl, took.1, took.0)

pub returns-then-fits-clause-only : goal.returns-then-fits-clause-only
returns-then-fits-clause-only c = λ v is of e. some_is (snapshot_of c.in-Some.root) v (c.in-Some.ensures ∙ ap (snapshot_in c.args.layout) e ∙ snapshot_read c.args.layout v is of)

pub returns-else-fits-clause-only : goal.returns-else-fits-clause-only
returns-else-fits-clause-only c = λ v is of e.
    let same = some_is (snapshot_of c.in-Some.root) v (c.in-Some.ensures ∙ ap (snapshot_in c.args.layout) e ∙ snapshot_read c.args.layout v is of) in
    absurd (false≢true (c.if-fits.ensures.1 (subst (λ (u : Snapshot). IsSnapshot u) (sym same) is)))
