use Rattle.std.proofs.Common.{◌≡◌, ◌∙◌, sym}
use Rattle.std.proofs.lemmas.Slice.Eq.{bytes_eq-Decides}
use Rattle.layout.specs.SnapRoot.{snapshot_of}
use Rattle.loading.proofs.SnapshotLaws.{as_spelled, unequal, unless}
use Rattle.loading.proofs.snapshots.differ.Goals as goal

pub returns-then-a-b : goal.returns-then-a-b
returns-then-a-b c =
    let v = snapshot_of c.in-Some.a in
    let w = snapshot_of c.in-Some-read.b in
    let e = as_spelled c.args.geometry.layout c.args.a.now c.args.b.now v w
    (record { is = c.in-Some.ensures.found.0; layout_is = c.in-Some.ensures.found.1 ∙ c.layout.ensures; spelled = c.in-Some.ensures.found.2 })
    (record { is = c.in-Some-read.ensures.found.0; layout_is = c.in-Some-read.ensures.found.1 ∙ c.layout-2.ensures; spelled = c.in-Some-read.ensures.found.2 })
    (λ s is. c.in-Some.ensures.only s is.is (is.layout_is ∙ sym c.layout.ensures) is.spelled) (λ s is. c.in-Some-read.ensures.only s is.is (is.layout_is ∙ sym c.layout-2.ensures) is.spelled) in
    let names = unless c.ne.result _ (v.name ≡ w.name) c.ne.ensures (bytes_eq-Decides v.name w.name) in
    (λ yes. e.1 (names.0 yes, c.if-a-b.true), λ apart. names.1 (e.0 apart).0)

pub returns-else-a-b : goal.returns-else-a-b
returns-else-a-b c =
    let v = snapshot_of c.in-Some.a in
    let w = snapshot_of c.in-Some-read.b in
    let e = as_spelled c.args.geometry.layout c.args.a.now c.args.b.now v w
    (record { is = c.in-Some.ensures.found.0; layout_is = c.in-Some.ensures.found.1 ∙ c.layout.ensures; spelled = c.in-Some.ensures.found.2 })
    (record { is = c.in-Some-read.ensures.found.0; layout_is = c.in-Some-read.ensures.found.1 ∙ c.layout-2.ensures; spelled = c.in-Some-read.ensures.found.2 })
    (λ s is. c.in-Some.ensures.only s is.is (is.layout_is ∙ sym c.layout.ensures) is.spelled) (λ s is. c.in-Some-read.ensures.only s is.is (is.layout_is ∙ sym c.layout-2.ensures) is.spelled) in
    (λ yes. absurd (unequal v.order w.order yes c.if-a-b.false), λ apart. absurd ((e.0 apart).1 c.if-a-b.false))
