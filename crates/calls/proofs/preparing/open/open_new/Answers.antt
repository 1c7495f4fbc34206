use Rattle.std.proofs.Common.{◌∙◌, ℕ, Err, IfOk, inl, inr, refl, ap, subst}
use Rattle.std.proofs.lemmas.Bool.{not-false, not-true}
use Rattle.layout.specs.StateLimits.{limits_of}
use Rattle.model.specs.Records.{Change, create, file, stamped}
use Rattle.records.specs.Failures.{read_outcome}
use Rattle.records.specs.declared.failure.Failure.{Failure}
use Rattle.records.proofs.StandLaws.{no_look}
use Rattle.calls.specs.Making.{MakesIn}
use Rattle.calls.specs.declared.changed.Changing.{Changing}
use Rattle.calls.proofs.OpenLaws.{created_number}
use Rattle.calls.proofs.PrepareSteps.{fails, grants, refuses}
use Rattle.calls.proofs.preparing.open.open_new.Goals as goal

pub returns-then-not-flags-clause-opens : goal.returns-then-not-flags-clause-opens
returns-then-not-flags-clause-opens g c = refuses no_look refl (λ disk settled v table stands volume mounted. inl (not-true c.args.flags.creates c.if-not-flags.true, refl))

pub returns-in_err-changing-clause-opens : goal.returns-in_err-changing-clause-opens
returns-in_err-changing-clause-opens g c =
    let made = c.in_err-changing.ensures.prepares in
    fails {X = Changing} _ c.from_residual.result c.from_residual.ensures.1 made.looks made.own made.damaged (λ disk settled v table stands volume mounted errno is. inr (
      not-false c.args.flags.creates c.if-not-flags.false,
      subst (λ (f : Failure). IfOk (read_outcome {T = Changing} (Err f)) (MakesIn (limits_of c.args.inodes.now.geometry) c.args.now v c.args.parent c.args.name.items (file c.args.permissions))) is
          (made.answers disk settled v table stands volume mounted),
    ))

pub unreachable-requires : goal.unreachable-requires
unreachable-requires g c = c.in_default.ensures.none c.in_ok-changing.ensures.creates.0 c.in_ok-changing.ensures.creates.1

pub returns-clause-opens : goal.returns-clause-opens
returns-clause-opens g c =
    let prepares = c.in_ok-changing.ensures.prepares in
    grants prepares.looks prepares.ready prepares.timed prepares.does (λ disk settled v table stands volume mounted.
    let d = c.args.parent in
    let x = c.args.name.items in
    let what = file c.args.permissions in
    let makes = prepares.answers disk settled v table stands volume mounted in
    let same = created_number c.in_ok-changing.changing.change c.in-Some.number d makes.0 what x c.in-Some.ensures.some (ap (λ (h : Change). h.edit) makes.1) in
    (not-false c.args.flags.creates c.if-not-flags.false, (makes, makes.1 ∙ ap (λ (k : ℕ). stamped c.args.now (create k d what x)) same, refl, refl, refl)))
