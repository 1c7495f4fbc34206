use Rattle.std.proofs.Common.{◌≡◌, ◌∙◌, true, false, refl, sym, ap}
use Rattle.std.proofs.lemmas.Bool.{not-false, not-true}
use Rattle.layout.specs.StateLimits.{limits_of}
use Rattle.model.specs.declared.limits.Limits.{Limits}
use Rattle.model.specs.Changing.{gives_owners}
use Rattle.model.specs.Paths.{text_tests}
use Rattle.model.specs.Volumes.{tree_of}
use Rattle.records.proofs.StandLaws.{no_look}
use Rattle.calls.proofs.AttributeLaws.{kept_comes, kept_refused, kept_where, not_kept}
use Rattle.calls.proofs.LeadLaws.{led_some}
use Rattle.calls.proofs.PrepareSteps.{follows, passes, refuses}
use Rattle.calls.proofs.preparing.chown.change_owners.Goals as goal

pub returns-then-not-limits : goal.returns-then-not-limits
returns-then-not-limits g c = refuses no_look refl (λ disk settled v table stands volume mounted.
    let limits = limits_of c.args.inodes.now.geometry in
    let none : limits.has_attributes ≡ false = sym (ap (λ (l : Limits). l.has_attributes) c.limits.ensures) ∙ not-true c.limits.result.has_attributes c.if-not-limits.true in
    not_kept limits v table c.args.follow c.args.path.now (text_tests limits c.args.path.now) (λ n. gives_owners c.args.now (tree_of v table) n c.args.owner c.args.group) none)

pub returns-in_err-number : goal.returns-in_err-number
returns-in_err-number g c =
    let limits = limits_of c.args.inodes.now.geometry in
    let has : limits.has_attributes ≡ true = sym (ap (λ (l : Limits). l.has_attributes) c.limits.ensures) ∙ not-false c.limits.result.has_attributes c.if-not-limits.false in
    passes _ c.from_residual.result c.from_residual.ensures.1 c.in_err-number.ensures (λ disk settled v table stands volume mounted.
    kept_refused limits v table c.args.follow c.args.path.now (text_tests limits c.args.path.now) (λ n. gives_owners c.args.now (tree_of v table) n c.args.owner c.args.group) has)

pub give_owners-requires-clause-kept : goal.give_owners-requires-clause-kept
give_owners-requires-clause-kept g c =
    let limits = limits_of c.args.inodes.now.geometry in
    let has : limits.has_attributes ≡ true = sym (ap (λ (l : Limits). l.has_attributes) c.limits.ensures) ∙ not-false c.limits.result.has_attributes c.if-not-limits.false in
    kept_where limits.has_attributes c.args.now c.requires.now ∙ has

pub returns : goal.returns
returns g c =
    let limits = limits_of c.args.inodes.now.geometry in
    let has : limits.has_attributes ≡ true = sym (ap (λ (l : Limits). l.has_attributes) c.limits.ensures) ∙ not-false c.limits.result.has_attributes c.if-not-limits.false in
    follows c.in_ok-number.ensures.looks c.give_owners.ensures (λ disk settled v table stands volume mounted r given.
    let led = c.in_ok-number.ensures.leads disk settled v table stands volume in
    kept_comes limits v table c.args.follow c.args.path.now (text_tests limits c.args.path.now) (λ n. gives_owners c.args.now (tree_of v table) n c.args.owner c.args.group) has c.in_ok-number.number led r
    (given (led_some (tree_of v table) v c.args.follow c.args.path.now c.in_ok-number.number led.1)))
