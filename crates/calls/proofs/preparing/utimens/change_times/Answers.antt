use Rattle.std.proofs.Common.{◌≡◌, ◌∙◌, inr, true, false, Some, None, IfSome, IsTrue, refl, sym, ap, subst}
use Rattle.std.proofs.lemmas.Bool.{not-false, not-true}
use Rattle.layout.specs.StateLimits.{limits_of}
use Rattle.model.specs.declared.limits.Limits.{Limits}
use Rattle.model.specs.Changing.{gives_time, meant_time, time_tests}
use Rattle.model.specs.Paths.{first_refusal, text_tests, text_tests_then}
use Rattle.model.specs.Volumes.{tree_of}
use Rattle.records.proofs.StandLaws.{no_look}
use Rattle.calls.specs.Refusals.{is_path_refusal}
use Rattle.calls.proofs.AttributeLaws.{kept_comes, kept_refused, kept_tested, kept_where, not_kept}
use Rattle.calls.proofs.GetLaws.{text_before, text_first}
use Rattle.calls.proofs.LeadLaws.{led_some}
use Rattle.calls.proofs.PrepareSteps.{follows, passes, refuses}
use Rattle.calls.proofs.RefusalLaws.{text_own}
use Rattle.calls.proofs.preparing.utimens.change_times.Goals as goal

pub returns-then-not-limits : goal.returns-then-not-limits
returns-then-not-limits g c = refuses no_look refl (λ disk settled v table stands volume mounted.
    let limits = limits_of c.args.inodes.now.geometry in
    let none : limits.has_attributes ≡ false = sym (ap (λ (l : Limits). l.has_attributes) c.limits.ensures) ∙ not-true c.limits.result.has_attributes c.if-not-limits.true in
    not_kept limits v table c.args.follow c.args.path.now (text_tests_then limits (time_tests c.args.time) c.args.path.now) (λ n. gives_time c.args.now (tree_of v table) n (meant_time c.args.now c.args.time)) none)

pub returns-in-Some : goal.returns-in-Some
returns-in-Some g c =
    let limits = limits_of c.args.inodes.now.geometry in
    let text = c.args.path.now in
    let has : limits.has_attributes ≡ true = sym (ap (λ (l : Limits). l.has_attributes) c.limits.ensures) ∙ not-false c.limits.result.has_attributes c.if-not-limits.false in
    let is : first_refusal (text_tests limits text) ≡ Some c.in-Some.errno = sym c.refusal_of_path.ensures ∙ c.in-Some.is in
    refuses no_look (text_own limits text c.in-Some.errno is) (λ disk settled v table stands volume mounted.
    kept_tested limits v table c.args.follow text (text_tests_then limits (time_tests c.args.time) text) (λ n. gives_time c.args.now (tree_of v table) n (meant_time c.args.now c.args.time)) has c.in-Some.errno
    (text_first limits text (time_tests c.args.time) c.in-Some.errno is))

pub returns-in-Some-refusal_of_time : goal.returns-in-Some-refusal_of_time
returns-in-Some-refusal_of_time g c =
    let limits = limits_of c.args.inodes.now.geometry in
    let text = c.args.path.now in
    let errno = c.in-Some-refusal_of_time.errno in
    let has : limits.has_attributes ≡ true = sym (ap (λ (l : Limits). l.has_attributes) c.limits.ensures) ∙ not-false c.limits.result.has_attributes c.if-not-limits.false in
    let none : first_refusal (text_tests limits text) ≡ None = sym c.refusal_of_path.ensures ∙ c.in_default.is in
    let is : first_refusal (time_tests c.args.time) ≡ Some errno = sym c.refusal_of_time.ensures.first ∙ c.in-Some-refusal_of_time.is in
    refuses no_look (subst (λ o. IfSome o (λ e. IsTrue (is_path_refusal e))) c.in-Some-refusal_of_time.is c.refusal_of_time.ensures.own) (λ disk settled v table stands volume mounted.
    kept_tested limits v table c.args.follow text (text_tests_then limits (time_tests c.args.time) text) (λ n. gives_time c.args.now (tree_of v table) n (meant_time c.args.now c.args.time)) has errno
    (text_before limits text (time_tests c.args.time) none ∙ is))

pub returns-in_err-number : goal.returns-in_err-number
returns-in_err-number g c =
    let limits = limits_of c.args.inodes.now.geometry in
    let text = c.args.path.now in
    let has : limits.has_attributes ≡ true = sym (ap (λ (l : Limits). l.has_attributes) c.limits.ensures) ∙ not-false c.limits.result.has_attributes c.if-not-limits.false in
    let none : first_refusal (text_tests limits text) ≡ None = sym c.refusal_of_path.ensures ∙ c.in_default.is in
    let passed : first_refusal (time_tests c.args.time) ≡ None = sym c.refusal_of_time.ensures.first ∙ c.in_default-refusal_of_time.is in
    passes _ c.from_residual-in_err-number.result c.from_residual-in_err-number.ensures.1 c.in_err-number.ensures (λ disk settled v table stands volume mounted errno is.
    kept_refused limits v table c.args.follow text (text_tests_then limits (time_tests c.args.time) text) (λ n. gives_time c.args.now (tree_of v table) n (meant_time c.args.now c.args.time)) has errno
    (inr (text_before limits text (time_tests c.args.time) none ∙ passed, is)))

pub give_time-requires-clause-passed : goal.give_time-requires-clause-passed
give_time-requires-clause-passed g c = sym c.refusal_of_time.ensures.first ∙ c.in_default-refusal_of_time.is

pub give_time-requires-clause-kept : goal.give_time-requires-clause-kept
give_time-requires-clause-kept g c =
    let limits = limits_of c.args.inodes.now.geometry in
    let has : limits.has_attributes ≡ true = sym (ap (λ (l : Limits). l.has_attributes) c.limits.ensures) ∙ not-false c.limits.result.has_attributes c.if-not-limits.false in
    kept_where limits.has_attributes c.args.now c.requires.now ∙ has

pub returns : goal.returns
returns g c =
    let limits = limits_of c.args.inodes.now.geometry in
    let text = c.args.path.now in
    let n = c.in_ok-number.number in
    let has : limits.has_attributes ≡ true = sym (ap (λ (l : Limits). l.has_attributes) c.limits.ensures) ∙ not-false c.limits.result.has_attributes c.if-not-limits.false in
    let none : first_refusal (text_tests limits text) ≡ None = sym c.refusal_of_path.ensures ∙ c.in_default.is in
    let passed : first_refusal (time_tests c.args.time) ≡ None = sym c.refusal_of_time.ensures.first ∙ c.in_default-refusal_of_time.is in
    follows c.in_ok-number.ensures.looks c.give_time.ensures (λ disk settled v table stands volume mounted r given.
    let leads = c.in_ok-number.ensures.leads disk settled v table stands volume in
    kept_comes limits v table c.args.follow text (text_tests_then limits (time_tests c.args.time) text) (λ k. gives_time c.args.now (tree_of v table) k (meant_time c.args.now c.args.time)) has n
    (text_before limits text (time_tests c.args.time) none ∙ passed, leads) r (given (led_some (tree_of v table) v c.args.follow text n leads)))
