use Rattle.std.proofs.Common.{◌≡◌, ◌∙◌, None, Some, sym}
use Rattle.model.specs.declared.limits.Limits.{Limits}
use Rattle.layout.specs.StateLimits.{limits_of}
use Rattle.model.specs.Changing.{given_size_tests}
use Rattle.model.specs.Paths.{first_refusal, text_tests}
use Rattle.records.proofs.StandLaws.{no_look}
use Rattle.calls.proofs.LimitLaws.{by_limits, given_size_within}
use Rattle.calls.proofs.GetLaws.{text_before, text_first}
use Rattle.calls.proofs.PrepareSteps.{refuses}
use Rattle.calls.proofs.RefusalLaws.{given_size_own, text_own}
use Rattle.calls.proofs.SetLaws.{set_refused}
use Rattle.calls.proofs.preparing.set.set.Goals as goal

pub returns-in-Some : goal.returns-in-Some
returns-in-Some g c =
    let is : first_refusal (text_tests (limits_of c.args.inodes.now.geometry) c.args.path.now) ≡ Some c.in-Some.errno = sym c.refusal_of_path.ensures ∙ c.in-Some.is in
    refuses no_look (text_own (limits_of c.args.inodes.now.geometry) c.args.path.now c.in-Some.errno is)
    (λ disk settled v table stands volume mounted. set_refused (limits_of c.args.inodes.now.geometry) c.args.now v table c.args.path.now c.args.settings c.in-Some.errno (text_first (limits_of c.args.inodes.now.geometry) c.args.path.now (given_size_tests (limits_of c.args.inodes.now.geometry) c.args.settings.size) c.in-Some.errno is))

pub returns-in-Some-refusal_of_given_size : goal.returns-in-Some-refusal_of_given_size
returns-in-Some-refusal_of_given_size g c =
    let none : first_refusal (text_tests (limits_of c.args.inodes.now.geometry) c.args.path.now) ≡ None = sym c.refusal_of_path.ensures ∙ c.in_default.is in
    let errno = c.in-Some-refusal_of_given_size.errno in
    let is : first_refusal (given_size_tests (limits_of c.args.inodes.now.geometry) c.args.settings.size) ≡ Some errno = sym (by_limits (λ (l : Limits). given_size_tests l c.args.settings.size) c.limits.ensures c.refusal_of_given_size.ensures) ∙ c.in-Some-refusal_of_given_size.is in
    refuses no_look (given_size_own (limits_of c.args.inodes.now.geometry) c.args.settings.size errno is)
    (λ disk settled v table stands volume mounted. set_refused (limits_of c.args.inodes.now.geometry) c.args.now v table c.args.path.now c.args.settings errno (text_before (limits_of c.args.inodes.now.geometry) c.args.path.now (given_size_tests (limits_of c.args.inodes.now.geometry) c.args.settings.size) none ∙ is))

pub set_along-requires-clause-passed : goal.set_along-requires-clause-passed
set_along-requires-clause-passed g c =
    let none : first_refusal (text_tests (limits_of c.args.inodes.now.geometry) c.args.path.now) ≡ None = sym c.refusal_of_path.ensures ∙ c.in_default.is in
    let passed : first_refusal (given_size_tests (limits_of c.args.inodes.now.geometry) c.args.settings.size) ≡ None =
    sym (by_limits (λ (l : Limits). given_size_tests l c.args.settings.size) c.limits.ensures c.refusal_of_given_size.ensures) ∙ c.in_default-refusal_of_given_size.is in
    text_before (limits_of c.args.inodes.now.geometry) c.args.path.now (given_size_tests (limits_of c.args.inodes.now.geometry) c.args.settings.size) none ∙ passed

pub set_along-requires-clause-within : goal.set_along-requires-clause-within
set_along-requires-clause-within g c =
    given_size_within (limits_of c.args.inodes.now.geometry) c.args.settings.size (sym (by_limits (λ (l : Limits). given_size_tests l c.args.settings.size) c.limits.ensures c.refusal_of_given_size.ensures) ∙ c.in_default-refusal_of_given_size.is)
