use Rattle.std.proofs.Common.{◌≡◌, ◌∙◌, ℤ, to_z, of_z, w64, None, Some, sym, subst}
use Rattle.std.proofs.lemmas.Int.{to_z-of_z}
use Rattle.model.specs.declared.limits.Limits.{Limits}
use Rattle.layout.specs.StateLimits.{limits_of}
use Rattle.model.specs.Changing.{size_tests, truncates}
use Rattle.model.specs.Paths.{first_refusal, text_tests}
use Rattle.model.specs.Volumes.{tree_of}
use Rattle.records.proofs.StandLaws.{no_look}
use Rattle.calls.specs.Changing.{ComesOrStays}
use Rattle.calls.proofs.LimitLaws.{by_limits, size_within}
use Rattle.calls.proofs.GetLaws.{text_before, text_first}
use Rattle.calls.proofs.PrepareSteps.{leaves, refuses}
use Rattle.calls.proofs.RefusalLaws.{size_own, text_own}
use Rattle.calls.proofs.TruncateLaws.{truncate_refused}
use Rattle.calls.proofs.preparing.truncate.truncate.Goals as goal

pub returns-in-Some : goal.returns-in-Some
returns-in-Some g c =
    let is : first_refusal (text_tests (limits_of c.args.inodes.now.geometry) c.args.path.now) ≡ Some c.in-Some.errno = sym c.refusal_of_path.ensures ∙ c.in-Some.is in
    refuses no_look (text_own (limits_of c.args.inodes.now.geometry) c.args.path.now c.in-Some.errno is)
    (λ disk settled v table stands volume mounted. truncate_refused (limits_of c.args.inodes.now.geometry) c.args.now v table c.args.path.now c.args.size c.in-Some.errno (text_first (limits_of c.args.inodes.now.geometry) c.args.path.now (size_tests (limits_of c.args.inodes.now.geometry) c.args.size) c.in-Some.errno is))

pub returns-in-Some-refusal_of_size : goal.returns-in-Some-refusal_of_size
returns-in-Some-refusal_of_size g c =
    let none : first_refusal (text_tests (limits_of c.args.inodes.now.geometry) c.args.path.now) ≡ None = sym c.refusal_of_path.ensures ∙ c.in_default.is in
    let errno = c.in-Some-refusal_of_size.errno in
    let is = subst (λ (z : ℤ). first_refusal (size_tests (limits_of c.args.inodes.now.geometry) z) ≡ Some errno) (to_z-of_z w64 c.args.size c.ranges.size) (sym (by_limits (λ (l : Limits). size_tests l (to_z w64 (of_z w64 c.args.size))) c.limits.ensures c.refusal_of_size.ensures) ∙ c.in-Some-refusal_of_size.is) in
    refuses no_look (size_own (limits_of c.args.inodes.now.geometry) c.args.size errno is)
    (λ disk settled v table stands volume mounted. truncate_refused (limits_of c.args.inodes.now.geometry) c.args.now v table c.args.path.now c.args.size errno (text_before (limits_of c.args.inodes.now.geometry) c.args.path.now (size_tests (limits_of c.args.inodes.now.geometry) c.args.size) none ∙ is))

pub truncate_along-requires-clause-passed : goal.truncate_along-requires-clause-passed
truncate_along-requires-clause-passed g c =
    let none : first_refusal (text_tests (limits_of c.args.inodes.now.geometry) c.args.path.now) ≡ None = sym c.refusal_of_path.ensures ∙ c.in_default.is in
    let passed = sym (by_limits (λ (l : Limits). size_tests l (to_z w64 (of_z w64 c.args.size))) c.limits.ensures c.refusal_of_size.ensures) ∙ c.in_default-refusal_of_size.is in
    text_before (limits_of c.args.inodes.now.geometry) c.args.path.now (size_tests (limits_of c.args.inodes.now.geometry) (to_z w64 (of_z w64 c.args.size))) none ∙ passed

pub truncate_along-requires-clause-within : goal.truncate_along-requires-clause-within
truncate_along-requires-clause-within g c =
    size_within (limits_of c.args.inodes.now.geometry) (to_z w64 (of_z w64 c.args.size)) (sym (by_limits (λ (l : Limits). size_tests l (to_z w64 (of_z w64 c.args.size))) c.limits.ensures c.refusal_of_size.ensures) ∙ c.in_default-refusal_of_size.is)

pub returns : goal.returns
returns g c =
    leaves c.truncate_along.ensures (λ disk settled v table stands volume mounted r.
    subst (λ (z : ℤ). ComesOrStays (truncates (limits_of c.args.inodes.now.geometry) c.args.now (tree_of v table) c.args.path.now z) (limits_of c.args.inodes.now.geometry) v table r) (to_z-of_z w64 c.args.size c.ranges.size))
