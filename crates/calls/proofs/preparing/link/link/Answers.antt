use Rattle.std.proofs.Common.{rules, ◌≡◌, ◌∙◌, Some, None, sym}
use Rattle.layout.specs.StateLimits.{limits_of}
use Rattle.model.specs.Paths.{first_refusal, text_tests, new_text_tests}
use Rattle.records.proofs.StandLaws.{no_look}
use Rattle.model.proofs.TestLaws.{first_append, first_in_front}
use Rattle.calls.proofs.LinkLaws.{link_tests_refused}
use Rattle.calls.proofs.PrepareSteps.{refuses}
use Rattle.calls.proofs.RefusalLaws.{new_text_own, text_own}
use Rattle.calls.proofs.preparing.link.link.Goals as goal

pub returns-in-Some : goal.returns-in-Some
returns-in-Some g c =
    let old = c.args.old.now in
    let path = c.args.path.now in
    let errno = c.in-Some.errno in
    let is : first_refusal (text_tests (limits_of c.args.inodes.now.geometry) old) ≡ Some errno = sym c.refusal_of_path.ensures ∙ c.in-Some.is in
    refuses no_look (text_own (limits_of c.args.inodes.now.geometry) old errno is)
    (λ disk settled v table stands volume mounted. link_tests_refused (limits_of c.args.inodes.now.geometry) c.args.now v table old path errno (first_in_front (text_tests (limits_of c.args.inodes.now.geometry) old) (new_text_tests (limits_of c.args.inodes.now.geometry) path) errno is))

pub returns-in-Some-refusal_of_new_path : goal.returns-in-Some-refusal_of_new_path
returns-in-Some-refusal_of_new_path g c =
    let old = c.args.old.now in
    let path = c.args.path.now in
    let errno = c.in-Some-refusal_of_new_path.errno in
    let passed : first_refusal (text_tests (limits_of c.args.inodes.now.geometry) old) ≡ None = search rules in
    let is : first_refusal (new_text_tests (limits_of c.args.inodes.now.geometry) path) ≡ Some errno = sym c.refusal_of_new_path.ensures ∙ c.in-Some-refusal_of_new_path.is in
    refuses no_look (new_text_own (limits_of c.args.inodes.now.geometry) path errno is)
    (λ disk settled v table stands volume mounted. link_tests_refused (limits_of c.args.inodes.now.geometry) c.args.now v table old path errno (first_append (text_tests (limits_of c.args.inodes.now.geometry) old) (new_text_tests (limits_of c.args.inodes.now.geometry) path) passed ∙ is))
