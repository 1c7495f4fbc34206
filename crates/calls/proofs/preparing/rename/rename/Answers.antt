use Rattle.std.proofs.Common.{rules, ◌≡◌, ◌∙◌, ◌||◌, Bool, true, false, Some, None, refl, ap, sym}
use Rattle.layout.specs.StateLimits.{limits_of}
use Rattle.model.specs.Paths.{first_refusal, is_root_text, new_text_tests}
use Rattle.records.proofs.StandLaws.{no_look}
use Rattle.calls.proofs.PrepareSteps.{refuses}
use Rattle.calls.proofs.RefusalLaws.{new_text_own}
use Rattle.calls.proofs.RenameComes.{new_text_refused, old_text_refused, root_refused}
use Rattle.calls.proofs.preparing.rename.rename.Goals.{then-from_root-via-then-from_root, then-from_root-via-else-from_root+then-to_root}
use Rattle.calls.proofs.preparing.rename.rename.Goals as goal

pub returns-in-Some : goal.returns-in-Some
returns-in-Some g c =
    let is : first_refusal (new_text_tests (limits_of c.args.inodes.now.geometry) c.args.old.now) ≡ Some c.in-Some.errno = sym c.refusal_of_new_path.ensures ∙ c.in-Some.is in
    refuses no_look (new_text_own (limits_of c.args.inodes.now.geometry) c.args.old.now c.in-Some.errno is)
    (λ disk settled v table stands volume mounted. old_text_refused (limits_of c.args.inodes.now.geometry) c.args.now v table c.args.only_new c.args.old.now c.args.path.now c.in-Some.errno is)

pub returns-in-Some-refusal_of_new_path : goal.returns-in-Some-refusal_of_new_path
returns-in-Some-refusal_of_new_path g c =
    let errno = c.in-Some-refusal_of_new_path.errno in
    let passed : first_refusal (new_text_tests (limits_of c.args.inodes.now.geometry) c.args.old.now) ≡ None = search rules in
    let is : first_refusal (new_text_tests (limits_of c.args.inodes.now.geometry) c.args.path.now) ≡ Some errno = sym c.refusal_of_new_path-2.ensures ∙ c.in-Some-refusal_of_new_path.is in
    refuses no_look (new_text_own (limits_of c.args.inodes.now.geometry) c.args.path.now errno is)
    (λ disk settled v table stands volume mounted. new_text_refused (limits_of c.args.inodes.now.geometry) c.args.now v table c.args.only_new c.args.old.now c.args.path.now errno passed is)

either_last : (a b : Bool) → b ≡ true → (a || b) ≡ true
either_last true b is = refl
either_last false b is = is

pub returns-then-from_root : goal.returns-then-from_root
returns-then-from_root g c =
    let old = c.args.old.now in
    let path = c.args.path.now in
    let old_passed : first_refusal (new_text_tests (limits_of c.args.inodes.now.geometry) old) ≡ None = search rules in
    let passed : first_refusal (new_text_tests (limits_of c.args.inodes.now.geometry) path) ≡ None = search rules in
    let root : (is_root_text old || is_root_text path) ≡ true =
    elim c.then-from_root.branch [
      | then-from_root-via-then-from_root w ↦ ap (λ (b : Bool). b || is_root_text path) (sym c.is_root-from_root.ensures ∙ w.if-from_root.true)
      | then-from_root-via-else-from_root+then-to_root w ↦ either_last (is_root_text old) (is_root_text path) (sym c.is_root-to_root.ensures ∙ w.if-to_root.true)
    ] in
    refuses no_look refl (λ disk settled v table stands volume mounted. root_refused (limits_of c.args.inodes.now.geometry) c.args.now v table c.args.only_new old path old_passed passed root)
