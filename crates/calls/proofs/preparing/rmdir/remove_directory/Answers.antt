use Rattle.std.proofs.Common.{rules, ◌≡◌, ◌∙◌, ℕ, false, Some, None, IsFalse, refl, ap, sym, subst}
use Rattle.layout.specs.StateLimits.{limits_of}
use Rattle.model.specs.Paths.{first_refusal, is_root_text, new_text_tests}
use Rattle.calls.proofs.PrepareSteps.{refuses, follows, stops}
use Rattle.calls.proofs.RefusalLaws.{new_text_own}
use Rattle.calls.proofs.RemoveLaws.{remove_refused, remove_root, finds_entry, remove_comes, remove_led_nowhere}
use Rattle.records.proofs.StandLaws.{no_look}
use Rattle.model.specs.Volumes.{tree_of}
use Rattle.paths.specs.Ends.{IsAtName}
use Rattle.paths.specs.Places.{model_place_of}
use Rattle.calls.specs.Rmdir.{RemovesDirectory}
use Rattle.calls.proofs.NameLaws.{ends_in_name}
use Rattle.calls.specs.Leading.{led_of}
use Rattle.calls.proofs.ReachLaws.{LeadsAt, level, named_text}
use Rattle.calls.proofs.WhereSteps.{finds_none}
use Rattle.calls.proofs.preparing.rmdir.remove_directory.Goals as goal

pub returns-in-Some : goal.returns-in-Some
returns-in-Some g c =
    let is : first_refusal (new_text_tests (limits_of c.args.inodes.now.geometry) c.args.path.now) ≡ Some c.in-Some.errno = sym c.refusal_of_new_path.ensures ∙ c.in-Some.is in
    refuses no_look (new_text_own (limits_of c.args.inodes.now.geometry) c.args.path.now c.in-Some.errno is)
    (λ disk settled v table stands volume mounted. remove_refused (limits_of c.args.inodes.now.geometry) c.args.now v table c.args.path.now c.in-Some.errno is)

pub returns-then-is_root : goal.returns-then-is_root
returns-then-is_root g c =
    let passed : first_refusal (new_text_tests (limits_of c.args.inodes.now.geometry) c.args.path.now) ≡ None = search rules in
    refuses no_look refl
    (λ disk settled v table stands volume mounted. remove_root (limits_of c.args.inodes.now.geometry) c.args.now v table c.args.path.now passed (sym c.is_root.ensures ∙ c.if-is_root.true))

pub resolve_place-requires-clause-named : goal.resolve_place-requires-clause-named
resolve_place-requires-clause-named g c =
    let passed : first_refusal (new_text_tests (limits_of c.args.inodes.now.geometry) c.args.path.now) ≡ None = search rules in
    named_text (limits_of c.args.inodes.now.geometry) c.args.path.now passed

pub returns-in_err-place : goal.returns-in_err-place
returns-in_err-place g c = stops c.from_residual-in_err-place.result c.from_residual-in_err-place.ensures.1 c.in_err-place.ensures.looks c.in_err-place.ensures.damaged

pub returns-in-Entry : goal.returns-in-Entry
returns-in-Entry g c = follows c.in_ok-place.ensures.looks c.remove_entry.ensures (λ disk settled v table stands volume mounted y told.
    let text = c.args.path.now in
    let passed : first_refusal (new_text_tests (limits_of c.args.inodes.now.geometry) text) ≡ None = search rules in
    let not_root : IsFalse (is_root_text text) = search rules in
    let limits = limits_of c.args.inodes.now.geometry in
    let (r, reaches, at) = subst (LeadsAt (tree_of v table) v false text) c.in-Entry.is (c.in_ok-place.ensures.found disk settled v table stands volume (level (limits_of c.args.inodes.now.geometry) text passed)) in
    let name = c.in-Entry.name.items in
    let n = c.in-Entry.number in
    remove_comes limits c.args.now v table volume mounted (c.volumes_are_trees.ensures limits v table volume mounted) c.records_change_trees.ensures text passed not_root r reaches _ name n
    (finds_entry v c.in-Entry.trail name n r at) y (subst (λ (d : ℕ). RemovesDirectory limits c.args.now v d name n y) c.here.ensures told))

pub returns-in-Directory : goal.returns-in-Directory
returns-in-Directory g c = refuses c.in_ok-place.ensures.looks refl (λ disk settled v table stands volume mounted.
    let passed : first_refusal (new_text_tests (limits_of c.args.inodes.now.geometry) c.args.path.now) ≡ None = search rules in
    let not_root : IsFalse (is_root_text c.args.path.now) = search rules in
    absurd (subst (λ p. IsAtName (model_place_of p)) c.in-Directory.is (c.in_ok-place.ensures.named disk settled v stands refl (ends_in_name (limits_of c.args.inodes.now.geometry) c.args.path.now passed not_root))))

pub returns-in-Refusal : goal.returns-in-Refusal
returns-in-Refusal g c =
    let passed : first_refusal (new_text_tests (limits_of c.args.inodes.now.geometry) c.args.path.now) ≡ None = search rules in
    let not_root : IsFalse (is_root_text c.args.path.now) = search rules in
    finds_none c.in_ok-place.ensures (level (limits_of c.args.inodes.now.geometry) c.args.path.now passed) (ap led_of c.in-Refusal.is) (λ disk settled v table stands volume mounted.
    let limits = limits_of c.args.inodes.now.geometry in
    remove_led_nowhere limits c.args.now v table volume mounted (c.volumes_are_trees.ensures limits v table volume mounted) c.records_change_trees.ensures c.args.path.now passed not_root _)

pub returns-in-Missing : goal.returns-in-Missing
returns-in-Missing g c =
    let passed : first_refusal (new_text_tests (limits_of c.args.inodes.now.geometry) c.args.path.now) ≡ None = search rules in
    let not_root : IsFalse (is_root_text c.args.path.now) = search rules in
    finds_none c.in_ok-place.ensures (level (limits_of c.args.inodes.now.geometry) c.args.path.now passed) (ap led_of c.in-Missing.is) (λ disk settled v table stands volume mounted.
    let limits = limits_of c.args.inodes.now.geometry in
    remove_led_nowhere limits c.args.now v table volume mounted (c.volumes_are_trees.ensures limits v table volume mounted) c.records_change_trees.ensures c.args.path.now passed not_root _)
