use Rattle.std.proofs.Common.{◌≡◌, ◌∙◌, Some, Ok, sym, ℕ, false, refl, ap, subst, rules, None}
use Rattle.layout.specs.StateLimits.{limits_of}
use Rattle.model.specs.Paths.{first_refusal, new_text_tests}
use Rattle.calls.proofs.PrepareSteps.{refuses, follows, stops}
use Rattle.calls.proofs.RefusalLaws.{new_text_own}
use Rattle.calls.proofs.RemoveLaws.{unlink_text_refused, finds_entry, unlink_comes, unlink_directory, unlink_refused}
use Rattle.records.proofs.StandLaws.{no_look}
use Rattle.model.specs.Volumes.{tree_of}
use Rattle.paths.specs.Ends.{EndsWell}
use Rattle.paths.specs.Places.{model_place_of}
use Rattle.calls.specs.Unlink.{UnlinksEntry}
use Rattle.calls.specs.Leading.{led_of}
use Rattle.calls.proofs.LeadLaws.{along_by, leads_directory}
use Rattle.calls.proofs.ReachLaws.{LeadsAt, level, named_text}
use Rattle.calls.proofs.WhereSteps.{finds_none}
use Rattle.calls.proofs.preparing.unlink.unlink.Goals as goal

pub returns-in-Some : goal.returns-in-Some
returns-in-Some g c =
    let is : first_refusal (new_text_tests (limits_of c.args.inodes.now.geometry) c.args.path.now) ≡ Some c.in-Some.errno = sym c.refusal_of_new_path.ensures ∙ c.in-Some.is in
    refuses no_look (new_text_own (limits_of c.args.inodes.now.geometry) c.args.path.now c.in-Some.errno is)
    (λ disk settled v table stands volume mounted. unlink_text_refused (limits_of c.args.inodes.now.geometry) c.args.now v table c.args.path.now c.in-Some.errno is)

pub resolve_place-requires-clause-named : goal.resolve_place-requires-clause-named
resolve_place-requires-clause-named g c =
    let passed : first_refusal (new_text_tests (limits_of c.args.inodes.now.geometry) c.args.path.now) ≡ None = search rules in
    named_text (limits_of c.args.inodes.now.geometry) c.args.path.now passed

pub returns-in_err-place : goal.returns-in_err-place
returns-in_err-place g c = stops c.from_residual-in_err-place.result c.from_residual-in_err-place.ensures.1 c.in_err-place.ensures.looks c.in_err-place.ensures.damaged

pub returns-in-Entry : goal.returns-in-Entry
returns-in-Entry g c = follows c.in_ok-place.ensures.looks c.unlink_entry.ensures (λ disk settled v table stands volume mounted y told.
    let text = c.args.path.now in
    let passed : first_refusal (new_text_tests (limits_of c.args.inodes.now.geometry) text) ≡ None = search rules in
    let limits = limits_of c.args.inodes.now.geometry in
    let (r, reaches, at) = subst (LeadsAt (tree_of v table) v false text) c.in-Entry.is (c.in_ok-place.ensures.found disk settled v table stands volume (level (limits_of c.args.inodes.now.geometry) text passed)) in
    let name = c.in-Entry.name.items in
    let n = c.in-Entry.number in
    unlink_comes limits c.args.now v table volume mounted (c.volumes_are_trees.ensures limits v table volume mounted) c.records_change_trees.ensures text passed r reaches _ name n
    (finds_entry v c.in-Entry.trail name n r at) y (subst (λ (d : ℕ). UnlinksEntry limits c.args.now v d name n y) c.here.ensures told))

pub returns-in-Directory : goal.returns-in-Directory
returns-in-Directory g c = refuses c.in_ok-place.ensures.looks refl (λ disk settled v table stands volume mounted.
    let text = c.args.path.now in
    let passed : first_refusal (new_text_tests (limits_of c.args.inodes.now.geometry) text) ≡ None = search rules in
    let limits = limits_of c.args.inodes.now.geometry in
    let t = tree_of v table in
    let (r, reaches, at) = subst (LeadsAt t v false text) c.in-Directory.is (c.in_ok-place.ensures.found disk settled v table stands volume (level (limits_of c.args.inodes.now.geometry) text passed)) in
    let ends = subst (λ p. EndsWell v false (model_place_of p)) c.in-Directory.is (c.in_ok-place.ensures.ends disk settled v stands volume) in
    unlink_directory limits c.args.now v table volume mounted (c.volumes_are_trees.ensures limits v table volume mounted) c.records_change_trees.ensures text passed _
    (along_by t v false text r (Ok _) reaches (leads_directory limits v volume c.in-Directory._trail r at)) ends)

pub returns-in-Refusal : goal.returns-in-Refusal
returns-in-Refusal g c =
    let passed : first_refusal (new_text_tests (limits_of c.args.inodes.now.geometry) c.args.path.now) ≡ None = search rules in
    finds_none c.in_ok-place.ensures (level (limits_of c.args.inodes.now.geometry) c.args.path.now passed) (ap led_of c.in-Refusal.is) (λ disk settled v table stands volume mounted.
    let limits = limits_of c.args.inodes.now.geometry in
    unlink_refused limits c.args.now v table volume mounted (c.volumes_are_trees.ensures limits v table volume mounted) c.records_change_trees.ensures c.args.path.now passed _)

pub returns-in-Missing : goal.returns-in-Missing
returns-in-Missing g c =
    let passed : first_refusal (new_text_tests (limits_of c.args.inodes.now.geometry) c.args.path.now) ≡ None = search rules in
    finds_none c.in_ok-place.ensures (level (limits_of c.args.inodes.now.geometry) c.args.path.now passed) (ap led_of c.in-Missing.is) (λ disk settled v table stands volume mounted.
    let limits = limits_of c.args.inodes.now.geometry in
    unlink_refused limits c.args.now v table volume mounted (c.volumes_are_trees.ensures limits v table volume mounted) c.records_change_trees.ensures c.args.path.now passed _)
