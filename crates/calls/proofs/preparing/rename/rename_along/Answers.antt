use Rattle.std.proofs.Common.{false, refl, ap, subst, sym}
use Rattle.layout.specs.Limits.{Sizes}
use Rattle.layout.specs.StateLimits.{limits_of}
use Rattle.model.specs.Volumes.{tree_of}
use Rattle.paths.specs.Ends.{IsAtName, TellsName}
use Rattle.paths.specs.Places.{model_place_of}
use Rattle.calls.specs.Rename.{PassTests}
use Rattle.calls.specs.Leading.{led_of}
use Rattle.calls.proofs.NameLaws.{ends_in_name}
use Rattle.calls.proofs.PrepareSteps.{follows_knowing, known, refuses, stops}
use Rattle.calls.proofs.ReachLaws.{LeadsAt, level, named_text}
use Rattle.calls.proofs.RenameComes.{rename_nowhere}
use Rattle.calls.proofs.WhereSteps.{finds_none}
use Rattle.calls.proofs.preparing.rename.rename_along.Goals as goal

pub resolve_place-requires-clause-named : goal.resolve_place-requires-clause-named
resolve_place-requires-clause-named g c = named_text (limits_of c.args.inodes.now.geometry) c.args.old.now c.requires.passed.old_passed

pub returns-in_err-place : goal.returns-in_err-place
returns-in_err-place g c = stops c.from_residual.result c.from_residual.ensures.1 c.in_err-place.ensures.looks c.in_err-place.ensures.damaged

pub rename_found-requires-clause-passed : goal.rename_found-requires-clause-passed
rename_found-requires-clause-passed g c = subst (λ (z : Sizes). PassTests (limits_of z) c.args.old.now c.args.path.now) (sym c.in_ok-place.ensures.looks.geometry) c.requires.passed

pub returns-in-Entry : goal.returns-in-Entry
returns-in-Entry g c = known
    (follows_knowing c.in_ok-place.ensures.looks c.rename_found.ensures (λ disk settled v stands there. there) (λ disk settled v table stands volume mounted there y told.
    let old = c.args.old.now in
    let (r, reaches, at) = subst (LeadsAt (tree_of v table) v false old) c.in-Entry.is (c.in_ok-place.ensures.found disk settled v table stands volume (level (limits_of c.args.inodes.now.geometry) old c.requires.passed.old_passed)) in
    told r reaches at))
    (λ disk settled v stands. subst (λ p. TellsName v (model_place_of p)) c.in-Entry.is (c.in_ok-place.ensures.tells disk settled v stands))

pub returns-in-Directory : goal.returns-in-Directory
returns-in-Directory g c = refuses c.in_ok-place.ensures.looks refl (λ disk settled v table stands volume mounted.
    let passed = c.requires.passed in
    absurd (subst (λ p. IsAtName (model_place_of p)) c.in-Directory.is (c.in_ok-place.ensures.named disk settled v stands refl (ends_in_name (limits_of c.args.inodes.now.geometry) c.args.old.now passed.old_passed passed.old_below))))

pub returns-in-Refusal : goal.returns-in-Refusal
returns-in-Refusal g c = finds_none c.in_ok-place.ensures (level (limits_of c.args.inodes.now.geometry) c.args.old.now c.requires.passed.old_passed) (ap led_of c.in-Refusal.is) (λ disk settled v table stands volume mounted.
    let limits = limits_of c.args.inodes.now.geometry in
    rename_nowhere limits c.args.now v table volume mounted (c.volumes_are_trees.ensures limits v table volume mounted) c.args.only_new c.args.old.now c.args.path.now c.requires.passed _)

pub returns-in-Missing : goal.returns-in-Missing
returns-in-Missing g c = finds_none c.in_ok-place.ensures (level (limits_of c.args.inodes.now.geometry) c.args.old.now c.requires.passed.old_passed) (ap led_of c.in-Missing.is) (λ disk settled v table stands volume mounted.
    let limits = limits_of c.args.inodes.now.geometry in
    rename_nowhere limits c.args.now v table volume mounted (c.volumes_are_trees.ensures limits v table volume mounted) c.args.only_new c.args.old.now c.args.path.now c.requires.passed _)
