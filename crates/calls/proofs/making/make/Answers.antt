use Rattle.std.proofs.Common.{◌≡◌, ◌∙◌, Some, sym, ℕ, false, refl, subst, rules, None}
use Rattle.layout.specs.StateLimits.{limits_of}
use Rattle.model.specs.Changes.{with_made}
use Rattle.model.specs.Paths.{first_refusal, new_text_tests}
use Rattle.records.proofs.StandLaws.{no_look}
use Rattle.calls.specs.Changing.{made_by}
use Rattle.calls.proofs.MakeLaws.{text_refused, path_refused, directory_there, entry_there, gap_comes}
use Rattle.calls.proofs.PrepareSteps.{refuses, follows, stops}
use Rattle.calls.proofs.ReachLaws.{LeadsAt, level, named_text}
use Rattle.calls.proofs.RefusalLaws.{new_text_own, walk_refusal}
use Rattle.model.specs.Volumes.{tree_of}
use Rattle.paths.specs.Places.{IsPlaceWithin}
use Rattle.calls.specs.Making.{MakesIn}
use Rattle.calls.proofs.making.make.Goals as goal

pub returns-in-Some : goal.returns-in-Some
returns-in-Some g c =
    let is : first_refusal (new_text_tests (limits_of c.args.inodes.now.geometry) c.args.path.now) ≡ Some c.in-Some.errno = sym c.refusal_of_new_path.ensures ∙ c.in-Some.is in
    refuses no_look (new_text_own (limits_of c.args.inodes.now.geometry) c.args.path.now c.in-Some.errno is)
    (λ disk settled v table stands volume mounted. text_refused (limits_of c.args.inodes.now.geometry) c.args.now v table c.args.path.now (with_made (made_by c.args.object)) c.in-Some.errno is)

pub resolve_place-requires-clause-named : goal.resolve_place-requires-clause-named
resolve_place-requires-clause-named g c =
    let passed : first_refusal (new_text_tests (limits_of c.args.inodes.now.geometry) c.args.path.now) ≡ None = search rules in
    named_text (limits_of c.args.inodes.now.geometry) c.args.path.now passed

pub returns-in_err-place : goal.returns-in_err-place
returns-in_err-place g c = stops c.from_residual-in_err-place.result c.from_residual-in_err-place.ensures.1 c.in_err-place.ensures.looks c.in_err-place.ensures.damaged

pub returns-in-Refusal : goal.returns-in-Refusal
returns-in-Refusal g c = refuses c.in_ok-place.ensures.looks
    (walk_refusal c.in-Refusal.errno (subst (IsPlaceWithin c.args.inodes.now.geometry.inodes) c.in-Refusal.is c.in_ok-place.ensures.within)) (λ disk settled v table stands volume mounted.
    let passed : first_refusal (new_text_tests (limits_of c.args.inodes.now.geometry) c.args.path.now) ≡ None = search rules in
    let limits = limits_of c.args.inodes.now.geometry in
    let (r, reaches, at) = subst (LeadsAt (tree_of v table) v false c.args.path.now) c.in-Refusal.is (c.in_ok-place.ensures.found disk settled v table stands volume (level (limits_of c.args.inodes.now.geometry) c.args.path.now passed)) in
    path_refused limits c.args.now v table volume mounted (c.volumes_are_trees.ensures limits v table volume mounted) c.args.path.now (made_by c.args.object) passed r reaches c.in-Refusal.errno at)

pub returns-in-Directory : goal.returns-in-Directory
returns-in-Directory g c = refuses c.in_ok-place.ensures.looks refl (λ disk settled v table stands volume mounted.
    let passed : first_refusal (new_text_tests (limits_of c.args.inodes.now.geometry) c.args.path.now) ≡ None = search rules in
    let limits = limits_of c.args.inodes.now.geometry in
    let (r, reaches, at) = subst (LeadsAt (tree_of v table) v false c.args.path.now) c.in-Directory.is (c.in_ok-place.ensures.found disk settled v table stands volume (level (limits_of c.args.inodes.now.geometry) c.args.path.now passed)) in
    directory_there limits c.args.now v table volume mounted (c.volumes_are_trees.ensures limits v table volume mounted) c.args.path.now (made_by c.args.object) passed r reaches c.in-Directory._trail at)

pub returns-in-Entry : goal.returns-in-Entry
returns-in-Entry g c = refuses c.in_ok-place.ensures.looks refl (λ disk settled v table stands volume mounted.
    let passed : first_refusal (new_text_tests (limits_of c.args.inodes.now.geometry) c.args.path.now) ≡ None = search rules in
    let limits = limits_of c.args.inodes.now.geometry in
    let (r, reaches, at) = subst (LeadsAt (tree_of v table) v false c.args.path.now) c.in-Entry.is (c.in_ok-place.ensures.found disk settled v table stands volume (level (limits_of c.args.inodes.now.geometry) c.args.path.now passed)) in
    entry_there limits c.args.now v table volume mounted (c.volumes_are_trees.ensures limits v table volume mounted) c.args.path.now (made_by c.args.object) passed r reaches
    c.in-Entry._trail c.in-Entry._name.items c.in-Entry._number at)

pub returns : goal.returns
returns g c = follows c.in_ok-place.ensures.looks c.make_in.ensures.prepares (λ disk settled v table stands volume mounted told makes.
    let passed : first_refusal (new_text_tests (limits_of c.args.inodes.now.geometry) c.args.path.now) ≡ None = search rules in
    let limits = limits_of c.args.inodes.now.geometry in
    let made = made_by c.args.object in
    let name = c.in-Missing.name.items in
    let (r, reaches, at) = subst (LeadsAt (tree_of v table) v false c.args.path.now) c.in-Missing.is (c.in_ok-place.ensures.found disk settled v table stands volume (level (limits_of c.args.inodes.now.geometry) c.args.path.now passed)) in
    gap_comes limits c.args.now v table volume mounted (c.volumes_are_trees.ensures limits v table volume mounted) c.args.path.now made passed r reaches c.in-Missing.trail name at
    c.volumes_tell_fresh_numbers.ensures c.records_change_trees.ensures c.requires.now told (subst (λ (d : ℕ). MakesIn limits c.args.now v d name made told) c.here.ensures makes))
