use Rattle.std.proofs.Common.{ℕ, false, refl, subst}
use Rattle.layout.specs.StateLimits.{limits_of}
use Rattle.model.specs.Paths.{new_text_tests, text_tests}
use Rattle.model.specs.Records.{link, stamped}
use Rattle.model.specs.Volumes.{tree_of}
use Rattle.model.proofs.LeadLemmas.{passed_both}
use Rattle.paths.specs.Places.{IsPlaceWithin}
use Rattle.calls.specs.Changing.{Decides}
use Rattle.calls.proofs.GapLaws.{finds_gap}
use Rattle.calls.proofs.LeadLaws.{leads_directory, leads_entry}
use Rattle.calls.proofs.LinkLaws.{file_found, link_comes, link_exists, link_target_refused}
use Rattle.calls.proofs.PrepareSteps.{follows, refuses, stops}
use Rattle.calls.proofs.ReachLaws.{LeadsAt, level, named_text, new_text_well}
use Rattle.calls.proofs.RefusalLaws.{walk_refusal}
use Rattle.calls.proofs.preparing.link.link_file.Goals as goal

pub resolve_place-requires-clause-named : goal.resolve_place-requires-clause-named
resolve_place-requires-clause-named g c = named_text (limits_of c.args.inodes.now.geometry) c.args.path.now (passed_both (text_tests (limits_of c.args.inodes.now.geometry) c.args.old.now) (new_text_tests (limits_of c.args.inodes.now.geometry) c.args.path.now) c.requires.passed).1

pub returns-in_err-place : goal.returns-in_err-place
returns-in_err-place g c = stops c.from_residual.result c.from_residual.ensures.1 c.in_err-place.ensures.looks c.in_err-place.ensures.damaged

pub returns-in-Missing : goal.returns-in-Missing
returns-in-Missing g c = follows c.in_ok-place.ensures.looks c.link_in.ensures (λ disk settled v table stands volume mounted told links is leads.
    let (count, file) = file_found (v c.args.number) is in
    let limits = limits_of c.args.inodes.now.geometry in
    let old = c.args.old.now in
    let path = c.args.path.now in
    let n = c.args.number in
    let t = tree_of v table in
    let tree = c.volumes_are_trees.ensures limits v table volume mounted in
    let passed = (passed_both (text_tests (limits_of c.args.inodes.now.geometry) old) (new_text_tests (limits_of c.args.inodes.now.geometry) path) c.requires.passed).1 in
    let (r, reaches, at) = subst (LeadsAt t v false path) c.in-Missing.is (c.in_ok-place.ensures.found disk settled v table stands volume (level (limits_of c.args.inodes.now.geometry) path passed)) in
    let name = c.in-Missing.name.items in
    let gap = finds_gap limits v table volume mounted tree c.in-Missing.trail name r (new_text_well limits t tree path passed r reaches) at in
    link_comes limits c.args.now v table volume mounted tree old path c.requires.passed n file.0 count file.1 file.2 leads r reaches c.records_change_trees.ensures c.volumes_tell_links.ensures _ name gap told
    (subst (λ (d : ℕ). Decides limits v (stamped c.args.now (link n d name)) told) c.here.ensures links))

pub returns-in-Refusal : goal.returns-in-Refusal
returns-in-Refusal g c = refuses c.in_ok-place.ensures.looks
    (walk_refusal c.in-Refusal.errno (subst (IsPlaceWithin c.args.inodes.now.geometry.inodes) c.in-Refusal.is c.in_ok-place.ensures.within)) (λ disk settled v table stands volume mounted is leads.
    let (count, file) = file_found (v c.args.number) is in
    let limits = limits_of c.args.inodes.now.geometry in
    let old = c.args.old.now in
    let path = c.args.path.now in
    let passed = (passed_both (text_tests (limits_of c.args.inodes.now.geometry) old) (new_text_tests (limits_of c.args.inodes.now.geometry) path) c.requires.passed).1 in
    let (r, reaches, at) = subst (LeadsAt (tree_of v table) v false path) c.in-Refusal.is (c.in_ok-place.ensures.found disk settled v table stands volume (level (limits_of c.args.inodes.now.geometry) path passed)) in
    link_target_refused limits c.args.now v table volume mounted (c.volumes_are_trees.ensures limits v table volume mounted) old path c.requires.passed
    c.args.number file.0 count file.1 file.2 leads r reaches c.in-Refusal.errno at)

pub returns-in-Directory : goal.returns-in-Directory
returns-in-Directory g c = refuses c.in_ok-place.ensures.looks refl (λ disk settled v table stands volume mounted is leads.
    let (count, file) = file_found (v c.args.number) is in
    let limits = limits_of c.args.inodes.now.geometry in
    let old = c.args.old.now in
    let path = c.args.path.now in
    let passed = (passed_both (text_tests (limits_of c.args.inodes.now.geometry) old) (new_text_tests (limits_of c.args.inodes.now.geometry) path) c.requires.passed).1 in
    let (r, reaches, at) = subst (LeadsAt (tree_of v table) v false path) c.in-Directory.is (c.in_ok-place.ensures.found disk settled v table stands volume (level (limits_of c.args.inodes.now.geometry) path passed)) in
    link_exists limits c.args.now v table volume mounted (c.volumes_are_trees.ensures limits v table volume mounted) old path c.requires.passed
    c.args.number file.0 count file.1 file.2 leads r reaches _ (leads_directory limits v volume c.in-Directory._trail r at))

pub returns-in-Entry : goal.returns-in-Entry
returns-in-Entry g c = refuses c.in_ok-place.ensures.looks refl (λ disk settled v table stands volume mounted is leads.
    let (count, file) = file_found (v c.args.number) is in
    let limits = limits_of c.args.inodes.now.geometry in
    let old = c.args.old.now in
    let path = c.args.path.now in
    let passed = (passed_both (text_tests (limits_of c.args.inodes.now.geometry) old) (new_text_tests (limits_of c.args.inodes.now.geometry) path) c.requires.passed).1 in
    let (r, reaches, at) = subst (LeadsAt (tree_of v table) v false path) c.in-Entry.is (c.in_ok-place.ensures.found disk settled v table stands volume (level (limits_of c.args.inodes.now.geometry) path passed)) in
    link_exists limits c.args.now v table volume mounted (c.volumes_are_trees.ensures limits v table volume mounted) old path c.requires.passed
    c.args.number file.0 count file.1 file.2 leads r reaches c.in-Entry._number (leads_entry limits v volume c.in-Entry._trail c.in-Entry._name.items c.in-Entry._number r at))
