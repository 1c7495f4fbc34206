use Rattle.std.proofs.Common.{◌∙◌, ℕ, Some, false, refl, ap, sym, subst}
use Rattle.layout.specs.StateLimits.{limits_of}
use Rattle.layout.specs.Limits.{Sizes}
use Rattle.model.specs.Finding.{IsPlaceOf, here}
use Rattle.model.specs.Resolution.{resolve}
use Rattle.model.specs.Volumes.{entries, tree_of}
use Rattle.paths.specs.Ends.{IsAtName, TellsName}
use Rattle.paths.specs.Numbers.{IsInodeNumber}
use Rattle.paths.specs.Places.{model_place_of, IsPlaceWithin}
use Rattle.calls.specs.Rename.{MovesName}
use Rattle.calls.proofs.LeadLaws.{leads_entry}
use Rattle.calls.proofs.NameLaws.{ends_in_name}
use Rattle.calls.proofs.PrepareSteps.{follows_knowing, grants, refuses, stops, whatever}
use Rattle.calls.proofs.ReachLaws.{LeadsAt, from_root, level, named_text, new_text_well}
use Rattle.calls.proofs.RefusalLaws.{walk_refusal}
use Rattle.calls.proofs.RemoveLaws.{finds_entry}
use Rattle.calls.proofs.RenameComes.{along_entry, along_gap, ends_entry, ends_gap, rename_comes, rename_exists, rename_stays, target_refused}
use Rattle.calls.proofs.RenameTests.{here_number}
use Rattle.calls.proofs.preparing.rename.rename_found.Goals as goal

pub resolve_place-requires-clause-named : goal.resolve_place-requires-clause-named
resolve_place-requires-clause-named g c = named_text (limits_of c.args.inodes.now.geometry) c.args.path.now c.requires.passed.passed

pub move_name-requires-clause-parent : goal.move_name-requires-clause-parent
move_name-requires-clause-parent g c =
    subst (IsInodeNumber c.resolve_place.new.inodes.geometry.inodes) (sym c.here-parent.ensures)
    (subst (λ (z : Sizes). IsInodeNumber z.inodes (here c.args.trail)) (sym c.resolve_place.ensures.looks.geometry)
    (here_number c.args.inodes.now.geometry.inodes c.args.trail c.args.number c.requires.number c.requires.within))

pub move_name-requires-in-Missing-clause-parent : goal.move_name-requires-in-Missing-clause-parent
move_name-requires-in-Missing-clause-parent g c =
    subst (IsInodeNumber c.resolve_place.new.inodes.geometry.inodes) (sym c.here-parent.ensures)
    (subst (λ (z : Sizes). IsInodeNumber z.inodes (here c.args.trail)) (sym c.resolve_place.ensures.looks.geometry)
    (here_number c.args.inodes.now.geometry.inodes c.args.trail c.args.number c.requires.number c.requires.within))

pub returns-in_err-place : goal.returns-in_err-place
returns-in_err-place g c = whatever (stops c.from_residual.result c.from_residual.ensures.1 c.in_err-place.ensures.looks c.in_err-place.ensures.damaged)

-- only a new name is wanted
pub returns-then-only_new : goal.returns-then-only_new
returns-then-only_new g c = whatever (refuses c.in_ok-place.ensures.looks refl (λ disk settled v table stands volume mounted there from begins place.
    let limits = limits_of c.args.inodes.now.geometry in
    let path = c.args.path.now in
    let passed = c.requires.passed in
    let tree = c.volumes_are_trees.ensures limits v table volume mounted in
    let finds = finds_entry v c.args.trail c.args.name.items c.args.number from place in
    let (to, reaches, at) = subst (LeadsAt (tree_of v table) v false path) c.in-Entry.is (c.in_ok-place.ensures.found disk settled v table stands volume (level (limits_of c.args.inodes.now.geometry) path passed.passed)) in
    let m = c.in-Entry.other in
    rename_exists limits c.args.now v table volume mounted tree c.args.only_new c.args.old.now path passed c.records_change_trees.ensures from begins to reaches (here c.args.trail) c.args.name.items c.args.number finds
    c.if-only_new.true m (leads_entry limits v volume c.in-Entry.above c.in-Entry.new_name.items m to at)))

-- the object has the name already
pub returns-then-get : goal.returns-then-get
returns-then-get g c = whatever (grants c.in_ok-place.ensures.looks tt tt (λ disk settled v stands. tt) (λ disk settled v table stands volume mounted there from begins place.
    let limits = limits_of c.args.inodes.now.geometry in
    let path = c.args.path.now in
    let passed = c.requires.passed in
    let tree = c.volumes_are_trees.ensures limits v table volume mounted in
    let finds = finds_entry v c.args.trail c.args.name.items c.args.number from place in
    let (to, reaches, at) = subst (LeadsAt (tree_of v table) v false path) c.in-Entry.is (c.in_ok-place.ensures.found disk settled v table stands volume (level (limits_of c.args.inodes.now.geometry) path passed.passed)) in
    let above = c.in-Entry.above in
    let y = c.in-Entry.new_name.items in
    let m = c.in-Entry.other in
    let ends = ends_entry limits c.args.now v table volume mounted tree c.args.only_new above y m to c.if-only_new.false at in
    rename_stays limits c.args.now v table volume mounted tree c.args.only_new c.args.old.now path passed c.records_change_trees.ensures from begins to reaches (here c.args.trail) c.args.name.items c.args.number finds
    c.numbers_tell_what_lies_below.ensures (here above) y ends ((finds_entry v above y m to at).edge ∙ ap (λ (j : ℕ). Some j) (sym c.get.ensures ∙ c.if-get.true ∙ c.get-in-Entry.ensures))))

pub returns-in-Entry : goal.returns-in-Entry
returns-in-Entry g c = follows_knowing c.in_ok-place.ensures.looks c.move_name.ensures
    (λ disk settled v stands there. record {
      there = ap (λ (d : ℕ). entries v d c.args.name.items) c.here-parent.ensures ∙ there;
      over = subst (λ p. TellsName v (model_place_of p)) c.in-Entry.is (c.in_ok-place.ensures.tells disk settled v stands);
    })
    (λ disk settled v table stands volume mounted there told moves from begins place.
    let limits = limits_of c.args.inodes.now.geometry in
    let path = c.args.path.now in
    let passed = c.requires.passed in
    let x = c.args.name.items in
    let n = c.args.number in
    let t = tree_of v table in
    let tree = c.volumes_are_trees.ensures limits v table volume mounted in
    let finds = finds_entry v c.args.trail x n from place in
    let (to, reaches, at) = subst (LeadsAt t v false path) c.in-Entry.is (c.in_ok-place.ensures.found disk settled v table stands volume (level (limits_of c.args.inodes.now.geometry) path passed.passed)) in
    let above = c.in-Entry.above in
    let y = c.in-Entry.new_name.items in
    let m = c.in-Entry.other in
    let ends = ends_entry limits c.args.now v table volume mounted tree c.args.only_new above y m to c.if-only_new.false at in
    let along = along_entry limits c.args.now v table volume mounted tree c.numbers_tell_what_lies_below.ensures c.trails_tell_what_lies_below.ensures from (here c.args.trail) x n finds
    c.is_rooted-rooted.result (resolve t false path) above y m (finds_entry v above y m to at).edge (λ e. c.if-get.false (c.get.ensures ∙ e ∙ sym c.get-in-Entry.ensures))
    (λ is. subst (λ p. IsPlaceOf v (model_place_of p) (resolve t false path)) c.in-Entry.is (c.in_ok-place.ensures.rooted disk settled v table stands volume (from_root path (sym c.is_rooted-rooted.ensures ∙ is)))) in
    rename_comes limits c.args.now v table volume mounted tree c.args.only_new c.args.old.now path passed c.records_change_trees.ensures from begins to reaches (here c.args.trail) x n finds
    c.numbers_tell_what_lies_below.ensures (here above) y ends along.other told
    (subst (λ (d : ℕ). MovesName limits c.args.now v d x (here above) y told) c.here-parent.ensures (moves along)))

pub returns-in-Missing : goal.returns-in-Missing
returns-in-Missing g c = follows_knowing c.in_ok-place.ensures.looks c.move_name-in-Missing.ensures
    (λ disk settled v stands there. record {
      there = ap (λ (d : ℕ). entries v d c.args.name.items) c.here-parent.ensures ∙ there;
      over = subst (λ p. TellsName v (model_place_of p)) c.in-Missing.is (c.in_ok-place.ensures.tells disk settled v stands);
    })
    (λ disk settled v table stands volume mounted there told moves from begins place.
    let limits = limits_of c.args.inodes.now.geometry in
    let path = c.args.path.now in
    let passed = c.requires.passed in
    let x = c.args.name.items in
    let n = c.args.number in
    let t = tree_of v table in
    let tree = c.volumes_are_trees.ensures limits v table volume mounted in
    let finds = finds_entry v c.args.trail x n from place in
    let (to, reaches, at) = subst (LeadsAt t v false path) c.in-Missing.is (c.in_ok-place.ensures.found disk settled v table stands volume (level (limits_of c.args.inodes.now.geometry) path passed.passed)) in
    let above = c.in-Missing.above in
    let y = c.in-Missing.new_name.items in
    let ends = ends_gap limits c.args.now v table volume mounted tree c.args.only_new above y to (new_text_well limits t tree path passed.passed to reaches) at in
    let none = subst (λ p. TellsName v (model_place_of p)) c.in-Missing.is (c.in_ok-place.ensures.tells disk settled v stands) in
    let along = along_gap limits c.args.now v table volume mounted tree c.numbers_tell_what_lies_below.ensures c.trails_tell_what_lies_below.ensures from (here c.args.trail) x n finds
    c.is_rooted-rooted.result (resolve t false path) above y ends.directory ends.good none
    (λ is. subst (λ p. IsPlaceOf v (model_place_of p) (resolve t false path)) c.in-Missing.is (c.in_ok-place.ensures.rooted disk settled v table stands volume (from_root path (sym c.is_rooted-rooted.ensures ∙ is)))) in
    rename_comes limits c.args.now v table volume mounted tree c.args.only_new c.args.old.now path passed c.records_change_trees.ensures from begins to reaches (here c.args.trail) x n finds
    c.numbers_tell_what_lies_below.ensures (here above) y ends along.other told
    (subst (λ (d : ℕ). MovesName limits c.args.now v d x (here above) y told) c.here-parent.ensures (moves along)))

pub returns-in-Directory : goal.returns-in-Directory
returns-in-Directory g c = whatever (refuses c.in_ok-place.ensures.looks refl (λ disk settled v table stands volume mounted there from begins place.
    let passed = c.requires.passed in
    absurd (subst (λ p. IsAtName (model_place_of p)) c.in-Directory.is (c.in_ok-place.ensures.named disk settled v stands refl (ends_in_name (limits_of c.args.inodes.now.geometry) c.args.path.now passed.passed passed.below)))))

pub returns-in-Refusal : goal.returns-in-Refusal
returns-in-Refusal g c = whatever (refuses c.in_ok-place.ensures.looks
    (walk_refusal c.in-Refusal.errno (subst (IsPlaceWithin c.args.inodes.now.geometry.inodes) c.in-Refusal.is c.in_ok-place.ensures.within)) (λ disk settled v table stands volume mounted there from begins place.
    let limits = limits_of c.args.inodes.now.geometry in
    let path = c.args.path.now in
    let passed = c.requires.passed in
    let tree = c.volumes_are_trees.ensures limits v table volume mounted in
    let finds = finds_entry v c.args.trail c.args.name.items c.args.number from place in
    let (to, reaches, at) = subst (LeadsAt (tree_of v table) v false path) c.in-Refusal.is (c.in_ok-place.ensures.found disk settled v table stands volume (level (limits_of c.args.inodes.now.geometry) path passed.passed)) in
    target_refused limits c.args.now v table volume mounted tree c.args.only_new c.args.old.now path passed c.records_change_trees.ensures from begins to reaches (here c.args.trail) c.args.name.items c.args.number finds
    c.in-Refusal.errno at))
