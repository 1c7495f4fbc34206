use Rattle.std.proofs.Common.{rules, ◌∙◌, ℕ, Bool, [], not, ◌&&◌, Ok, inr, sym, ap, subst}
use Rattle.layout.specs.StateLimits.{limits_of}
use Rattle.layout.specs.Limits.{Sizes}
use Rattle.model.specs.Attributes.{KeepsTime}
use Rattle.model.specs.Finding.{here}
use Rattle.model.specs.Volumes.{tree_of}
use Rattle.paths.specs.Ends.{EndsWell}
use Rattle.paths.specs.Numbers.{IsInodeNumber}
use Rattle.paths.specs.Places.{model_place_of, IsPlaceWithin}
use Rattle.paths.specs.Starts.{IsTargetWithin, TargetEndsWell, TellsTarget}
use Rattle.paths.specs.Steps.{found_in}
use Rattle.calls.specs.Leading.{LeadsAlong}
use Rattle.calls.specs.Open.{OpensNew}
use Rattle.calls.proofs.GapLaws.{finds_gap}
use Rattle.calls.proofs.LeadLaws.{along_by, directory_no_link, leads_directory, leads_entry}
use Rattle.calls.proofs.OpenLaws.{along_gap, along_nowhere, along_object, object_there}
use Rattle.calls.proofs.PrepareSteps.{follows, refuses, stops}
use Rattle.calls.proofs.ReachLaws.{LeadsAt, level_then, reaches_well}
use Rattle.calls.proofs.RefusalLaws.{walk_refusal}
use Rattle.calls.proofs.WhereSteps.{number_here}
use Rattle.calls.proofs.preparing.open.open_along.Goals as goal

pub open_object-requires-in-Directory : goal.open_object-requires-in-Directory
open_object-requires-in-Directory g c =
    let limits = limits_of c.args.inodes.now.geometry in
    let within = subst (IsPlaceWithin limits.inodes) c.in-Directory.is (subst (IsTargetWithin limits.inodes) c.in-Place.is c.in_ok-target.ensures.within) in
    record {
      now = subst (λ (z : Sizes). KeepsTime (limits_of z).has_attributes c.args.now) (sym c.in_ok-target.ensures.looks.geometry) c.requires.now;
      number = subst (IsInodeNumber c.resolve.new.inodes.geometry.inodes) (sym c.here.ensures)
          (subst (λ (z : Sizes). IsInodeNumber z.inodes (here c.in-Directory.trail)) (sym c.in_ok-target.ensures.looks.geometry)
          (number_here limits.inodes c.in-Directory.trail (search rules) within));
    }

pub returns-in_err-target-clause-opens : goal.returns-in_err-target-clause-opens
returns-in_err-target-clause-opens g c = stops c.from_residual.result c.from_residual.ensures.1 c.in_err-target.ensures.looks c.in_err-target.ensures.damaged

pub returns-in-Object-clause-opens : goal.returns-in-Object-clause-opens
returns-in-Object-clause-opens g c = follows c.in_ok-target.ensures.looks c.open_object.ensures.opens (λ disk settled v table stands volume mounted told opens.
    let limits = limits_of c.args.inodes.now.geometry in
    let text = c.args.path.now in
    let flags = c.args.flags in
    let t = tree_of v table in
    let follow = not (flags.creates && flags.exclusive) in
    let told_at = subst (λ (b : Bool). TellsTarget t v (not b) text c.in_ok-target.target) c.wants_new-follow.ensures (c.in_ok-target.ensures.found disk settled v table stands volume (level_then (limits_of c.args.inodes.now.geometry) [] text c.requires.passed)) in
    let (start, alone) = subst (TellsTarget t v follow text) c.in-Object.is told_at in
    along_object limits c.args.now v table text flags c.args.permissions c.in-Object.number (inr (start, alone)) alone.object alone.here told (opens alone.object alone.here alone.unfollowed))

pub returns-in-Missing-clause-opens : goal.returns-in-Missing-clause-opens
returns-in-Missing-clause-opens g c = follows c.in_ok-target.ensures.looks c.open_new.ensures.opens (λ disk settled v table stands volume mounted told opens.
    let limits = limits_of c.args.inodes.now.geometry in
    let text = c.args.path.now in
    let flags = c.args.flags in
    let t = tree_of v table in
    let follow = not (flags.creates && flags.exclusive) in
    let told_at = subst (λ (b : Bool). TellsTarget t v (not b) text c.in_ok-target.target) c.wants_new-follow.ensures (c.in_ok-target.ensures.found disk settled v table stands volume (level_then (limits_of c.args.inodes.now.geometry) [] text c.requires.passed)) in
    let (r, reaches, at) = subst (LeadsAt t v follow text) c.in-Missing.is (subst (TellsTarget t v follow text) c.in-Place.is told_at) in
    let x = c.in-Missing.name.items in
    let tree = c.volumes_are_trees.ensures limits v table volume mounted in
    let gap = finds_gap limits v table volume mounted tree c.in-Missing.trail x r (reaches_well limits t tree [] follow text c.requires.passed r reaches) at in
    along_gap limits c.args.now v table volume mounted tree (here c.in-Missing.trail) x r gap c.volumes_tell_fresh_numbers.ensures c.records_change_trees.ensures c.requires.now flags c.args.permissions
    c.volumes_tell_links.ensures c.records_keep_volumes.ensures c.sweeps_keep_volumes.ensures text reaches told
    (subst (λ (k : ℕ). OpensNew limits c.args.now v flags c.args.permissions k x told) c.here-parent.ensures opens))

pub returns-in-Refusal-clause-opens : goal.returns-in-Refusal-clause-opens
returns-in-Refusal-clause-opens g c =
    let within = subst (IsTargetWithin c.args.inodes.now.geometry.inodes) c.in-Place.is c.in_ok-target.ensures.within in
    refuses c.in_ok-target.ensures.looks (walk_refusal c.in-Refusal.errno (subst (IsPlaceWithin c.args.inodes.now.geometry.inodes) c.in-Refusal.is within)) (λ disk settled v table stands volume mounted tells fd.
    let limits = limits_of c.args.inodes.now.geometry in
    let text = c.args.path.now in
    let flags = c.args.flags in
    let t = tree_of v table in
    let follow = not (flags.creates && flags.exclusive) in
    let told_at = subst (λ (b : Bool). TellsTarget t v (not b) text c.in_ok-target.target) c.wants_new-follow.ensures (c.in_ok-target.ensures.found disk settled v table stands volume (level_then (limits_of c.args.inodes.now.geometry) [] text c.requires.passed)) in
    let (r, reaches, at) = subst (LeadsAt t v follow text) c.in-Refusal.is (subst (TellsTarget t v follow text) c.in-Place.is told_at) in
    along_nowhere limits c.args.now v table text flags c.args.permissions c.in-Refusal.errno r reaches at tells fd)

pub returns-in-Directory-clause-opens : goal.returns-in-Directory-clause-opens
returns-in-Directory-clause-opens g c = follows c.in_ok-target.ensures.looks c.open_object-in-Directory.ensures.opens (λ disk settled v table stands volume mounted told opens.
    let limits = limits_of c.args.inodes.now.geometry in
    let text = c.args.path.now in
    let flags = c.args.flags in
    let t = tree_of v table in
    let follow = not (flags.creates && flags.exclusive) in
    let told_at = subst (λ (b : Bool). TellsTarget t v (not b) text c.in_ok-target.target) c.wants_new-follow.ensures (c.in_ok-target.ensures.found disk settled v table stands volume (level_then (limits_of c.args.inodes.now.geometry) [] text c.requires.passed)) in
    let (r, reaches, at) = subst (LeadsAt t v follow text) c.in-Directory.is (subst (TellsTarget t v follow text) c.in-Place.is told_at) in
    let n = c.here.result in
    let leads = along_by t v follow text r (Ok (here c.in-Directory.trail)) reaches (leads_directory limits v volume c.in-Directory.trail r at) in
    let led = subst (λ (k : ℕ). LeadsAlong t v follow text (Ok k)) (sym c.here.ensures) leads in
    let ends = subst (λ p. EndsWell v (not c.wants_new-follow.result) (model_place_of p)) c.in-Directory.is (subst (TargetEndsWell v (not c.wants_new-follow.result)) c.in-Place.is (c.in_ok-target.ensures.ends disk settled v stands volume)) in
    let plain = directory_no_link (found_in (v n)) (ap (λ (k : ℕ). found_in (v k)) c.here.ensures ∙ ends) in
    let there = object_there limits c.args.now v table text flags c.args.permissions n led in
    along_object limits c.args.now v table text flags c.args.permissions n led there.0 there.1 told (opens there.0 there.1 (λ follows. plain)))

pub returns-in-Entry-clause-opens : goal.returns-in-Entry-clause-opens
returns-in-Entry-clause-opens g c = follows c.in_ok-target.ensures.looks c.open_object-in-Entry.ensures.opens (λ disk settled v table stands volume mounted told opens.
    let limits = limits_of c.args.inodes.now.geometry in
    let text = c.args.path.now in
    let flags = c.args.flags in
    let t = tree_of v table in
    let follow = not (flags.creates && flags.exclusive) in
    let told_at = subst (λ (b : Bool). TellsTarget t v (not b) text c.in_ok-target.target) c.wants_new-follow.ensures (c.in_ok-target.ensures.found disk settled v table stands volume (level_then (limits_of c.args.inodes.now.geometry) [] text c.requires.passed)) in
    let (r, reaches, at) = subst (LeadsAt t v follow text) c.in-Entry.is (subst (TellsTarget t v follow text) c.in-Place.is told_at) in
    let n = c.in-Entry.number in
    let led = along_by t v follow text r (Ok n) reaches (leads_entry limits v volume c.in-Entry._trail c.in-Entry._name.items n r at) in
    let ends = subst (λ (b : Bool). TargetEndsWell v (not b) c.in_ok-target.target) c.wants_new-follow.ensures (c.in_ok-target.ensures.ends disk settled v stands volume) in
    let plain = subst (λ p. EndsWell v follow (model_place_of p)) c.in-Entry.is (subst (TargetEndsWell v follow) c.in-Place.is ends) in
    let there = object_there limits c.args.now v table text flags c.args.permissions n led in
    along_object limits c.args.now v table text flags c.args.permissions n led there.0 there.1 told (opens there.0 there.1 plain))
