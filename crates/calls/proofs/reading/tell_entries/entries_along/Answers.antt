use Rattle.std.proofs.Common.{◌∙◌, ℕ, get_or, nat_abs, w64, inr, Ok, Err, refl, sym, ap, subst}
use Rattle.std.proofs.lemmas.Int.{to_z-of_z}
use Rattle.std.specs.List.{AllZip}
use Rattle.std.proofs.lemmas.List.Elements.{All-contains}
use Rattle.layout.specs.StateLimits.{limits_of}
use Rattle.dirs.specs.declared.directory.NumberedName.{NumberedName}
use Rattle.layout.specs.Limits.{Sizes}
use Rattle.model.specs.declared.errno.Errno.TheVariants.{ENOTDIR}
use Rattle.paths.specs.Numbers.{IsInodeNumber}
use Rattle.paths.proofs.Looks.{looks_more}
use Rattle.calls.specs.Entries.{IsEntryOf, part_tests}
use Rattle.calls.specs.Parts.{IsToldPart}
use Rattle.calls.proofs.ReachLaws.{level_then}
use Rattle.calls.proofs.EntriesLaws.{entries_answered, entries_nowhere, objects_there}
use Rattle.calls.proofs.EntriesSteps.{answers_failed, starved, starved_sound}
use Rattle.calls.proofs.SeeSteps.{grants, passes, refuses, stops, stops_later}
use Rattle.calls.proofs.reading.tell_entries.entries_along.Goals as goal

pub find_object-requires-clause-level : goal.find_object-requires-clause-level
find_object-requires-clause-level g c = level_then (limits_of c.args.inodes.now.geometry) (part_tests c.args.after c.args.count) c.args.path.now c.requires.passed

pub returns-in_err-number : goal.returns-in_err-number
returns-in_err-number g c = passes _ c.from_residual.result c.from_residual.ensures.1 c.in_err-number.ensures
    (λ disk settled v table stands volume errno is. entries_nowhere (limits_of c.args.inodes.now.geometry) v table volume c.volumes_tell_links.ensures c.args.after c.args.count 0 c.args.path.now errno (inr (c.requires.passed, is)))

pub returns-in_err-found : goal.returns-in_err-found
returns-in_err-found g c =
    stops_later c.from_residual-in_err-found.result c.from_residual-in_err-found.ensures.1 c.in_ok-number.ensures.looks c.in_err-found.ensures.looks (λ disk settled v stands. c.in_err-found.ensures.damaged disk settled v stands)

pub returns-then-not-found : goal.returns-then-not-found
returns-then-not-found g c = refuses (looks_more c.in_ok-number.ensures.looks c.in_ok-found.ensures.looks) refl (λ disk settled v table stands volume.
    let now = c.find_object.ensures.looks.kept disk settled v stands in
    entries_answered (limits_of c.args.inodes.now.geometry) v table volume c.volumes_tell_links.ensures c.args.after c.args.count c.in_ok-number.number c.args.path.now (Err ENOTDIR)
    (c.requires.passed, c.in_ok-number.ensures.leads disk settled v table stands volume) (sym (c.in_ok-found.ensures.found disk settled v now) ∙ c.if-not-found.true, refl))

pub returns-in_err-names : goal.returns-in_err-names
returns-in_err-names g c =
    stops_later c.from_residual-in_err-names.result c.from_residual-in_err-names.ensures.1
    (looks_more c.in_ok-number.ensures.looks c.in_ok-found.ensures.looks) c.in_err-names.ensures.looks (λ disk settled v stands. c.in_err-names.ensures.damaged disk settled v stands)

pub part_of-requires : goal.part_of-requires
part_of-requires g c = record { ordered = c.in_ok-names.ensures.within.ordered; some = c.requires.some }

pub returns-in_err-told : goal.returns-in_err-told
returns-in_err-told g c =
    stops {X = ℕ} c.from_residual-in_err-told.result c.from_residual-in_err-told.ensures.1
    (starved (looks_more (looks_more c.in_ok-number.ensures.looks c.in_ok-found.ensures.looks) c.in_ok-names.ensures.looks)) starved_sound

pub tell_each-requires : goal.tell_each-requires
tell_each-requires g c = λ k d low.
    let listed = c.in_ok-names.names.items in
    let name = get_or c.in_ok-told.told.items k d in
    subst (λ (z : Sizes). IsInodeNumber z.inodes name.numbered.number) (sym c.in_ok-names.ensures.looks.geometry)
    (All-contains (λ (x : NumberedName). IsInodeNumber c.is_directory_at.new.inodes.geometry.inodes x.number) listed name.numbered c.in_ok-names.ensures.within.numbers (c.in_ok-told.ensures.marked k d low).named)

pub returns-in_err-entries : goal.returns-in_err-entries
returns-in_err-entries g c =
    answers_failed _ c.from_residual-in_err-entries.result c.from_residual-in_err-entries.ensures.1
    (looks_more (looks_more c.in_ok-number.ensures.looks c.in_ok-found.ensures.looks) c.in_ok-names.ensures.looks) c.in_err-entries.ensures
    (λ disk settled v table stands volume errno none.
    let now = c.is_directory_at.ensures.looks.kept disk settled v (c.find_object.ensures.looks.kept disk settled v stands) in
    let listing = c.in_ok-names.ensures.found disk settled v now in
    absurd (none (objects_there (limits_of c.args.inodes.now.geometry) v volume c.in_ok-number.number c.in_ok-names.names.items listing c.in_ok-told.told.items c.in_ok-told.ensures.marked)))

pub returns : goal.returns
returns g c =
    let looks = looks_more (looks_more c.in_ok-number.ensures.looks c.in_ok-found.ensures.looks) c.in_ok-names.ensures.looks in
    grants (looks_more looks c.in_ok-entries.ensures.looks) (λ disk settled v table stands volume.
    let n = c.in_ok-number.number in
    let first = c.find_object.ensures.looks.kept disk settled v stands in
    let now = c.is_directory_at.ensures.looks.kept disk settled v first in
    let last = c.list_numbered.ensures.looks.kept disk settled v now in
    let start = c.unsigned_abs.ensures.value ∙ ap nat_abs (to_z-of_z w64 c.args.after c.ranges.after) in
    let each = c.in_ok-entries.ensures.tells disk settled v last in
    entries_answered (limits_of c.args.inodes.now.geometry) v table volume c.volumes_tell_links.ensures c.args.after c.args.count n c.args.path.now (Ok c.new.result)
    (c.requires.passed, c.in_ok-number.ensures.leads disk settled v table stands volume) (
      sym (c.in_ok-found.ensures.found disk settled v first) ∙ c.if-not-found.false,
      record {
        listed = c.in_ok-names.names.items;
        listing = c.in_ok-names.ensures.found disk settled v now;
        names = c.in_ok-told.told.items;
        part = subst (λ (k : ℕ). IsToldPart c.in_ok-names.names.items k c.args.count c.in_ok-told.told.items) start c.in_ok-told.ensures;
        each = subst (AllZip (IsEntryOf v) c.in_ok-told.told.items) (sym c.new.ensures) each;
      },
    ))
