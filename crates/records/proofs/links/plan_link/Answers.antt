use Rattle.std.proofs.Common.{inl, inr, ◌≡◌, ◌≤◌, ◌+◌, ℕ, Option, Some, IfSome, IsTrue, refl, ap, sym, subst, ◌∙◌, arith}
use Rattle.std.proofs.lemmas.Bool.{both_ways, cases_Bool, false≢true}
use Rattle.model.specs.declared.limits.Limits.{Limits}
use Rattle.layout.specs.StateLimits.{limits_of}
use Rattle.layout.specs.Directory.{IsEntry, named_of}
use Rattle.layout.specs.Limits.{Sizes}
use Rattle.layout.specs.declared.entry.Entry.{Entry}
use Rattle.model.specs.Volumes.{Node, with_entry, with_node, is_directory_node, is_file_node}
use Rattle.inofile.specs.Inodes.{loaded}
use Rattle.paths.proofs.Looks.{looks_more}
use Rattle.records.specs.Entering.{PreparesEdit}
use Rattle.records.specs.Steps.{TakesUpdate, with_node_links}
use Rattle.records.specs.declared.naming.NameEdit.TheVariants as edits
use Rattle.records.specs.declared.steps.Update.TheVariants as updates
use Rattle.model.specs.Records.{TakesName, link}
use Rattle.records.specs.Planning.{IsKnownVolume}
use Rattle.records.proofs.DetailLaws.{known_of}
use Rattle.records.proofs.EnterLaws.{accepts_entry, found_directory, takes_accepted}
use Rattle.records.proofs.FileLaws.{does_both, file_apart, file_entry, file_is, more_links, ready_two}
use Rattle.records.proofs.Looking.{at_hand_behind, behind, brought}
use Rattle.records.proofs.Deciding.{decides, obstructs, reads_in, unread}
use Rattle.records.proofs.StandLaws.{no_look}
use Rattle.records.proofs.links.plan_link.Goals as goal

pub returns-then-not-is_name-clause-decides : goal.returns-then-not-is_name-clause-decides
returns-then-not-is_name-clause-decides g c = obstructs no_look refl (λ detail disk settled v stands volume name. both_ways c.is_name.result c.if-not-is_name.true (c.is_name.ensures.1 name))

pub returns-then-not-fits-clause-decides : goal.returns-then-not-fits-clause-decides
returns-then-not-fits-clause-decides g c = obstructs no_look refl (λ detail disk settled v stands volume. elim (cases_Bool (is_file_node (v c.args.number))) [
  | inl file ↦
      let entry : Entry = record { number = c.args.number; name = c.args.name } in
      let same : c.inodes.result ≡ c.args.inodes.now.geometry.inodes = c.inodes.ensures.value ∙ ap (λ (s : Sizes). s.inodes) c.geometry.ensures in
      let is = file_entry detail (limits_of c.args.inodes.now.geometry) v c.args.number c.args.name.now (known_of detail (limits_of c.args.inodes.now.geometry) (link c.args.number c.args.parent c.args.name.now) v volume) file (c.is_name.ensures.0 c.if-not-is_name.false) in
      absurd (both_ways c.fits.result c.if-not-fits.true (c.fits.ensures.1 (subst (λ (k : ℕ). IsEntry k (named_of entry)) (sym same) is)))
  | inr not ↦ not
])

pub returns-in_err-load_to_change-clause-decides : goal.returns-in_err-load_to_change-clause-decides
returns-in_err-load_to_change-clause-decides g c = unread c.from_residual.result c.from_residual.ensures.1 (brought c.in_err-load_to_change.ensures)

pub returns-in_default-clause-decides : goal.returns-in_default-clause-decides
returns-in_default-clause-decides g c = obstructs c.in_ok-load_to_change.ensures.looks refl (λ detail disk settled v stands volume.
    let now = c.in_ok-load_to_change.ensures.looks.kept disk settled v stands in
    c.in_default.ensures.other _ _ disk settled v now.volume)

pub returns-then-links-limits-clause-decides : goal.returns-then-links-limits-clause-decides
returns-then-links-limits-clause-decides g c = obstructs c.in_ok-load_to_change.ensures.looks refl (λ detail disk settled v stands volume.
    let now = c.in_ok-load_to_change.ensures.looks.kept disk settled v stands in
    (c.in-Some.links, c.in-Some.ensures.file _ _ disk settled v now.volume, omega (arith, ap (λ (l : Limits). l.file_names) c.limits.ensures)))

pub returns-then-not-is_number-clause-decides : goal.returns-then-not-is_number-clause-decides
returns-then-not-is_number-clause-decides g c = obstructs c.in_ok-load_to_change.ensures.looks refl (λ detail disk settled v stands volume.
    let now = c.in_ok-load_to_change.ensures.looks.kept disk settled v stands in
    let known = subst (λ (z : Sizes). IsKnownVolume detail (limits_of z) v) (sym c.in_ok-load_to_change.ensures.looks.geometry)
    (known_of detail (limits_of c.args.inodes.now.geometry) (link c.args.number c.args.parent c.args.name.now) v volume) in (
      c.in-Some.links,
      c.in-Some.ensures.file _ _ disk settled v now.volume,
      omega (arith, ap (λ (l : Limits). l.file_names) c.limits.ensures),
      λ takes. false≢true (subst (λ (o : Option Node). IsTrue (is_directory_node o)) (c.is_number.ensures.no c.if-not-is_number.true _ v known) takes.directory),
    ))

pub returns-in_err-planned-clause-decides : goal.returns-in_err-planned-clause-decides
returns-in_err-planned-clause-decides g c =
    unread c.from_residual-in_err-planned.result c.from_residual-in_err-planned.ensures.1 (behind (brought c.in_ok-load_to_change.ensures) c.in_err-planned.ensures.edit)

pub returns-in_default-planned-clause-decides : goal.returns-in_default-planned-clause-decides
returns-in_default-planned-clause-decides g c = obstructs (looks_more c.in_ok-load_to_change.ensures.looks c.in_ok-planned.ensures.edit.looks) refl (λ detail disk settled v stands volume.
    let now = c.in_ok-load_to_change.ensures.looks.kept disk settled v stands in
    let entry : Entry = record { number = c.args.number; name = c.args.name } in
    let s = c.edit_parent.new.inodes in (
      c.in-Some.links,
      c.in-Some.ensures.file _ _ disk settled v now.volume,
      omega (arith, ap (λ (l : Limits). l.file_names) c.limits.ensures),
      λ takes.
          subst (PreparesEdit disk (limits_of s.geometry) (edits.Add entry) (v c.args.parent) (loaded s c.args.parent)) c.in_default-planned.is
          (c.in_ok-planned.ensures.edit.found disk settled v now)
          (accepts_entry (limits_of s.geometry) v c.args.parent entry (subst (λ (z : Sizes). TakesName (limits_of z) v c.args.parent c.args.name.now) (sym (c.in_ok-planned.ensures.edit.looks.geometry ∙ c.in_ok-load_to_change.ensures.looks.geometry)) takes)),
    ))

pub returns-clause-decides : goal.returns-clause-decides
returns-clause-decides g c =
    let loads = c.in_ok-load_to_change.ensures in
    let planned = c.in_ok-planned.ensures in
    let entry : Entry = record { number = c.args.number; name = c.args.name } in
    let d = c.args.parent in
    let x = c.args.name.now in
    let n = c.args.number in
    let links = c.in-Some.links in
    let s = c.edit_parent.new.inodes in
    let few : links + 1 ≤ 1000 = omega (arith, ap (λ (l : Limits). l.file_names) c.limits.ensures) in
    decides (looks_more loads.looks planned.edit.looks)
    (ready_two (subst (λ o. IfSome o (λ e. TakesUpdate s d (updates.Names e))) c.in-Some-planned.is planned.ready) (record { at_hand = at_hand_behind n planned.edit loads.known; fits = tt }) tt)
    (λ detail disk settled v stands.
    let now = loads.looks.kept disk settled v stands in
    let file = c.in-Some.ensures.file _ _ disk settled v now.volume in
    let edit = subst (PreparesEdit disk (limits_of s.geometry) (edits.Add entry) (v d) (loaded s d)) c.in-Some-planned.is (planned.edit.found disk settled v now) in
    does_both d n x (Some n) c.in-Some-planned.edit (updates.Links (links + 1)) (with_node_links (links + 1) (v n)) 6
    (file_apart v n d (file_is links (v n) file) (found_directory (v d) edit.1.attributes edit.1.names edit.1.is)) edit.0 edit.2 (file_is links (v n) file, few, refl) (omega arith)
    (ap (λ (o : Option Node). with_entry d x (Some n) (with_node n o v)) (sym (more_links links (v n) file))) (omega arith) tt)
    (λ detail disk settled v stands.
    let now = loads.looks.kept disk settled v stands in
    let file = c.in-Some.ensures.file _ _ disk settled v now.volume in
    let edit = subst (PreparesEdit disk (limits_of s.geometry) (edits.Add entry) (v d) (loaded s d)) c.in-Some-planned.is (planned.edit.found disk settled v now) in
    record {
      attributes = file.0;
      links = links;
      bytes = file.1;
      file = file.2;
      few = omega (arith, ap (λ (l : Limits). l.file_names) c.limits.ensures);
      takes = subst (λ (z : Sizes). TakesName (limits_of z) v d x) (planned.edit.looks.geometry ∙ loads.looks.geometry) (takes_accepted (limits_of s.geometry) v d entry (c.fits.ensures.0 c.if-not-fits.false).name edit.1);
    })
    (λ detail disk settled v stands. tt)
    (λ detail disk settled v stands. reads_in detail v (link n d x) tt)
