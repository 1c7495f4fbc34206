use Rattle.std.proofs.Common.{◌≡◌, ℕ, Option, None, Some, IfSome, refl, ap, sym, subst, ◌∙◌, arith}
use Rattle.layout.specs.StateLimits.{limits_of}
use Rattle.model.specs.Volumes.{Node, entries, names_in, released, with_entry, with_name_less}
use Rattle.inofile.specs.Inodes.{loaded}
use Rattle.paths.proofs.Looks.{looks_more}
use Rattle.records.specs.Entering.{PreparesEdit}
use Rattle.records.specs.Moving.{Releases}
use Rattle.records.specs.Steps.{IsAlone, IsAtHand, TakesUpdate}
use Rattle.records.specs.declared.naming.NameEdit.TheVariants as edits
use Rattle.records.specs.declared.steps.Update.{Update}
use Rattle.records.specs.declared.steps.Update.TheVariants as updates
use Rattle.model.specs.Records.{remove_name}
use Rattle.records.proofs.DetailLaws.{known_of}
use Rattle.records.proofs.EnterLaws.{directory_is}
use Rattle.records.proofs.FileLaws.{alone_apart, alone_takes, does_both, empty_apart, ready_two}
use Rattle.records.proofs.Looking.{at_hand_behind, behind}
use Rattle.records.proofs.Deciding.{decides, obstructs, reads_in, unread}
use Rattle.records.proofs.StandLaws.{no_look}
use Rattle.records.proofs.name_removal.plan_remove_name.Goals as goal
use Rattle.model.proofs.VolumeLemmas.{enters_directory}

pub returns-then-not-is_number-clause-decides : goal.returns-then-not-is_number-clause-decides
returns-then-not-is_number-clause-decides g c = obstructs no_look refl (λ detail disk settled v stands volume.
    ap (λ (o : Option Node). names_in o c.args.name.now) (c.is_number.ensures.no c.if-not-is_number.true detail v (known_of detail (limits_of c.args.inodes.now.geometry) (remove_name c.args.parent c.args.name.now) v volume)))

pub returns-in_err-found-clause-decides : goal.returns-in_err-found-clause-decides
returns-in_err-found-clause-decides g c = unread c.from_residual.result c.from_residual.ensures.1 c.in_err-found.ensures.number

pub returns-in_default-clause-decides : goal.returns-in_default-clause-decides
returns-in_default-clause-decides g c = obstructs c.in_ok-found.ensures.number.looks refl (λ detail disk settled v stands volume.
    sym (c.in_ok-found.ensures.number.found disk settled v stands) ∙ c.in_default.is)

pub returns-in_err-released-clause-decides : goal.returns-in_err-released-clause-decides
returns-in_err-released-clause-decides g c =
    unread c.from_residual-in_err-released.result c.from_residual-in_err-released.ensures.1 (behind c.in_ok-found.ensures.number c.in_err-released.ensures.released)

pub returns-in_default-released-clause-decides : goal.returns-in_default-released-clause-decides
returns-in_default-released-clause-decides g c = obstructs (looks_more c.in_ok-found.ensures.number.looks c.in_ok-released.ensures.released.looks) refl (λ detail disk settled v stands volume. (
  c.in-Some.number,
  sym (c.in_ok-found.ensures.number.found disk settled v stands) ∙ c.in-Some.is,
  subst (Releases detail disk settled v c.in-Some.number) c.in_default-released.is
      (c.in_ok-released.ensures.released.found disk settled v (c.in_ok-found.ensures.number.looks.kept disk settled v stands)),
))

pub returns-in_err-planned-clause-decides : goal.returns-in_err-planned-clause-decides
returns-in_err-planned-clause-decides g c =
    unread c.from_residual-in_err-planned.result c.from_residual-in_err-planned.ensures.1
    (behind c.in_ok-found.ensures.number (behind c.in_ok-released.ensures.released c.in_err-planned.ensures.edit))

pub returns-in_default-planned-clause-decides : goal.returns-in_default-planned-clause-decides
returns-in_default-planned-clause-decides g c =
    let before = looks_more c.in_ok-found.ensures.number.looks c.in_ok-released.ensures.released.looks in
    obstructs (looks_more before c.in_ok-planned.ensures.edit.looks) refl (λ detail disk settled v stands volume.
    let d = c.args.parent in
    let s = c.edit_parent.new.inodes in
    let there = sym (c.in_ok-found.ensures.number.found disk settled v stands) ∙ c.in-Some.is in
    let is = directory_is (v d) (enters_directory (v d) c.args.name.now c.in-Some.number there) in
    absurd (subst (PreparesEdit disk (limits_of s.geometry) (edits.Remove c.args.name) (v d) (loaded s d)) c.in_default-planned.is
    (c.in_ok-planned.ensures.edit.found disk settled v (before.kept disk settled v stands))
    (record { attributes = is.0; names = is.1; is = is.2; takes = tt })))

pub returns-clause-decides : goal.returns-clause-decides
returns-clause-decides g c =
    let found = c.in_ok-found.ensures in
    let told = c.in_ok-released.ensures in
    let planned = c.in_ok-planned.ensures in
    let s = c.edit_parent.new.inodes in
    let d = c.args.parent in
    let x = c.args.name.now in
    let n = c.in-Some.number in
    let update = c.in-Some-released.update in
    let ready = subst (λ (o : Option Update). IfSome o (λ u. IsAlone u × IsAtHand c.release.new.inodes n)) c.in-Some-released.is told.ready in
    decides (looks_more (looks_more found.number.looks told.released.looks) planned.edit.looks)
    (ready_two (subst (λ o. IfSome o (λ e. TakesUpdate s d (updates.Names e))) c.in-Some-planned.is planned.ready)
    (alone_takes s n update ready.0 (at_hand_behind n planned.edit ready.1)) (alone_apart d n update ready.0))
    (λ detail disk settled v stands.
    let now = found.number.looks.kept disk settled v stands in
    let there : entries v d x ≡ Some n = sym (found.number.found disk settled v stands) ∙ c.in-Some.is in
    let goes = subst (Releases detail disk settled v n) c.in-Some-released.is (told.released.found disk settled v now) in
    let gone = goes.0 s.geometry.inodes (loaded s n) in
    let edit = subst (PreparesEdit disk (limits_of s.geometry) (edits.Remove c.args.name) (v d) (loaded s d)) c.in-Some-planned.is
    (planned.edit.found disk settled v (told.released.looks.kept disk settled v now)) in
    does_both d n x None c.in-Some-planned.edit update (with_name_less (v n)) 6 (empty_apart v n d x goes.1 there) edit.0 edit.2 gone.0 gone.1
    (ap (λ (o : Option ℕ). with_entry d x None (released o v)) there) (omega arith) tt)
    (λ detail disk settled v stands. record {
      number = n;
      there = sym (found.number.found disk settled v stands) ∙ c.in-Some.is;
      empty = (subst (Releases detail disk settled v n) c.in-Some-released.is (told.released.found disk settled v (found.number.looks.kept disk settled v stands))).1;
    })
    (λ detail disk settled v stands. tt)
    (λ detail disk settled v stands. reads_in detail v (remove_name d x) tt)

pub returns-clause-named : goal.returns-clause-named
returns-clause-named g c = λ detail disk settled v stands. sym c.in-Some.is ∙ c.in_ok-found.ensures.number.found {detail = detail} disk settled v stands
