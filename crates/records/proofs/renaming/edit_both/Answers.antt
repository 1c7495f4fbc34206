use Rattle.std.proofs.Common.{Option, Some, IfSome, sym, subst}
use Rattle.layout.specs.StateLimits.{limits_of}
use Rattle.layout.specs.Limits.{Sizes}
use Rattle.inode.specs.declared.object.Object.{Object}
use Rattle.inofile.specs.Inodes.{loaded}
use Rattle.records.specs.Entering.{PreparesEdit}
use Rattle.records.specs.Steps.{FitsUpdate, TakesUpdate}
use Rattle.records.specs.declared.naming.NameEdit.TheVariants as edits
use Rattle.records.specs.declared.steps.Update.TheVariants as updates
use Rattle.records.proofs.EnterLaws.{directory_is}
use Rattle.records.proofs.Looking.{at_hand_behind, behind, besides, brought, fails, tells}
use Rattle.records.proofs.renaming.edit_both.Goals as goal

pub returns-in_err-load_to_change-clause-both : goal.returns-in_err-load_to_change-clause-both
returns-in_err-load_to_change-clause-both g c = fails c.from_residual.result c.from_residual.ensures.1 (brought c.in_err-load_to_change.ensures)

pub returns-in_err-load_to_change-2-clause-both : goal.returns-in_err-load_to_change-2-clause-both
returns-in_err-load_to_change-2-clause-both g c =
    fails c.from_residual-in_err-load_to_change-2.result c.from_residual-in_err-load_to_change-2.ensures.1
    (behind (brought c.in_ok-load_to_change.ensures) (brought c.in_err-load_to_change-2.ensures))

pub returns-in_err-planned-clause-both : goal.returns-in_err-planned-clause-both
returns-in_err-planned-clause-both g c =
    fails c.from_residual-in_err-planned.result c.from_residual-in_err-planned.ensures.1
    (behind (brought c.in_ok-load_to_change.ensures) (behind (brought c.in_ok-load_to_change-2.ensures) c.in_err-planned.ensures.edit))

pub returns-in_default-clause-both : goal.returns-in_default-clause-both
returns-in_default-clause-both g c =
    tells (behind (brought c.in_ok-load_to_change.ensures) (behind (brought c.in_ok-load_to_change-2.ensures) c.in_ok-planned.ensures.edit))
    (λ detail disk settled v now edit. (
      tt,
      λ accepts directory.
          let s = c.edit_known.new.inodes in
          subst (PreparesEdit disk (limits_of s.geometry) c.args.wanted.now (v c.args.new_parent) (loaded s c.args.new_parent)) c.in_default.is edit accepts,
    ))

pub returns-in_err-taken-clause-both : goal.returns-in_err-taken-clause-both
returns-in_err-taken-clause-both g c =
    fails c.from_residual-in_err-taken.result c.from_residual-in_err-taken.ensures.1
    (behind (brought c.in_ok-load_to_change.ensures) (behind (brought c.in_ok-load_to_change-2.ensures) (behind c.in_ok-planned.ensures.edit c.in_err-taken.ensures.edit)))

pub returns-in_default-taken-clause-both : goal.returns-in_default-taken-clause-both
returns-in_default-taken-clause-both g c =
    tells (behind (brought c.in_ok-load_to_change.ensures) (behind (brought c.in_ok-load_to_change-2.ensures) (behind c.in_ok-planned.ensures.edit c.in_ok-taken.ensures.edit)))
    (λ detail disk settled v now edit. (
      tt,
      λ accepts directory.
          let t = c.edit_known-2.new.inodes in
          let is = directory_is (v c.args.parent) directory in
          subst (PreparesEdit disk (limits_of t.geometry) (edits.Remove c.args.name) (v c.args.parent) (loaded t c.args.parent)) c.in_default-taken.is edit
          (record { attributes = is.0; names = is.1; is = is.2; takes = tt }),
    ))

pub returns-clause-both : goal.returns-clause-both
returns-clause-both g c =
    let k = c.args.new_parent in
    let d = c.args.parent in
    let s = c.edit_known.new.inodes in
    let t = c.edit_known-2.new.inodes in
    let wanted = c.args.wanted.now in
    let same = c.edit_known-2.ensures.rest k (λ same. c.requires.apart (sym same)) in
    tells (behind (brought c.in_ok-load_to_change.ensures) (behind (brought c.in_ok-load_to_change-2.ensures) (besides c.in_ok-planned.ensures.edit c.in_ok-taken.ensures.edit)))
    (λ detail disk settled v now both.
    let added = subst (PreparesEdit disk (limits_of s.geometry) wanted (v k) (loaded s k)) c.in-Some.is both.0 in
    let removed = subst (PreparesEdit disk (limits_of t.geometry) (edits.Remove c.args.name) (v d) (loaded t d)) c.in-Some-taken.is both.1 in (
      (
        subst (λ (z : Sizes). PreparesEdit disk (limits_of z) wanted (v k) (loaded t k) (Some c.in-Some.added)) (sym c.edit_known-2.ensures.edit.looks.geometry)
            (subst (λ (o : Option Object). PreparesEdit disk (limits_of s.geometry) wanted (v k) o (Some c.in-Some.added)) (sym same) added),
        removed.0,
        removed.2,
      ),
      tt,
    ))

pub returns-clause-ready : goal.returns-clause-ready
returns-clause-ready g c =
    let k = c.args.new_parent in
    let s = c.edit_known.new.inodes in
    let t = c.edit_known-2.new.inodes in
    let same = c.edit_known-2.ensures.rest k (λ same. c.requires.apart (sym same)) in
    let first = subst (λ o. IfSome o (λ e. TakesUpdate s k (updates.Names e))) c.in-Some.is c.in_ok-planned.ensures.ready in (
      record {
        at_hand = at_hand_behind k c.in_ok-taken.ensures.edit first.at_hand;
        fits = subst (λ (o : Option Object). FitsUpdate o (updates.Names c.in-Some.added)) (sym same) first.fits;
      },
      subst (λ o. IfSome o (λ e. TakesUpdate t c.args.parent (updates.Names e))) c.in-Some-taken.is c.in_ok-taken.ensures.ready,
    )
