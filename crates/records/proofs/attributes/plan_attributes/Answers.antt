use Rattle.std.proofs.Common.{◌≡◌, ℕ, List, None, Option, refl, sym, subst, arith}
use Rattle.std.proofs.lemmas.Bool.{both_ways}
use Rattle.layout.specs.Limits.{Sizes}
use Rattle.layout.specs.StateLimits.{limits_of}
use Rattle.layout.specs.Trees.{has_attributes}
use Rattle.layout.specs.declared.inode.Inode.{Inode}
use Rattle.layout.specs.declared.trees.Layout.{Layout}
use Rattle.model.specs.Attributes.{FitAttributes, given_attributes, set_given}
use Rattle.model.specs.Records.{TakesGiven, TakesMode, change_attributes, with_node_attributes}
use Rattle.model.specs.Volumes.{Node, Volume, with_node}
use Rattle.model.specs.declared.attributes.Attributes.{Attributes}
use Rattle.model.specs.declared.limits.Limits.{Limits}
use Rattle.records.proofs.DetailLaws.{known_of}
use Rattle.records.proofs.Deciding.{decides, obstructs, reads_in, unread}
use Rattle.records.proofs.FileLaws.{does_two, ready_two}
use Rattle.records.proofs.Looking.{brought}
use Rattle.records.proofs.StandLaws.{no_look, settled_layout}
use Rattle.images.specs.Soundness.{Detail}
use Rattle.paths.specs.Standing.{StandsIn}
use Rattle.records.specs.declared.steps.Update.TheVariants as updates
use Rattle.records.proofs.attributes.plan_attributes.Goals as goal

-- what fits limits that are these, fits these
fit_so : (one other : Limits) (a : Attributes) → one ≡ other → FitAttributes one.has_attributes a → FitAttributes other.has_attributes a
fit_so one other a same fit = subst (λ (l : Limits). FitAttributes l.has_attributes a) same fit

pub returns-then-not-are_kept-clause-decides : goal.returns-then-not-are_kept-clause-decides
returns-then-not-are_kept-clause-decides g c = obstructs no_look refl (λ detail disk settled v stands volume can.
    both_ways c.are_kept.result c.if-not-are_kept.true (c.are_kept.ensures.1 (fit_so _ _ _ (sym c.limits.ensures) can.1)))

pub returns-then-not-is_number-clause-decides : goal.returns-then-not-is_number-clause-decides
returns-then-not-is_number-clause-decides g c = obstructs no_look refl (λ detail disk settled v stands volume can.
    let limits = limits_of c.args.inodes.now.geometry in
    let edit = change_attributes c.args.number c.args.permissions c.args.modified in
    subst (λ (o : Option Node). TakesMode limits.has_attributes o c.args.permissions.mode) (c.is_number.ensures.no c.if-not-is_number.true detail v (known_of detail limits edit v volume)) can.0)

pub returns-in_err-load_to_change-clause-decides : goal.returns-in_err-load_to_change-clause-decides
returns-in_err-load_to_change-clause-decides g c = unread c.from_residual.result c.from_residual.ensures.1 (brought c.in_err-load_to_change.ensures)

pub returns-then-not-takes_mode-clause-decides : goal.returns-then-not-takes_mode-clause-decides
returns-then-not-takes_mode-clause-decides g c =
    let looks = c.in_ok-load_to_change.ensures.looks in
    obstructs looks refl (λ detail disk settled v stands volume can.
    both_ways c.takes_mode.result c.if-not-takes_mode.true ((c.takes_mode.ensures detail _ disk settled v (looks.kept disk settled v stands).volume).1
    (subst (λ (z : Sizes). TakesMode (limits_of z).has_attributes (v c.args.number) c.args.permissions.mode) (sym looks.geometry) can.0)))

pub returns-clause-kept : goal.returns-clause-kept
returns-clause-kept g c = fit_so _ _ _ c.limits.ensures (c.are_kept.ensures.0 c.if-not-are_kept.false)

pub returns-clause-decides : goal.returns-clause-decides
returns-clause-decides g c =
    let loads = c.in_ok-load_to_change.ensures in
    let n = c.args.number in
    let p = c.args.permissions in
    let m = c.args.modified in
    let s = c.args.inodes.now in
    let fit : FitAttributes (limits_of s.geometry).has_attributes (given_attributes p m) = fit_so _ _ _ c.limits.ensures (c.are_kept.ensures.0 c.if-not-are_kept.false) in
    let takes : (detail : Detail) (disk : ℕ → List ℕ) (settled : ℕ → Inode) (v : Volume) → StandsIn detail g.B.Blocks disk settled v c.args.blocks.now s
    → TakesGiven (limits_of s.geometry).has_attributes (v n) p m = λ detail disk settled v stands. (
      subst (λ (z : Sizes). TakesMode (limits_of z).has_attributes (v n) p.mode) loads.looks.geometry
          ((c.takes_mode.ensures detail _ disk settled v (loads.looks.kept disk settled v stands).volume).0 c.if-not-takes_mode.false),
      fit,
    ) in
    decides loads.looks (ready_two (record { at_hand = loads.known; fits = tt }) tt tt)
    (λ detail disk settled v stands.
    let to = with_node_attributes (set_given p m) (v n) in
    let can : TakesGiven (has_attributes (settled n).layout) (v n) p m =
    subst (λ (l : Layout). TakesGiven (has_attributes l) (v n) p m) (sym (settled_layout c.args.blocks.now s n stands)) (takes detail disk settled v stands) in
    does_two (record { number = n; update = updates.Attributes p m }) None (with_node n to v) 2 0 (to, (can, refl), refl) refl tt (omega arith) tt (omega arith) tt)
    takes
    (λ detail disk settled v stands. tt)
    (λ detail disk settled v stands. reads_in detail v (change_attributes n p m) tt)
