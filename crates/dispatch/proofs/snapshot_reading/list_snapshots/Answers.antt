use Rattle.std.proofs.Common.{◌∙◌, List, map, ap, inr, refl, sym}
use Rattle.model.specs.Paths.{Name}
use Rattle.model.specs.Trees.{Tree}
use Rattle.model.specs.declared.command.Command.TheVariants as command
use Rattle.model.specs.declared.reply.Reply.TheVariants.{Snaps}
use Rattle.dispatch.proofs.LookedLaws.{disk_under}
use Rattle.dispatch.proofs.ServingLaws.{answered, damaged_too, reads_err, reads_ok, unread}
use Rattle.dispatch.proofs.ShowingLaws.{stands_same, still_shown, views_same}
use Rattle.dispatch.proofs.ViewLaws.{snaps_no_fault, snapshots_shown}
use Rattle.dispatch.proofs.snapshot_reading.list_snapshots.Goals as goal

pub returns-in-Ok : goal.returns-in-Ok
returns-in-Ok g c =
    let f = c.args.system.now in
    let told = c.in-Ok.ensures in
    answered {G = g.S.Station} f _ command.SnapList refl (views_same {G = g.S.Station} f refl) _ (λ s shown. inr (λ x. x), λ is. absurd is) (reads_ok told.reads) tt (snaps_no_fault _)
    (λ s shown. record {
      next = s;
      step = λ room stored. (
        ap Snaps (told.names (disk_under {G = g.S.Station} f) shown.shows shown.first shown.snapshots shown.under.holds ∙ ap (λ (pairs : List (Name × Tree)). map (λ pair. pair.0) pairs) (sym (snapshots_shown shown))),
        refl,
        refl,
      );
      shows = still_shown {G = g.S.Station} f _ shown (stands_same {G = g.S.Station} f shown refl) refl refl (λ v fits. fits);
    })

pub returns-in-Err : goal.returns-in-Err
returns-in-Err g c =
    let f = c.args.system.now in
    let told = c.in-Err.ensures in
    unread {G = g.S.Station} f _ command.SnapList refl (views_same {G = g.S.Station} f refl) c.in-Err.error (λ s shown x. x, λ x. x) (reads_err told.reads)
    (λ s shown. still_shown {G = g.S.Station} f _ shown (stands_same {G = g.S.Station} f shown refl) refl refl (λ v fits. fits))
    (λ s shown. damaged_too c.in-Err.error (told.damaged (disk_under {G = g.S.Station} f) shown.shows shown.first shown.snapshots shown.under.holds))
