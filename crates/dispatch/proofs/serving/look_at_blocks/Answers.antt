use Rattle.std.proofs.Common.{ℕ, List, refl, subst, sym, w64}
use Rattle.std.proofs.lemmas.Int.{to_z-of_z}
use Rattle.std.proofs.lemmas.Result.{IfOk-weaker}
use Rattle.layout.specs.Places.{blocks_of}
use Rattle.model.specs.Room.{nothing}
use Rattle.model.specs.Steps.{WouldStep}
use Rattle.model.specs.declared.command.Command.TheVariants as command
use Rattle.records.specs.Failures.{read_outcome}
use Rattle.records.specs.Reading.{TellsStored}
use Rattle.dispatch.specs.Answering.{answered_reply}
use Rattle.dispatch.proofs.AskingLaws.{extent_at}
use Rattle.dispatch.proofs.LookedLaws.{disk_under, never_damaged, on_trees, same_disk}
use Rattle.dispatch.proofs.ServingLaws.{extent_told, looked_up}
use Rattle.dispatch.proofs.ShowingLaws.{stands_looked, still_shown, views_same}
use Rattle.dispatch.proofs.serving.look_at_blocks.Goals as goal

pub returns : goal.returns
returns g c =
    let f = c.args.system.now in
    let inodes = c.tell_extent.new.inodes in
    let path = c.args.path.now in
    let seen = extent_at c.as_bytes.result.now (to_z-of_z w64 c.args.offset c.ranges.offset) c.tell_extent.ensures.tells in
    let looks = seen.looks in
    looked_up {G = g.S.Station} f _ (command.Extent path c.args.offset) refl (views_same {G = g.S.Station} f refl) c.tell_extent.result _ c.answer.ensures (λ s shown x. x, λ x. x)
    looks.reads seen.own c.tell_extent.ensures.kind c.tell_extent.ensures.no_fault
    (λ s shown. still_shown {G = g.S.Station} f _ shown (stands_looked {G = g.S.Station} f shown looks) refl refl (λ v fits. fits))
    (λ s shown. IfOk-weaker (read_outcome c.tell_extent.result) _ _
    (λ r answers room stored.
    subst (λ (p : List ℕ). WouldStep room s (command.Extent p c.args.offset) (answered_reply r) s nothing) c.as_bytes.ensures
    (extent_told shown room c.as_bytes.result.now c.args.offset (answered_reply r) f.sizes
    (answers (disk_under {G = g.S.Station} f) room.stored shown.shows
    (subst (λ (disk : ℕ → List ℕ). TellsStored (blocks_of disk) inodes room.stored) (sym (same_disk {G = g.S.Station} looks.reads shown.honest)) stored))))
    (on_trees {G = g.S.Station} f shown seen.answers))
    (λ s shown. never_damaged {G = g.S.Station} f shown seen.damaged)
