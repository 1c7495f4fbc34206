use Rattle.std.proofs.Common.{◌≡◌, ℕ, List, Option, Some, IfSome, subst, sym, ◌∙◌, arith}
use Rattle.layout.specs.declared.inode.Inode.{Inode}
use Rattle.model.specs.Records.{Edit, edited}
use Rattle.model.specs.Trees.{Description}
use Rattle.model.specs.Volumes.{IsMounted, Volume, swept}
use Rattle.inofile.specs.Volumes.{IsVolumeOf}
use Rattle.inofile.specs.declared.inode_file.InodeFile.{InodeFile}
use Rattle.records.specs.Plans.{DoesEdit}
use Rattle.descriptors.specs.Fits.{FitsVolume}
use Rattle.descriptors.specs.Tables.{table_of}
use Rattle.descriptors.proofs.RoomLemmas.{keeps_both}
use Rattle.records.specs.Steps.{IsAtHand}
use Rattle.records.specs.Sweeping.{OpensFiles, StandsNoMore, with_object_of, without_file}
use Rattle.records.proofs.FollowLaws.{fits_all, still_files, swept_opens}
use Rattle.records.proofs.StandLaws.{some_stays_at_hand}
use Rattle.records.proofs.SweepLaws.{all_swept, number_at_hand}
use Rattle.records.proofs.orphans.commit_plan_swept.Goals as goal
use Rattle.records.proofs.orphans.commit_plan_swept.Goals.{After-drop_or_note-3}

pub drop_or_note-requires : goal.drop_or_note-requires
drop_or_note-requires c = subst (IsAtHand c.commit_plan.new.inodes) (sym c.first_number-first.ensures) c.commit_plan.ensures.at_hand.first

pub drop_or_note-requires-2 : goal.drop_or_note-requires-2
drop_or_note-requires-2 c =
    let s = c.commit_plan.new.inodes in
    let t = c.drop_or_note.new.inodes in
    let one = c.drop_or_note.ensures in
    let p = c.args.plan in
    subst (λ (n : Option ℕ). IfSome n (IsAtHand t)) (sym c.number_of-next.ensures)
    (number_at_hand t p.next (some_stays_at_hand s t one.geometry one.keeps one.stays p.next c.commit_plan.ensures.at_hand.next))

pub drop_or_note-requires-3 : goal.drop_or_note-requires-3
drop_or_note-requires-3 c =
    let s = c.commit_plan.new.inodes in
    let t = c.drop_or_note.new.inodes in
    let u = c.drop_or_note-2.new.inodes in
    let one = c.drop_or_note.ensures in
    let two = c.drop_or_note-2.ensures in
    let p = c.args.plan in
    subst (λ (n : Option ℕ). IfSome n (IsAtHand u)) (sym c.number_of-last.ensures)
    (number_at_hand u p.last (some_stays_at_hand t u two.geometry two.keeps two.stays p.last (some_stays_at_hand s t one.geometry one.keeps one.stays p.last c.commit_plan.ensures.at_hand.last)))

-- the volumes that memory stands for, one behind the other
module _ (c : After-drop_or_note-3) (v : Volume) (edit : Edit) where
  abbrev table : ℕ → Option Description
  table = table_of c.args.files.now

  abbrev done : Volume
  done = edited edit v

  abbrev one : Volume
  one = without_file table (Some c.args.plan.first.number) done

  abbrev two : Volume
  two = without_file table c.number_of-next.result one

  back : table_of c.drop_or_note-2.new.files ≡ table
  back = c.drop_or_note-2.ensures.opened ∙ c.drop_or_note.ensures.opened

  module _ (base : Volume) (count : ℕ) (disk : ℕ → List ℕ) (settled : ℕ → Inode) (stands : IsVolumeOf count disk settled c.args.inodes.now v) (does : DoesEdit disk settled c.args.inodes.now v c.args.plan edit) where
    abbrev Leads : InodeFile → Volume → InodeFile → Volume → Type 0
    Leads s w t x = StandsNoMore base count disk settled s w t x

    applies : IsVolumeOf count disk settled c.commit_plan.new.inodes done
    applies = c.commit_plan.ensures.volume _ count disk settled v edit stands does

    first : Leads c.commit_plan.new.inodes done c.drop_or_note.new.inodes one
    first = subst (λ (k : ℕ). Leads c.commit_plan.new.inodes done c.drop_or_note.new.inodes (without_file table (Some k) done)) c.first_number-first.ensures (c.drop_or_note.ensures.volume base count disk settled done applies)

    next : Leads c.drop_or_note.new.inodes one c.drop_or_note-2.new.inodes two
    next = subst (λ (t : ℕ → Option Description). Leads c.drop_or_note.new.inodes one c.drop_or_note-2.new.inodes (without_file t c.number_of-next.result one)) c.drop_or_note.ensures.opened
        (c.drop_or_note-2.ensures.volume base count disk settled one first.0)

    last : IsMounted v table → Leads c.drop_or_note-2.new.inodes two c.drop_or_note-3.new.inodes (swept table done)
    last mounted =
        subst (Leads c.drop_or_note-2.new.inodes two c.drop_or_note-3.new.inodes)
        (all_swept disk settled c.args.inodes.now v c.args.plan edit does table mounted c.number_of-next.result c.number_of-last.result c.number_of-next.ensures c.number_of-last.ensures)
        (subst (λ (t : ℕ → Option Description). Leads c.drop_or_note-2.new.inodes two c.drop_or_note-3.new.inodes (without_file t c.number_of-last.result two)) back
        (c.drop_or_note-3.ensures.volume base count disk settled two next.0))

pub returns-clause-volume : goal.returns-clause-volume
returns-clause-volume c = λ count disk settled v edit stands does mounted. (last (goal.at.returns-clause-volume c).After-drop_or_note-3 v edit v count disk settled stands does mounted).0

pub returns-clause-room : goal.returns-clause-room
returns-clause-room c = λ base count disk settled v edit stands does mounted.
    let at = (goal.at.returns-clause-room c).After-drop_or_note-3 in
    let least = (last at v edit base count disk settled stands does mounted).1 in
    omega (arith, c.commit_plan.ensures.room _ base count disk settled v edit stands does, (first at v edit base count disk settled stands does).1, (next at v edit base count disk settled stands does).1, least)

pub returns-clause-fits : goal.returns-clause-fits
returns-clause-fits c = λ count disk settled v edit stands does mounted fits after.
    let p = c.args.plan in
    let s = c.args.inodes.now in
    let old = c.args.files.now in
    let at = (goal.at.returns-clause-fits c).After-drop_or_note-3 in
    let w : Volume = edited edit v in
    let is_one = (first at v edit v count disk settled stands does).0 in
    let is_two = (next at v edit v count disk settled stands does).0 in
    let opens_w = swept_opens (table_of old) w after in
    let opens_one = still_files disk settled s v p edit does old w (Some p.first.number) opens_w in
    let opens_two = still_files disk settled s v p edit does old (one at v edit) c.number_of-next.result opens_one in
    let fits_one = subst (λ (k : ℕ). FitsVolume c.drop_or_note.new.files (with_object_of w (Some k) v)) c.first_number-first.ensures
    (c.drop_or_note.ensures.fits count disk settled v w (applies at v edit v count disk settled stands does) opens_w fits) in
    let fits_two = c.drop_or_note-2.ensures.fits count disk settled _ (one at v edit) is_one (subst (λ (t : ℕ → Option Description). OpensFiles t (one at v edit)) (sym c.drop_or_note.ensures.opened) opens_one) fits_one in
    let fits_last = c.drop_or_note-3.ensures.fits count disk settled _ (two at v edit) is_two (subst (λ (t : ℕ → Option Description). OpensFiles t (two at v edit)) (sym (back at v edit)) opens_two) fits_two in
    fits_all disk settled s v p edit does old c.number_of-next.result c.number_of-last.result c.drop_or_note-3.new.files c.number_of-next.ensures c.number_of-last.ensures
    (c.drop_or_note-3.ensures.opened ∙ back at v edit) fits_last

pub returns-clause-kept : goal.returns-clause-kept
returns-clause-kept c =
    keeps_both c.args.files.now c.drop_or_note-2.new.files c.drop_or_note-3.new.files
    (keeps_both c.args.files.now c.drop_or_note.new.files c.drop_or_note-2.new.files c.drop_or_note.ensures.kept c.drop_or_note-2.ensures.kept) c.drop_or_note-3.ensures.kept

pub returns-clause-numbers : goal.returns-clause-numbers
returns-clause-numbers c n has = c.drop_or_note-3.ensures.numbers n (c.drop_or_note-2.ensures.numbers n (c.drop_or_note.ensures.numbers n has))

pub returns-clause-stays : goal.returns-clause-stays
returns-clause-stays c n is = c.drop_or_note-3.ensures.stays n (c.drop_or_note-2.ensures.stays n (c.drop_or_note.ensures.stays n (c.commit_plan.ensures.stays n is)))

pub returns-clause-keeps : goal.returns-clause-keeps
returns-clause-keeps c n is = c.drop_or_note-3.ensures.keeps n (c.drop_or_note-2.ensures.keeps n (c.drop_or_note.ensures.keeps n (c.commit_plan.ensures.keeps n is)))
