use Rattle.std.proofs.Common.{◌∙◌, ap, subst, sym, arith}
use Rattle.layout.specs.StateLimits.{limits_of}
use Rattle.model.specs.Attributes.{KeepsTime}
use Rattle.model.specs.Records.{edited, touches_of}
use Rattle.model.specs.Volumes.{IsMounted, Volume, swept}
use Rattle.model.proofs.MarkLemmas.{swept-marked}
use Rattle.images.specs.Soundness.{by_bytes}
use Rattle.inofile.specs.Room.{memory_room}
use Rattle.inofile.specs.Volumes.{IsVolumeOf}
use Rattle.descriptors.specs.Fits.{FitsVolume}
use Rattle.descriptors.specs.Tables.{table_of}
use Rattle.records.specs.Marks.{touches_in}
use Rattle.records.proofs.FollowLaws.{fits_marked, mounted_unmarked}
use Rattle.records.proofs.LaterLaws.{marked_later}
use Rattle.records.proofs.MarkLaws.{same_marks, same_room, touches_cost}
use Rattle.records.proofs.orphans.commit_swept.Goals as goal

pub commit_marks-requires-clause-at_hand : goal.commit_marks-requires-clause-at_hand
commit_marks-requires-clause-at_hand c =
    let plan = c.commit_plan_swept.ensures in
    marked_later c.args.inodes.now c.commit_plan_swept.new.inodes plan.geometry plan.keeps plan.stays c.args.prepared.marks c.requires.marks

pub returns-clause-volume : goal.returns-clause-volume
returns-clause-volume c = λ count disk settled v change volume does mounted.
    let marks = c.args.prepared.marks in
    let table = table_of c.args.files.now in
    let w = edited change.edit v in
    let ts = touches_of change.edit v in
    subst (λ (x : Volume). IsVolumeOf count disk settled c.commit_marks.new.inodes x)
    (same_marks marks.time change.time (touches_in marks) ts does.time does.touches (swept table w) ∙ sym (swept-marked change.time ts w table))
    (c.commit_marks.ensures.volume {detail = by_bytes} count disk settled (swept table w) (c.commit_plan_swept.ensures.volume count disk settled v change.edit volume does.edit mounted))

pub returns-clause-room : goal.returns-clause-room
returns-clause-room c = λ base count disk settled v change volume does mounted.
    let s = c.args.inodes.now in
    let marks = c.args.prepared.marks in
    let table = table_of c.args.files.now in
    let w = edited change.edit v in
    let ts = touches_of change.edit v in
    let plan = c.commit_plan_swept.ensures in
    let one = plan.room base count disk settled v change.edit volume does.edit mounted in
    let two = c.commit_marks.ensures.room {detail = by_bytes} base count disk settled (swept table w) (plan.volume count disk settled v change.edit volume does.edit mounted) in
    let same = same_room marks.time change.time (touches_in marks) ts does.time does.touches in
    let left = touches_cost s.geometry v change.time change.edit (subst (KeepsTime (limits_of s.geometry).has_attributes) does.time c.requires.time) in
    let is = ap (λ (x : Volume). memory_room base c.commit_marks.new.inodes x) (same_marks marks.time change.time (touches_in marks) ts does.time does.touches (swept table w) ∙ sym (swept-marked change.time ts w table)) in
    omega (arith, one, two, same, left, is)

pub returns-clause-fits : goal.returns-clause-fits
returns-clause-fits c = λ count disk settled v change volume does mounted fits after.
    let table = table_of c.args.files.now in
    let w = edited change.edit v in
    let ts = touches_of change.edit v in
    let marked = swept-marked change.time ts w table in
    subst (FitsVolume c.commit_plan_swept.new.files) (sym marked)
    (fits_marked change.time ts (swept table w) c.commit_plan_swept.new.files
    (c.commit_plan_swept.ensures.fits count disk settled v change.edit volume does.edit mounted fits
    (mounted_unmarked change.time ts w table (subst (λ (x : Volume). IsMounted x table) marked after))))
