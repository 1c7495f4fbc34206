use Rattle.std.proofs.Common.{ap, subst, arith}
use Rattle.layout.specs.StateLimits.{limits_of}
use Rattle.model.specs.Attributes.{KeepsTime}
use Rattle.model.specs.Records.{edited, touches_of}
use Rattle.model.specs.Volumes.{Volume}
use Rattle.inofile.specs.Room.{memory_room}
use Rattle.inofile.specs.Volumes.{IsVolumeIn}
use Rattle.records.specs.Marks.{touches_in}
use Rattle.records.proofs.LaterLaws.{marked_later, plan_later}
use Rattle.records.proofs.MarkLaws.{same_marks, same_room, touches_cost}
use Rattle.records.proofs.prepared.commit.Goals as goal

pub commit_marks-requires-clause-at_hand : goal.commit_marks-requires-clause-at_hand
commit_marks-requires-clause-at_hand c =
    let plan = c.commit_plan.ensures in
    marked_later c.args.inodes.now c.commit_plan.new.inodes plan.geometry plan.keeps plan.stays c.args.prepared.marks c.requires.marks

pub returns-clause-at_hand : goal.returns-clause-at_hand
returns-clause-at_hand c =
    let plan = c.commit_plan.ensures in
    let marks = c.commit_marks.ensures in
    let t = c.commit_plan.new.inodes in
    record {
      plan = plan_later t c.commit_marks.new.inodes marks.geometry marks.keeps marks.stays c.args.prepared.plan plan.at_hand;
      marks = marked_later t c.commit_marks.new.inodes marks.geometry marks.keeps marks.stays c.args.prepared.marks
          (marked_later c.args.inodes.now t plan.geometry plan.keeps plan.stays c.args.prepared.marks c.requires.marks);
    }

pub returns-clause-volume : goal.returns-clause-volume
returns-clause-volume c = λ detail count disk settled v change volume does.
    let marks = c.args.prepared.marks in
    let w = edited change.edit v in
    subst (λ (x : Volume). IsVolumeIn detail count disk settled c.commit_marks.new.inodes x) (same_marks marks.time change.time (touches_in marks) (touches_of change.edit v) does.time does.touches w)
    (c.commit_marks.ensures.volume {detail = detail} count disk settled w (c.commit_plan.ensures.volume detail count disk settled v change.edit volume does.edit))

pub returns-clause-room : goal.returns-clause-room
returns-clause-room c = λ detail base count disk settled v change volume does.
    let s = c.args.inodes.now in
    let marks = c.args.prepared.marks in
    let w = edited change.edit v in
    let plan = c.commit_plan.ensures in
    let one = plan.room detail base count disk settled v change.edit volume does.edit in
    let two = c.commit_marks.ensures.room {detail = detail} base count disk settled w (plan.volume detail count disk settled v change.edit volume does.edit) in
    let same = same_room marks.time change.time (touches_in marks) (touches_of change.edit v) does.time does.touches in
    let left = touches_cost s.geometry v change.time change.edit (subst (KeepsTime (limits_of s.geometry).has_attributes) does.time c.requires.time) in
    let is = ap (λ (x : Volume). memory_room base c.commit_marks.new.inodes x) (same_marks marks.time change.time (touches_in marks) (touches_of change.edit v) does.time does.touches w) in
    omega (arith, one, two, same, left, is)
