use Rattle.records.proofs.MarkLaws.{marks_none, marks_then}
use Rattle.records.proofs.marks.commit_marks.Goals as goal

pub returns-in-Some : goal.returns-in-Some
returns-in-Some c = rw c.in-Some.is (marks_then (marks_then (marks_then c.touch_some.ensures c.touch_some-in-Some.ensures) c.touch_some-in-Some-2.ensures) c.touch_some-in-Some-3.ensures)

pub returns-in_default : goal.returns-in_default
returns-in_default c = rw c.in_default.is (marks_none c.args.inodes.now)
