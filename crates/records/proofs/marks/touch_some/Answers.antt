use Rattle.records.proofs.MarkLaws.{marks_none}
use Rattle.records.proofs.marks.touch_some.Goals as goal

pub returns-in-Some : goal.returns-in-Some
returns-in-Some c = rw c.in-Some.is c.touch_number.ensures

pub returns-in_default : goal.returns-in_default
returns-in_default c = rw c.in_default.is (marks_none c.args.inodes.now)
