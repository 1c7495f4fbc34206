use Rattle.records.proofs.StepLaws.{commits_none}
use Rattle.records.proofs.steps.commit_some.Goals as goal

pub returns-in-Some : goal.returns-in-Some
returns-in-Some c = rw c.in-Some.is c.commit_update.ensures

pub returns-in_default : goal.returns-in_default
returns-in_default c = rw c.in_default.is (commits_none c.args.inodes.now)
