use Rattle.inofile.proofs.ChangedLaws.{none_changed}
use Rattle.inofile.proofs.inode_file.InodeFile.is_settled.Goals as goal

pub returns : goal.returns
returns c = none_changed c.args.self.now.slots c.has_changes.result c.has_changes.ensures
