use Rattle.replay.proofs.SweepLaws.{file_named, none_named}
use Rattle.replay.proofs.orphans.is_orphan_inode.Goals as goal

pub returns-in-File : goal.returns-in-File
returns-in-File c = λ detail disk inodes found stands. file_named detail disk inodes c.args.inode.now found c.in-File.is stands

pub returns-in_default : goal.returns-in_default
returns-in_default c = λ detail disk inodes found stands. none_named detail disk inodes c.args.inode.now found c.in_default.not-File stands
