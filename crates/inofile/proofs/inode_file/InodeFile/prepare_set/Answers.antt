use Rattle.std.proofs.Common.{refl, Some}
use Rattle.inofile.specs.declared.inode_file.ObjectSlot.TheVariants.{AsSettled}
use Rattle.inofile.proofs.RoomLaws.{set_needs}
use Rattle.inofile.proofs.inode_file.InodeFile.prepare_set.Goals as goal

pub returns-in-Ok-clause-needs : goal.returns-in-Ok-clause-needs
returns-in-Ok-clause-needs c = set_needs c.args.self.now.slots c.insert.new.self c.args.number (Some AsSettled) refl c.in-Ok.ensures.updates
