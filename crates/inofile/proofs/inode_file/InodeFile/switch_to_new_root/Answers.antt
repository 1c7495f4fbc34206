use Rattle.images.specs.Soundness.{by_bytes}
use Rattle.inofile.proofs.FileLaws.{held_stand, holds_no_own}
use Rattle.inofile.proofs.inode_file.InodeFile.switch_to_new_root.Goals as goal

pub returns-clause-volume : goal.returns-clause-volume
returns-clause-volume c = λ count disk settled v are maps holds. record {
  inodes = are;
  mapped = maps;
  own = holds_no_own by_bytes disk c.args.self.now.geometry.inodes settled v are.fits holds;
  objects = held_stand by_bytes disk c.args.self.now.geometry.inodes settled c.take_in.new.slots v c.take_in.ensures holds;
}
