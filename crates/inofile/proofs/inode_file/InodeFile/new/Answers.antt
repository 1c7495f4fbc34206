use Rattle.std.proofs.Common.{sym, subst, ℕ, List}
use Rattle.inofile.specs.Volumes.{MapsVolume}
use Rattle.inofile.proofs.FileLaws.{holds_no_own, held_stand}
use Rattle.inofile.proofs.inode_file.InodeFile.new.Goals as goal

pub returns-clause-volume : goal.returns-clause-volume
returns-clause-volume c = λ detail count disk settled v are maps holds. record {
  inodes = are;
  mapped = subst (λ (b : List ℕ). MapsVolume b v) (sym c.new-2.ensures.bytes) maps;
  own = holds_no_own detail disk c.args.geometry.inodes settled v are.fits holds;
  objects = held_stand detail disk c.args.geometry.inodes settled c.new.result v c.new.ensures.empty holds;
}
