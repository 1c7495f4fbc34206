use Rattle.std.proofs.Common.{sym}
use Rattle.images.specs.Roots.{free_inode}
use Rattle.making.proofs.inode_file.inode_file.Goals as goal

pub returns-clause-base : goal.returns-clause-base
returns-clause-base c = c.set_size.ensures.base (free_inode c.args.geometry.layout) (c.empty-file.ensures.base (free_inode c.args.geometry.layout) (sym c.layout.ensures))
