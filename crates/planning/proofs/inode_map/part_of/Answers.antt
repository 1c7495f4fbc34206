use Rattle.planning.proofs.OwnLaws.{part_byte}
use Rattle.planning.proofs.inode_map.part_of.Goals as goal

pub returns : goal.returns
returns c = λ k lt. part_byte c.put.new.self c.in_ok-block.block c.args.bytes.now k c.args.i c.min-start.result c.min-end.result lt (c.put.ensures.bytes k) c.in_ok-block.ensures c.min-start.ensures c.min-end.ensures
