use Rattle.std.proofs.Common.{arith}
use Rattle.layout.proofs.WordLaws.{word_set}
use Rattle.layout.proofs.maps.put_word.Goals as goal

pub returns : goal.returns
returns c = word_set c.args.index c.args.number c.args.bytes.now c.put_u32.new.out (omega arith) c.put_u32.ensures
