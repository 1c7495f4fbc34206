use Rattle.std.proofs.Common.{ap, arith}
use Rattle.layout.specs.Pointer.{pointer_of}
use Rattle.layout.proofs.WordLaws.{pointer_set}
use Rattle.layout.proofs.maps.set_pointer.Goals as goal

pub returns-clause-there : goal.returns-clause-there
returns-clause-there c = λ blocks fits.
    pointer_set blocks c.args.index c.args.pointer c.args.bytes.now c.put_word.new.bytes fits (rw c.number.ensures at c.put_word.ensures)

pub returns-clause-others : goal.returns-clause-others
returns-clause-others c = λ k lt other. ap pointer_of (c.put_word.ensures.others k (omega (arith, c.told-bytes)) other)
