use Rattle.std.proofs.Common.{◌+◌, arith}
use Rattle.layout.proofs.WritingLaws.{writes_both, written_to}
use Rattle.layout.proofs.inode.put_pointer_body.Goals as goal

pub returns : goal.returns
returns c =
    writes_both (written_to {end = c.args.at + 64} (omega (arith, c.type_inv.pointers)) c.put_pointers.ensures) (written_to {end = c.args.at + 128} (omega arith) c.put_zeros.ensures)
