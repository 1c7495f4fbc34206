use Rattle.std.proofs.Common.{length, arith}
use Rattle.layout.proofs.WordLaws.{pointers_read}
use Rattle.layout.proofs.pointer.read_pointers.Goals as goal

pub returns : goal.returns
returns c =
    pointers_read (length c.args.out.now) c.args.bytes.now c.loop-i.out c.loop-i.auto.out (λ k d lt. c.loop-i.invariant k d (omega arith))
