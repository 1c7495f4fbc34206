use Rattle.std.proofs.Common.{◌+◌, ◌*◌, take}
use Rattle.layout.specs.Bytes.{Writes}
use Rattle.layout.specs.Pointer.{pointers_bytes}
use Rattle.layout.proofs.pointer.put_pointers.Given as goal

abbrev pub invariant-loop-i : goal.invariant-loop-i
invariant-loop-i l = Writes l.at (l.at + 4 * l.i) (pointers_bytes (take l.i l.pointers)) l.initial.out l.out
