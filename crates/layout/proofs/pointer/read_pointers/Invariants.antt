use Rattle.std.proofs.Common.{◌≡◌, ℕ, ◌<◌, ◌*◌, drop, get_or}
use Rattle.layout.specs.Bytes.{number}
use Rattle.layout.specs.Pointer.{pointer_of}
use Rattle.layout.specs.declared.pointer.Pointer.{Pointer}
use Rattle.layout.proofs.pointer.read_pointers.Given as goal

abbrev pub invariant-loop-i : goal.invariant-loop-i
invariant-loop-i l = (k : ℕ) (d : Pointer) → k < l.i → get_or l.out k d ≡ pointer_of (number 4 (drop (4 * k) l.bytes))
