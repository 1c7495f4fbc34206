use Rattle.std.proofs.Common.{◌≡◌, ℕ, ◌*◌, ◌<◌, ◌≤◌, length}
use Rattle.std.specs.Int.{bit_at}
use Rattle.blockmap.specs.Bits.{SetsPlane}
use Rattle.blockmap.specs.Maps.{settled_at, entry_at, IsTouched, KeepsSettled}
use Rattle.blockmap.proofs.map.BlockMap.load_plane.Given as goal

abbrev pub invariant-loop-j : goal.invariant-loop-j
invariant-loop-j l = record {
  count : l.self.count ≡ l.fn.self.count;
  next : l.self.next ≡ l.fn.self.next;
  settled : KeepsSettled l.fn.self.parts.items l.self.parts.items;
  touched : (j : ℕ) → j < length l.self.parts.items → IsTouched l.self.parts.items j;
  done : SetsPlane (1024 * l.j) 0 (λ b. bit_at (settled_at l.fn.self.parts.items b) l.set) (entry_at l.fn.self.parts.items) (entry_at l.self.parts.items);
  rest : (b : ℕ) → 1024 * l.j ≤ b → entry_at l.self.parts.items b ≡ entry_at l.fn.self.parts.items b;
}
