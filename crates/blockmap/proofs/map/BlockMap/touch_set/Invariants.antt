use Rattle.std.proofs.Common.{◌≡◌, ◌⊎◌, ℕ, ◌<◌}
use Rattle.blockmap.specs.Maps.{entry_at, HasSetAt, IsTouched, KeepsSettled}
use Rattle.blockmap.proofs.map.BlockMap.touch_set.Given as goal

abbrev pub invariant-loop-j : goal.invariant-loop-j
invariant-loop-j l = record {
  count : l.self.count ≡ l.fn.self.count;
  next : l.self.next ≡ l.fn.self.next;
  settled : KeepsSettled l.fn.self.parts.items l.self.parts.items;
  entries : (b : ℕ) → entry_at l.self.parts.items b ≡ entry_at l.fn.self.parts.items b;
  touched : (j : ℕ) → j < l.j → HasSetAt l.set l.fn.self.parts.items j → IsTouched l.self.parts.items j;
  few : (j : ℕ) → IsTouched l.self.parts.items j → IsTouched l.fn.self.parts.items j ⊎ HasSetAt l.set l.fn.self.parts.items j;
}
