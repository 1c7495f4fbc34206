use Rattle.std.proofs.Common.{◌≡◌, ℕ, ◌*◌, ◌<◌, ◌≤◌, length}
use Rattle.blockmap.specs.Maps.{settled_at, entry_at, IsTouched}
use Rattle.blockmap.proofs.map.BlockMap.switch_to_new_root.Given as goal

abbrev pub invariant-loop-j : goal.invariant-loop-j
invariant-loop-j l = record {
  count : l.self.count ≡ l.fn.self.count;
  size : length l.self.parts.items ≡ length l.fn.self.parts.items;
  settled : (b : ℕ) → b < 1024 * l.j → settled_at l.self.parts.items b ≡ entry_at l.fn.self.parts.items b;
  entries : (b : ℕ) → b < 1024 * l.j → entry_at l.self.parts.items b ≡ entry_at l.fn.self.parts.items b;
  settled_rest : (b : ℕ) → 1024 * l.j ≤ b → settled_at l.self.parts.items b ≡ settled_at l.fn.self.parts.items b;
  entries_rest : (b : ℕ) → 1024 * l.j ≤ b → entry_at l.self.parts.items b ≡ entry_at l.fn.self.parts.items b;
  untouched : (k : ℕ) → k < l.j → IsTouched l.self.parts.items k → ⊥;
}
