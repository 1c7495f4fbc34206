use Rattle.std.proofs.Common.{◌≡◌, ℕ}
use Rattle.descriptors.specs.Slots.{room_in, slot_at}
use Rattle.descriptors.proofs.slots.Slots.make_room.Given as goal

abbrev pub invariant-loop-count : goal.invariant-loop-count
invariant-loop-count l = record {
  same : (d : ℕ) → slot_at l.self d ≡ slot_at l.fn.self d;
  room : room_in l.self ≡ l._count;
}
