use Rattle.std.proofs.Common.{◌<◌, ◌*◌, ℕ, IsSome}
use Rattle.descriptors.specs.Slots.{slot_at}
use Rattle.descriptors.proofs.slots.Slots.lowest_free.Given as goal

abbrev pub invariant-loop-chunk : goal.invariant-loop-chunk
invariant-loop-chunk l = (fd : ℕ) → fd < 256 * l.chunk → IsSome (slot_at l.self fd)
