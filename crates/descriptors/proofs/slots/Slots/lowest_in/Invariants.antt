use Rattle.std.proofs.Common.{◌<◌, ◌≤◌, ◌+◌, ◌*◌, ℕ, IsSome}
use Rattle.descriptors.specs.Slots.{slot_at}
use Rattle.descriptors.proofs.slots.Slots.lowest_in.Given as goal

abbrev pub invariant-loop-place : goal.invariant-loop-place
invariant-loop-place l = (fd : ℕ) → 256 * l.chunk ≤ fd → fd < 256 * l.chunk + l.place → IsSome (slot_at l.self fd)
