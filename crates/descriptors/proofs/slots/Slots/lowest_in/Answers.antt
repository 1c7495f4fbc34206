use Rattle.std.proofs.Common.{arith}
use Rattle.descriptors.specs.Slots.{slot_at}
use Rattle.descriptors.proofs.SlotLemmas.{chunk_all}
use Rattle.descriptors.proofs.slots.Slots.lowest_in.Goals as goal

pub unreachable-requires : goal.unreachable-requires
unreachable-requires c = chunk_all (slot_at c.args.self.now) c.args.chunk c.requires.some (λ fd from below. c.loop-place.invariant fd from (omega (arith, below)))
