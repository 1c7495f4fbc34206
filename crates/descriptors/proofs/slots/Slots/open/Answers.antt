use Rattle.std.proofs.Common.{◌/◌, ◌∙◌, arith}
use Rattle.std.proofs.Math.ListN.{length-set}
use Rattle.descriptors.specs.Slots.{slot_at}
use Rattle.descriptors.proofs.SlotLemmas.{chunk_within, count_opened}
use Rattle.descriptors.proofs.slots.Slots.open.Goals as goal

pub overflow_add-self : goal.overflow_add-self
overflow_add-self c =
    let s = c.args.self.now in
    omega (arith, s.counted (c.args.fd / 256) (omega (arith, s.few, c.requires.room)), chunk_within (slot_at s) (c.args.fd / 256))

pub invariant_of-self-clause-counted : goal.invariant_of-self-clause-counted
invariant_of-self-clause-counted c =
    let s = c.args.self.now in
    count_opened s.open_in s.slots.items c.args.fd s.counted c.args.description s.chunks (omega (arith, s.few, s.slots.ok.0)) (omega (arith, c.requires.room, s.slots.ok.0)) c.requires.free

pub invariant_of-self-clause-chunks : goal.invariant_of-self-clause-chunks
invariant_of-self-clause-chunks c = let s = c.args.self.now in length-set s.open_in (c.args.fd / 256) _ ∙ s.chunks
