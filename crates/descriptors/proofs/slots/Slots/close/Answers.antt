use Rattle.std.proofs.Common.{◌/◌, ◌∙◌, arith}
use Rattle.std.proofs.Math.ListN.{length-set}
use Rattle.descriptors.proofs.SlotLemmas.{count_closed, count_open, open_within}
use Rattle.descriptors.proofs.slots.Slots.close.Goals as goal

pub overflow_sub-self : goal.overflow_sub-self
overflow_sub-self c =
    let s = c.args.self.now in
    count_open s.open_in s.slots.items c.args.fd s.counted (omega (arith, s.few, s.slots.ok.0)) (open_within s.slots.items c.args.fd c.requires) c.requires

pub invariant_of-self-clause-counted : goal.invariant_of-self-clause-counted
invariant_of-self-clause-counted c =
    let s = c.args.self.now in
    count_closed s.open_in s.slots.items c.args.fd s.counted s.chunks (omega (arith, s.few, s.slots.ok.0)) (open_within s.slots.items c.args.fd c.requires) c.requires

pub invariant_of-self-clause-chunks : goal.invariant_of-self-clause-chunks
invariant_of-self-clause-chunks c = let s = c.args.self.now in length-set s.open_in (c.args.fd / 256) _ ∙ s.chunks
