use Rattle.descriptors.proofs.SlotLemmas.{count_changed, open_within}
use Rattle.descriptors.proofs.slots.Slots.change.Goals as goal

pub invariant_of-self-clause-counted : goal.invariant_of-self-clause-counted
invariant_of-self-clause-counted c =
    let s = c.args.self.now in
    count_changed s.open_in s.slots.items c.args.fd s.counted c.args.description (open_within s.slots.items c.args.fd c.requires) c.requires
