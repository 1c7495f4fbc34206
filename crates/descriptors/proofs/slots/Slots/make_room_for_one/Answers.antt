use Rattle.std.proofs.Common.{None, get_or, is_ok, sym, ◌∙◌}
use Rattle.descriptors.specs.Slots.{slot_at}
use Rattle.descriptors.proofs.SlotLemmas.{chunk_same, pushed_same}
use Rattle.descriptors.proofs.slots.Slots.make_room_for_one.Goals as goal

pub invariant_of-self-clause-counted : goal.invariant_of-self-clause-counted
invariant_of-self-clause-counted c chunk below =
    let s = c.args.self.now in
    s.counted chunk below
    ∙ sym (chunk_same (slot_at s) (λ fd. get_or c.push.new.self.items fd None) (pushed_same (is_ok c.push.result) s.slots.items c.push.new.self.items c.push.ensures.items) chunk)
