use Rattle.std.proofs.Common.{None, get_or, sym, ap, ◌∙◌}
use Rattle.std.proofs.lemmas.List.{get_or-replicate}
use Rattle.descriptors.proofs.SlotLemmas.{chunk_none}
use Rattle.descriptors.proofs.slots.Slots.new.Goals as goal

pub invariant_of-result-clause-counted : goal.invariant_of-result-clause-counted
invariant_of-result-clause-counted c chunk below =
    get_or-replicate 256 chunk 0 0 below
    ∙ sym (chunk_none (λ fd. get_or c.new.result.items fd None) (λ fd. ap (λ items. get_or items fd None) c.new.ensures.items) chunk)
