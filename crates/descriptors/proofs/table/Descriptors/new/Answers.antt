use Rattle.descriptors.specs.Shared.{shared_at}
use Rattle.descriptors.specs.Slots.{slot_at}
use Rattle.descriptors.proofs.OpenLemmas.{none_consistent}
use Rattle.descriptors.proofs.table.Descriptors.new.Goals as goal

pub invariant_of-result : goal.invariant_of-result
invariant_of-result c =
    record {
      consistent = none_consistent (slot_at c.new.result) (shared_at c.new-2.result) c.new.ensures c.new-2.ensures;
    }
