use Rattle.std.proofs.Common.{refl, ◌∙◌, arith}
use Rattle.memory_station.proofs.TiedLemmas.{tied-load}
use Rattle.memory_station.specs.Unsynced.{unsynced_writes}
use Rattle.memory_station.proofs.media.Media.load.Goals as goal

pub invariant_of-result-clause-tied : goal.invariant_of-result-clause-tied
invariant_of-result-clause-tied c = tied-load _ _ _ _ _ _ _ _ _ _ _
    (c.in_ok-from_slice.ensures.items ∙ c.deref.ensures.value)
    (c.in_ok-from_slice-2.ensures.items ∙ c.deref-2.ensures.value)
    c.in_ok-from_slice-3.ensures.items
    c.in_ok-load-2.ensures.sectors
    (λ n. c.in_ok-load.ensures.sectors n ∙ rw (c.in_ok-from_slice-4.ensures.items, c.deref-3.ensures.value) refl)
    c.new.ensures.items c.new-2.ensures.items

pub invariant_of-result-clause-listed : goal.invariant_of-result-clause-listed
unfolding unsynced_writes
invariant_of-result-clause-listed c = rw (c.new.ensures.items, c.new-2.ensures.items) refl

pub invariant_of-result-clause-room : goal.invariant_of-result-clause-room
invariant_of-result-clause-room c = omega (arith, c.in_ok-load.ensures.count, c.in_ok-load-2.ensures.room, c.new-2.ensures.len)
