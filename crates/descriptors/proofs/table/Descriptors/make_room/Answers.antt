use Rattle.descriptors.specs.Shared.{shared_at}
use Rattle.descriptors.specs.Slots.{slot_at}
use Rattle.descriptors.proofs.FitLemmas.{fits_still}
use Rattle.descriptors.proofs.OpenLemmas.{opened_same}
use Rattle.descriptors.proofs.table.Descriptors.make_room.Goals as goal

pub returns-clause-fits : goal.returns-clause-fits
returns-clause-fits c =
    let t = c.args.self.now in
    fits_still t _ (opened_same (slot_at t.slots) (slot_at c.make_room.new.self) (shared_at t.files) (shared_at c.make_room-2.new.self) c.make_room.ensures.same c.make_room-2.ensures.same)
