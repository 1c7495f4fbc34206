use Rattle.std.proofs.Common.{◌≡◌, rules, false}
use Rattle.buffers.proofs.SectorLaws.{told_lost}
use Rattle.loading.proofs.LostLaws.{lost_tells}
use Rattle.loading.proofs.slots.read_slot.Goals as goal

pub returns-then-not-branch-clause-holds : goal.returns-then-not-branch-clause-holds
returns-then-not-branch-clause-holds g c within honest =
    let no : c.in_ok-read_sector.field-0 ≡ false = search rules in
    lost_tells _ (told_lost c.in_ok-read_sector.field-0 _ _ no (c.in_ok-read_sector.ensures.bytes honest))
