use Rattle.checker.proofs.RowsLaws.{picked_none}
use Rattle.checker.proofs.rows.Rows.none.Goals as goal

pub returns-clause-rows : goal.returns-clause-rows
returns-clause-rows c = picked_none c.new.result.items c.new-2.result.items c.new-2.ensures.items
