use Rattle.std.proofs.Common.{◌-◌, rules}
use Rattle.layout.specs.Record.{change_of}
use Rattle.oplog.specs.LogEnd.{logged_body}
use Rattle.oplog.proofs.Batches.{first_waits, one_waits}
use Rattle.oplog.proofs.batch.Batch.add.Goals as goal

pub returns-then-is_empty-clause-added : goal.returns-then-is_empty-clause-added
returns-then-is_empty-clause-added c bodies waits =
    first_waits bodies (logged_body (change_of c.args.change.now)) c.args.self.now c.in_ok-behind.behind.items c.extend_from_slice.new.self.items c.extend_from_slice.result
    waits c.in_ok-behind.ensures.spelled (search rules) (search rules)

pub returns-clause-added : goal.returns-clause-added
returns-clause-added c bodies waits =
    one_waits bodies (logged_body (change_of c.args.change.now)) c.args.self.now c.in_ok-behind.behind.items _ (c.len-gate.result - 1) waits c.in_ok-behind.ensures.spelled (search rules) (search rules)
