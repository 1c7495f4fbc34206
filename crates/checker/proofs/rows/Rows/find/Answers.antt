use Rattle.std.proofs.Common.{arith}
use Rattle.checker.proofs.EachLaws.{get_at}
use Rattle.checker.proofs.rows.Rows.find.Goals as goal

pub returns-then-is_same : goal.returns-then-is_same
returns-then-is_same c = (
  c.index-row.result.now,
  get_at c.args.self.now.blocks.items c.loop-w.w c.index-row.result.now (omega (arith, c.loop-w-test.true, c.len-w-end.ensures)) c.index-row.ensures,
  c.is_same.ensures c.if-is_same.true,
)
