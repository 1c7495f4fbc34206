use Rattle.std.proofs.Common.{ℕ, ◌+◌, ◌*◌, arith}
use Rattle.making.specs.Starts as starts
use Rattle.making.proofs.StartLaws.{one_more}
use Rattle.making.proofs.map.empty_part.Goals as goal

pub loop-i-preserved : goal.loop-i-preserved
loop-i-preserved c = record {
  size = c.type_inv.bytes;
  set = one_more (λ (j : ℕ). starts.system_entry (1024 * c.args.k + j)) c.loop-i.i c.system_entry.result c.loop-i.bytes c.set_map_entry.new.bytes c.loop-i.invariant.size (omega (arith, c.loop-i-test.true)) c.loop-i.invariant.set
      c.set_map_entry.ensures c.system_entry.ensures;
}
