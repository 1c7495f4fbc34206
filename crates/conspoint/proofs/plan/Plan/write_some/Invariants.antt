use Rattle.std.proofs.Common.{◌≡◌, ℕ, ◌+◌, List, Ok}
use Rattle.station.specs.Moments.{Shows, Goes}
use Rattle.station.specs.Calls.{OnlyWrites}
use Rattle.buffers.specs.Disks.{ShowsDisk}
use Rattle.buffers.specs.declared.error.BlockError.{BlockError}
use Rattle.conspoint.specs.Cuts.{StaysOutside, HoldsWritten, IsFault, disk_so_far}
use Rattle.conspoint.proofs.plan.Plan.write_some.Given as goal

abbrev pub invariant-loop : goal.invariant-loop
invariant-loop g l = record {
  plan : l.self ≡ record l.fn.self { written = l.self.written };
  next : l.self.written ≡ l.fn.self.written + l.counter;
  writes : OnlyWrites {T = Unit {0}} {E = BlockError} IsFault (g.S.Station.meaning l.fn.buffers.station) (g.S.Station.meaning l.buffers.station) (Ok tt);
  goes : Goes (StaysOutside l.fn.self.blocks) (g.S.Station.meaning l.fn.buffers.station) (g.S.Station.meaning l.buffers.station);
  written : Shows (g.S.Station.meaning l.fn.buffers.station) (HoldsWritten l.fn.self) → Shows (g.S.Station.meaning l.buffers.station) (HoldsWritten l.self);
  shows : (disk : ℕ → List ℕ) → ShowsDisk (g.S.Station.meaning l.fn.buffers.station) l.fn.buffers.kept (disk_so_far l.fn.self disk) → ShowsDisk (g.S.Station.meaning l.buffers.station) l.buffers.kept (disk_so_far l.self disk);
}
