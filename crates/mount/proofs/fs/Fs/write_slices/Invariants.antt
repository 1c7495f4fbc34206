use Rattle.std.proofs.Common.{Ok}
use Rattle.mount.specs.Batching.{MakesSlices}
use Rattle.mount.proofs.fs.Fs.write_slices.Given as goal

abbrev pub invariant-loop : goal.invariant-loop
invariant-loop g l = MakesSlices {G = g.S.Station} l.fn.self l.self (Ok tt)
