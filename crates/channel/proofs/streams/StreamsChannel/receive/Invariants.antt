use Rattle.std.proofs.Common.{◌≡◌}
use Rattle.std.specs.Io.KnownBytes.{Keeps}
use Rattle.channel.proofs.streams.StreamsChannel.receive.Given as goal

abbrev pub invariant-loop : goal.invariant-loop
invariant-loop g l = (l.self.output ≡ l.fn.self.output) × Keeps (g.R.Read.remaining l.fn.self.input) (g.R.Read.remaining l.self.input)
