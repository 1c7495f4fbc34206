use Rattle.std.proofs.Common.{arith}
use Rattle.layout.proofs.LogLemmas.{nothing}
use Rattle.layout.proofs.log.read_gate.Goals as goal

pub returns-in-empty : goal.returns-in-empty
returns-in-empty c bodies holds = nothing c.args.bytes.now bodies (omega arith) holds
