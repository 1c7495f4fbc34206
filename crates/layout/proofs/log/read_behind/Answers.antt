use Rattle.layout.proofs.LogLemmas.{no_gate}
use Rattle.layout.proofs.log.read_behind.Goals as goal

pub returns-else-gate-eq-OPEN : goal.returns-else-gate-eq-OPEN
returns-else-gate-eq-OPEN c bodies holds = no_gate c.args.gate c.args.behind.now bodies c.if-gate-eq-CLOSED.false c.if-gate-eq-OPEN.false holds
