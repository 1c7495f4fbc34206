use Rattle.dispatch.proofs.AnsweringLaws.{waits_none}
use Rattle.dispatch.proofs.serving.call_waiting.Goals as goal

pub returns-then-looks_only : goal.returns-then-looks_only
returns-then-looks_only g c = rw c.waited.ensures (waits_none {G = g.S.Station} c.args.waiting.now c.look.result c.look.ensures)
