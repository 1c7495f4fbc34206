use Rattle.mount.proofs.CommandLemmas.{waits_failed, waits_never}
use Rattle.mount.proofs.waiting.Waiting.wait.Goals as goal

pub returns-then-self : goal.returns-then-self
returns-then-self g c = waits_failed {G = g.S.Station} c.args.self.now c.args.command.now c.if-self.true

pub returns-then-not-is_call : goal.returns-then-not-is_call
returns-then-not-is_call g c = waits_never {G = g.S.Station} c.args.self.now c.args.command.now c.if-self.false

pub returns-then-not-has_room : goal.returns-then-not-has_room
returns-then-not-has_room g c = waits_never {G = g.S.Station} c.args.self.now c.args.command.now c.if-self.false
