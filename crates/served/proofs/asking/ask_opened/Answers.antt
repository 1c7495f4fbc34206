use Rattle.served.specs.Turns.{told_open}
use Rattle.served.proofs.TurnLaws.{came_told, came_untold}
use Rattle.served.proofs.asking.ask_opened.Goals as goal

pub returns-in-Opened : goal.returns-in-Opened
returns-in-Opened g c = came_told g.F.FileSystem c.args.files.now c.apply.new.files told_open c.args.command (c.in-Opened.fd, c.in-Opened.stat) c.in-Opened.ensures

pub returns-in_default : goal.returns-in_default
returns-in_default g c = came_untold g.F.FileSystem c.args.files.now c.apply.new.files told_open c.args.command c.apply.result c.refusal_in.result c.apply.ensures (λ (fd, stat). c.in_default.not-Opened fd stat) c.refusal_in.ensures
