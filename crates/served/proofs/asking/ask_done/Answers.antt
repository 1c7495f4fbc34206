use Rattle.served.specs.Turns.{told_done}
use Rattle.served.proofs.TurnLaws.{came_told, came_untold}
use Rattle.served.proofs.asking.ask_done.Goals as goal

pub returns-in-Done : goal.returns-in-Done
returns-in-Done g c = came_told g.F.FileSystem c.args.files.now c.apply.new.files told_done c.args.command tt c.in-Done.ensures

pub returns-in_default : goal.returns-in_default
returns-in_default g c = came_untold g.F.FileSystem c.args.files.now c.apply.new.files told_done c.args.command c.apply.result c.refusal_in.result c.apply.ensures (λ _. c.in_default.not-Done) c.refusal_in.ensures
