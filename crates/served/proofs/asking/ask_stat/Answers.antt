use Rattle.model.specs.declared.reply.Reply.TheVariants as reply
use Rattle.served.proofs.TurnLaws.{came_told, came_untold}
use Rattle.served.proofs.asking.ask_stat.Goals as goal

pub returns-in-Stat : goal.returns-in-Stat
returns-in-Stat g c = came_told g.F.FileSystem c.args.files.now c.apply.new.files reply.Stat c.args.command c.in-Stat.stat c.in-Stat.ensures

pub returns-in_default : goal.returns-in_default
returns-in_default g c = came_untold g.F.FileSystem c.args.files.now c.apply.new.files reply.Stat c.args.command c.apply.result c.refusal_in.result c.apply.ensures c.in_default.not-Stat c.refusal_in.ensures
