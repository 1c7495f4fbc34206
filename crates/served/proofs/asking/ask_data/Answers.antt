use Rattle.model.specs.declared.reply.Reply.TheVariants as reply
use Rattle.served.proofs.TurnLaws.{came_told, came_untold}
use Rattle.served.proofs.asking.ask_data.Goals as goal

pub returns-in-Data : goal.returns-in-Data
returns-in-Data g c = came_told g.F.FileSystem c.args.files.now c.apply.new.files reply.Data c.args.command c.in-Data.text c.in-Data.ensures

pub returns-in_default : goal.returns-in_default
returns-in_default g c = came_untold g.F.FileSystem c.args.files.now c.apply.new.files reply.Data c.args.command c.apply.result c.refusal_in.result c.apply.ensures c.in_default.not-Data c.refusal_in.ensures
