use Rattle.model.specs.declared.reply.Reply.TheVariants as reply
use Rattle.served.proofs.TurnLaws.{came_told, came_untold}
use Rattle.served.proofs.asking.ask_text.Goals as goal

pub returns-in-Text : goal.returns-in-Text
returns-in-Text g c = came_told g.F.FileSystem c.args.files.now c.apply.new.files reply.Text c.args.command c.in-Text.text c.in-Text.ensures

pub returns-in_default : goal.returns-in_default
returns-in_default g c = came_untold g.F.FileSystem c.args.files.now c.apply.new.files reply.Text c.args.command c.apply.result c.refusal_in.result c.apply.ensures c.in_default.not-Text c.refusal_in.ensures
