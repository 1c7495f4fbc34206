use Rattle.model.specs.declared.reply.Reply.TheVariants as reply
use Rattle.served.proofs.TurnLaws.{came_told, came_untold}
use Rattle.served.proofs.asking.ask_descriptor.Goals as goal

pub returns-in-Fd : goal.returns-in-Fd
returns-in-Fd g c = came_told g.F.FileSystem c.args.files.now c.apply.new.files reply.Fd c.args.command c.in-Fd.fd c.in-Fd.ensures

pub returns-in_default : goal.returns-in_default
returns-in_default g c = came_untold g.F.FileSystem c.args.files.now c.apply.new.files reply.Fd c.args.command c.apply.result c.refusal_in.result c.apply.ensures c.in_default.not-Fd c.refusal_in.ensures
