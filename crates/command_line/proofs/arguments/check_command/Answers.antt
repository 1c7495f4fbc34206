use Rattle.command_line.proofs.arguments.check_command.Goals as goal

pub returns : goal.returns
returns c = c.on_image.ensures
