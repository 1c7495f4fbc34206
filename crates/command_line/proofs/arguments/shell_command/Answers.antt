use Rattle.command_line.proofs.arguments.shell_command.Goals as goal

pub returns : goal.returns
returns c = c.arg-3.ensures _ _ (c.arg-2.ensures _ _ (c.arg.ensures _ _ c.on_image.ensures c.together.ensures) c.deferred.ensures) c.explain.ensures
