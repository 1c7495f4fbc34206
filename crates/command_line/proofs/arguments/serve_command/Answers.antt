use Rattle.command_line.proofs.arguments.serve_command.Goals as goal

pub returns : goal.returns
returns c = c.arg-4.ensures _ _ (c.arg-3.ensures _ _ (c.arg-2.ensures _ _ (c.arg.ensures _ _ c.on_image.ensures c.owner.ensures) c.owner-2.ensures) c.deferred.ensures) c.explain.ensures
