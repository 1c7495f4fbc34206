use Rattle.command_line.proofs.arguments.make_command.Goals as goal

pub returns : goal.returns
returns c = c.arg-5.ensures _ _ (c.arg-4.ensures _ _ (c.arg-3.ensures _ _ (c.arg-2.ensures _ _ (c.arg.ensures _ _ c.on_image.ensures c.size.ensures) c.size-2.ensures) c.size-3.ensures) c.flag.ensures) c.flag-2.ensures
