use Rattle.command_line.proofs.arguments.get_command.Goals as goal

pub returns : goal.returns
returns c = c.arg-6.ensures _ _ (c.arg-5.ensures _ _ (c.arg-4.ensures _ _ (c.arg-3.ensures _ _ (c.arg-2.ensures _ _ (c.arg.ensures _ _ c.on_image.ensures c.place.ensures) c.place-2.ensures) c.option.ensures) c.encoded.ensures) c.salvage.ensures) c.explain.ensures
