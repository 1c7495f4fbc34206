use Rattle.command_line.proofs.arguments.restore_command.Goals as goal

pub returns : goal.returns
returns c = c.arg-5.ensures _ _ (c.arg-4.ensures _ _ (c.arg-3.ensures _ _ (c.arg-2.ensures _ _ (c.arg.ensures _ _ c.on_image.ensures c.place.ensures) c.place-2.ensures) c.last_place.ensures) c.encoded.ensures) c.explain.ensures
