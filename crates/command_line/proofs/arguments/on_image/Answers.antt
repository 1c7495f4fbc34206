use Rattle.command_line.proofs.arguments.on_image.Goals as goal

pub returns : goal.returns
returns c = c.arg-2.ensures _ _ (c.arg.ensures _ _ (c.of.ensures _ c.named.ensures) c.place.ensures) c.place-2.ensures
