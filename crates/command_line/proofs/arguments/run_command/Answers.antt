use Rattle.command_line.proofs.arguments.run_command.Goals as goal

pub returns : goal.returns
returns c = c.arg-8.ensures _ _ (c.arg-7.ensures _ _ (c.arg-6.ensures _ _ (c.arg-5.ensures _ _ (c.arg-4.ensures _ _ (c.arg-3.ensures _ _ (c.arg-2.ensures _ _ (c.arg.ensures _ _ c.on_image.ensures c.place.ensures) c.flag.ensures) c.count.ensures) c.keep.ensures) c.bytes.ensures) c.count-2.ensures) c.deferred.ensures) c.explain.ensures
