use Rattle.std.proofs.Math.Path.{fun_ext}
use Rattle.loading.proofs.laws.sound_files_read_as_held.Goals as goal

pub returns : goal.returns
returns c = λ detail s disk f sound. fun_ext (λ n. c.settled_files_are_as_held.ensures _ s disk f n sound)
