use Rattle.std.proofs.Common.{List, ℕ, ap}
use Rattle.model.specs.declared.command.Command.TheVariants as command
use Rattle.mount.proofs.ReplyLemmas.{applied_so}
use Rattle.mount.proofs.fs.Fs.snap_restore.Goals as goal

pub returns : goal.returns
returns g c = applied_so (ap (λ (x : List ℕ). command.SnapRestore x) c.of.ensures) c.apply_for_done.ensures
