use Rattle.std.proofs.Common.{List, ℕ, ap}
use Rattle.model.specs.declared.command.Command.TheVariants as command
use Rattle.model.specs.declared.limits.TheConstants.{OPEN_FILES}
use Rattle.mount.proofs.ReplyLemmas.{applied_so}
use Rattle.mount.proofs.fs.Fs.open.Goals as goal

pub returns : goal.returns
returns g c = applied_so (ap (λ (x : List ℕ). command.Open x c.args.flags c.args.mode OPEN_FILES) c.of.ensures) c.apply_for_descriptor.ensures
