use Rattle.std.proofs.Common.{List, ℕ, false, ap}
use Rattle.model.specs.declared.command.Command.TheVariants as command
use Rattle.model.specs.declared.command.PathCall.TheVariants as calls
use Rattle.mount.proofs.ReplyLemmas.{applied_so}
use Rattle.mount.proofs.fs.Fs.lutimens.Goals as goal

pub returns : goal.returns
returns g c = applied_so (ap (λ (x : List ℕ). command.Path (calls.Utimens x false c.args.time)) c.of.ensures) c.apply_for_done.ensures
