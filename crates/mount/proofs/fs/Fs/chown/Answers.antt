use Rattle.std.proofs.Common.{List, ℕ, true, ap}
use Rattle.model.specs.declared.command.Command.TheVariants as command
use Rattle.model.specs.declared.command.PathCall.TheVariants as calls
use Rattle.mount.proofs.ReplyLemmas.{applied_so}
use Rattle.mount.proofs.fs.Fs.chown.Goals as goal

pub returns : goal.returns
returns g c = applied_so (ap (λ (x : List ℕ). command.Path (calls.Chown x true c.args.owner c.args.group)) c.of.ensures) c.apply_for_done.ensures
