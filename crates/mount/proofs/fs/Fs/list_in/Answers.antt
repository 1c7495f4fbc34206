use Rattle.std.proofs.Common.{◌∙◌, List, ℕ, ap}
use Rattle.model.specs.declared.command.Command.TheVariants as command
use Rattle.model.specs.declared.command.PathCall.TheVariants as calls
use Rattle.mount.proofs.ReplyLemmas.{applied_so}
use Rattle.mount.proofs.fs.Fs.list_in.Goals as goal

pub returns : goal.returns
returns g c = applied_so (ap (λ (x : List ℕ). command.Within x (calls.List c.of-2.result)) c.of.ensures ∙ ap (λ (x : List ℕ). command.Within c.args.name.now (calls.List x)) c.of-2.ensures) c.apply_for_names.ensures
