use Rattle.std.proofs.Common.{◌∙◌, List, ℕ, false, ap}
use Rattle.model.specs.declared.command.Command.TheVariants as command
use Rattle.model.specs.declared.command.PathCall.TheVariants as calls
use Rattle.mount.proofs.ReplyLemmas.{applied_so}
use Rattle.mount.proofs.fs.Fs.lattr_in.Goals as goal

pub returns : goal.returns
returns g c = applied_so (ap (λ (x : List ℕ). command.Within x (calls.Attr c.of-2.result false)) c.of.ensures ∙ ap (λ (x : List ℕ). command.Within c.args.name.now (calls.Attr x false)) c.of-2.ensures) c.apply_for_attributes.ensures
