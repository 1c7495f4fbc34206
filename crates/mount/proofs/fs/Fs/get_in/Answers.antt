use Rattle.std.proofs.Common.{◌∙◌, List, ℕ, ℤ, ap, w64}
use Rattle.std.proofs.lemmas.Int.{to_z-of_z}
use Rattle.model.specs.declared.command.Command.TheVariants as command
use Rattle.model.specs.declared.command.PathCall.TheVariants as calls
use Rattle.mount.proofs.ReplyLemmas.{applied_so}
use Rattle.mount.proofs.fs.Fs.get_in.Goals as goal

pub returns : goal.returns
returns g c = applied_so (ap (λ (z : ℤ). command.Within c.of.result (calls.Get c.of-2.result z c.args.count)) (to_z-of_z w64 c.args.offset c.ranges.offset)
    ∙ ap (λ (x : List ℕ). command.Within x (calls.Get c.of-2.result c.args.offset c.args.count)) c.of.ensures
    ∙ ap (λ (x : List ℕ). command.Within c.args.name.now (calls.Get x c.args.offset c.args.count)) c.of-2.ensures) c.apply_for_data.ensures
