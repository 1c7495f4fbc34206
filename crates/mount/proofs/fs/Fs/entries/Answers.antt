use Rattle.std.proofs.Common.{◌∙◌, List, ℕ, ℤ, ap, w64}
use Rattle.std.proofs.lemmas.Int.{to_z-of_z}
use Rattle.model.specs.declared.command.Command.TheVariants as command
use Rattle.model.specs.declared.command.PathCall.TheVariants as calls
use Rattle.mount.proofs.ReplyLemmas.{applied_so}
use Rattle.mount.proofs.fs.Fs.entries.Goals as goal

pub returns : goal.returns
returns g c = applied_so (ap (λ (z : ℤ). command.Path (calls.Entries c.of.result z c.args.count)) (to_z-of_z w64 c.args.after c.ranges.after)
    ∙ ap (λ (x : List ℕ). command.Path (calls.Entries x c.args.after c.args.count)) c.of.ensures) c.apply_for_entries.ensures
