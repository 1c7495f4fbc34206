use Rattle.std.proofs.Common.{◌∙◌, List, ℕ, ℤ, ap, w64}
use Rattle.std.proofs.lemmas.Int.{to_z-of_z}
use Rattle.model.specs.declared.command.Command.TheVariants as command
use Rattle.model.specs.declared.command.PathCall.TheVariants as calls
use Rattle.mount.proofs.ReplyLemmas.{applied_so}
use Rattle.mount.proofs.fs.Fs.entries_in.Goals as goal

pub returns : goal.returns
returns g c = applied_so (ap (λ (z : ℤ). command.Within c.of.result (calls.Entries c.of-2.result z c.args.count)) (to_z-of_z w64 c.args.after c.ranges.after)
    ∙ ap (λ (x : List ℕ). command.Within x (calls.Entries c.of-2.result c.args.after c.args.count)) c.of.ensures
    ∙ ap (λ (x : List ℕ). command.Within c.args.name.now (calls.Entries x c.args.after c.args.count)) c.of-2.ensures) c.apply_for_entries.ensures
