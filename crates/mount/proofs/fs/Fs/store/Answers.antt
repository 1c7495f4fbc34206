use Rattle.std.proofs.Common.{◌∙◌, List, ℕ, ℤ, ap, w64}
use Rattle.std.proofs.lemmas.Int.{to_z-of_z}
use Rattle.model.specs.declared.command.Command.TheVariants as command
use Rattle.model.specs.declared.command.PathCall.TheVariants as calls
use Rattle.mount.proofs.ReplyLemmas.{applied_so}
use Rattle.mount.proofs.fs.Fs.store.Goals as goal

pub returns : goal.returns
returns g c = applied_so (ap (λ (z : ℤ). command.Path (calls.Store c.of.result z c.of-2.result)) (to_z-of_z w64 c.args.offset c.ranges.offset)
    ∙ ap (λ (x : List ℕ). command.Path (calls.Store x c.args.offset c.of-2.result)) c.of.ensures
    ∙ ap (λ (x : List ℕ). command.Path (calls.Store c.args.path.now c.args.offset x)) c.of-2.ensures) c.apply_for_written.ensures
