use Rattle.std.proofs.Common.{◌∙◌, List, ℕ, ℤ, ap, w64}
use Rattle.std.proofs.lemmas.Int.{to_z-of_z}
use Rattle.model.specs.declared.command.Command.TheVariants as command
use Rattle.mount.proofs.ReplyLemmas.{applied_so}
use Rattle.mount.proofs.fs.Fs.pwrite.Goals as goal

pub returns : goal.returns
returns g c = applied_so (ap (λ (z : ℤ). command.Pwrite c.args.fd z c.of.result) (to_z-of_z w64 c.args.offset c.ranges.offset)
    ∙ ap (λ (x : List ℕ). command.Pwrite c.args.fd c.args.offset x) c.of.ensures) c.apply_for_written.ensures
