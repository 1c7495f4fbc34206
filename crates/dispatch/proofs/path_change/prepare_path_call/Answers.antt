use Rattle.std.proofs.Common.{rules, ◌∙◌, ℤ, List, ℕ, w64, ap, subst, sym}
use Rattle.std.proofs.lemmas.Int.{to_z-of_z}
use Rattle.model.specs.declared.command.Command.TheVariants as command
use Rattle.model.specs.declared.command.PathCall.{PathCall}
use Rattle.model.specs.declared.command.PathCall.TheVariants as path_calls
use Rattle.dispatch.specs.Preparing.{PreparesCall}
use Rattle.dispatch.proofs.ChangingLaws.{writes_none}
use Rattle.dispatch.proofs.OpenFileLaws.{asked_so}
use Rattle.dispatch.proofs.path_change.prepare_path_call.Goals as goal

pub returns-in-Store : goal.returns-in-Store
returns-in-Store g c = λ files.
    let path = c.as_bytes.result.now in
    let bytes = c.as_bytes-bytes.result.now in
    let offset = c.in-Store.offset in
    asked_so c.args.session.now (command.Path c.args.call.now) (command.Path (path_calls.Store path offset bytes)) c.prepare_storing.result
    (ap (λ (x : PathCall). command.Path x) (c.in-Store.is ∙ ap (λ (p : List ℕ). path_calls.Store p offset c.in-Store.data) (sym c.as_bytes.ensures) ∙ ap (λ (b : List ℕ). path_calls.Store path offset b) (sym c.as_bytes-bytes.ensures)))
    (subst (λ (z : ℤ). PreparesCall g.B.Blocks c.args.blocks.now c.prepare_storing.new.blocks c.args.inodes.now c.prepare_storing.new.inodes c.args.session.now files (command.Path (path_calls.Store path z bytes)) c.prepare_storing.result)
    (to_z-of_z w64 offset (search rules)) (c.prepare_storing.ensures files))

pub prepare_done-requires-clause-writes_none : goal.prepare_done-requires-clause-writes_none
prepare_done-requires-clause-writes_none g c = writes_none c.args.call.now c.in_default.not-Store
