use Rattle.std.proofs.Common.{Option, Ok, subst, sym}
use Rattle.layout.specs.StateLimits.{limits_of}
use Rattle.model.specs.Attributes.{KeepsTime}
use Rattle.model.specs.declared.time.Time.{Time}
use Rattle.model.proofs.TreeMarkLemmas.{time_kept}
use Rattle.model.specs.declared.command.Command.TheVariants as command
use Rattle.model.specs.declared.reply.Reply.TheVariants.{Done}
use Rattle.dispatch.specs.Preparing.{PreparesCall}
use Rattle.dispatch.specs.declared.prepared_call.PreparedChange.{PreparedChange}
use Rattle.dispatch.specs.declared.table_move.TableMove.TheVariants.{Stays}
use Rattle.dispatch.proofs.DoingLaws.{path_done, path_refused}
use Rattle.dispatch.proofs.path_change.prepare_done.Goals as goal

pub returns-in_err-changing : goal.returns-in_err-changing
returns-in_err-changing g c = λ files. path_refused c.args.session.now c.args.call.now _ c.from_residual.result c.from_residual.ensures.1 c.in_err-changing.ensures files

pub returns : goal.returns
returns g c = λ files.
    let call = c.args.call.now in
    subst (λ (x : Option PreparedChange). PreparesCall g.B.Blocks c.args.blocks.now c.prepare_change.new.blocks c.args.inodes.now c.prepare_change.new.inodes c.args.session.now files (command.Path call)
    (Ok (record { reply = Done; change = x; table = Stays }))) (sym c.said.ensures) (path_done c.args.session.now call c.time_of-now.ensures.is c.requires.changes c.requires.writes_none c.in_ok-changing.changing c.in_ok-changing.ensures files)

pub prepare_change-requires-clause-now : goal.prepare_change-requires-clause-now
prepare_change-requires-clause-now g c = c.time_of-now.ensures.keeps
