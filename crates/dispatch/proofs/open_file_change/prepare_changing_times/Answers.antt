use Rattle.std.proofs.Common.{Option, Ok, Err, refl, subst, sym}
use Rattle.layout.specs.StateLimits.{limits_of}
use Rattle.model.specs.Descriptors.{changes_open_times}
use Rattle.model.specs.Sessions.{kept_time}
use Rattle.model.specs.declared.time.Time.{Time}
use Rattle.calls.specs.Changing.{ComesOrStays}
use Rattle.model.specs.declared.command.Command.TheVariants as command
use Rattle.model.specs.declared.reply.Reply.TheVariants.{Done}
use Rattle.descriptors.specs.Tables.{table_of}
use Rattle.files.specs.Opened.{tree_with}
use Rattle.files.proofs.Preparing.{passes}
use Rattle.dispatch.specs.Preparing.{PreparesCall}
use Rattle.dispatch.specs.declared.prepared_call.PreparedChange.{PreparedChange}
use Rattle.dispatch.specs.declared.table_move.TableMove.TheVariants.{Stays}
use Rattle.dispatch.proofs.DoingLaws.{comes_so, does, said_so, said_within}
use Rattle.dispatch.proofs.open_file_change.prepare_changing_times.Goals as goal

pub returns-in_err-found : goal.returns-in_err-found
returns-in_err-found g c =
    let limits = limits_of c.args.inodes.now.geometry in
    passes _ c.from_residual.result c.from_residual.ensures.1 c.in_err-found.ensures (λ disk settled v stands volume mounted fits e told snapshots room. (
      subst (λ (n : Option Time). ComesOrStays (changes_open_times limits n (tree_with c.args.files.now v) c.args.fd c.args.time) (limits_of c.args.inodes.now.geometry) v (table_of c.args.files.now) (Err e)) c.time_of-now.ensures.is told,
      refl,
    ))

pub returns : goal.returns
returns g c =
    let files = c.args.files.now in
    let limits = limits_of c.args.inodes.now.geometry in
    let o = c.in_ok-found.found in
    subst (λ (x : Option PreparedChange). PreparesCall g.B.Blocks c.args.blocks.now c.prepare_futimens.new.blocks c.args.inodes.now c.prepare_futimens.new.inodes c.args.session.now files (command.Futimens c.args.fd c.args.time)
    (Ok (record { reply = Done; change = x; table = Stays }))) (sym c.said.ensures)
    (does c.args.session.now (command.Futimens c.args.fd c.args.time) c.time_of-now.ensures.is c.in_ok-found.ensures (λ within. record { kind = tt; accepted = λ errno is. cc; moves = tt; numbered = tt; limits = said_within o }) (λ P is. said_so o P is) (λ v told. comes_so limits c.args.session.now v (table_of files) (command.Futimens c.args.fd c.args.time) (changes_open_times limits (kept_time (limits_of c.args.inodes.now.geometry) c.args.session.now.time) (tree_with files v) c.args.fd c.args.time) o (λ reply w need told snapshots room. (told, refl))
    (subst (λ (n : Option Time). ComesOrStays (changes_open_times limits n (tree_with files v) c.args.fd c.args.time) limits v (table_of files) (Ok o)) c.time_of-now.ensures.is told)))
