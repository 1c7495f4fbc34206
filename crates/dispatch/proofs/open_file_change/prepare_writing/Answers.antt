use Rattle.std.proofs.Common.{rules, length, Option, refl, subst}
use Rattle.layout.specs.StateLimits.{limits_of}
use Rattle.model.specs.Descriptors.{writes}
use Rattle.model.specs.Records.{applied, work_of}
use Rattle.model.specs.Room.{logs, nothing}
use Rattle.model.specs.Volumes.{tree_of}
use Rattle.model.specs.declared.time.Time.{Time}
use Rattle.files.specs.Opened.{tree_with}
use Rattle.files.specs.Writing.{moved_to}
use Rattle.dispatch.specs.Preparing.{logged_by}
use Rattle.model.specs.declared.command.Command.TheVariants as command
use Rattle.model.specs.declared.reply.Reply.TheVariants.{Refused, Wrote}
use Rattle.descriptors.specs.Tables.{table_of}
use Rattle.files.proofs.Preparing.{passes}
use Rattle.dispatch.specs.declared.prepared_call.CallRecord.TheVariants as records
use Rattle.dispatch.specs.declared.prepared_call.PreparedChange.{PreparedChange}
use Rattle.dispatch.specs.declared.table_move.TableMove.TheVariants.{Moves}
use Rattle.dispatch.proofs.DoingLaws.{does, goes_beside}
use Rattle.dispatch.proofs.open_file_change.prepare_writing.Goals as goal

pub returns-in_err-found : goal.returns-in_err-found
returns-in_err-found g c =
    passes _ c.from_residual.result c.from_residual.ensures.1 c.in_err-found.ensures (λ disk settled v stands volume mounted fits e told snapshots room. (
      subst (λ (n : Option Time). writes (limits_of c.args.inodes.now.geometry) n (tree_with c.args.files.now v) c.args.fd c.args.bytes.now (Refused e) (tree_with c.args.files.now v) nothing) c.time_of-now.ensures.is told,
      refl,
    ))

pub returns-in-Some : goal.returns-in-Some
returns-in-Some g c =
    let call = command.Write c.args.fd c.args.bytes.now in
    let w = c.in-Some.writing.written in
    let change : PreparedChange = record { time = c.time_of-now.result; «record» = records.Writes w.number w.offset c.args.bytes; prepared = c.in-Some.writing.prepared } in
    does c.args.session.now call c.time_of-now.ensures.is (rw c.in-Some.is at c.in_ok-found.ensures) (λ within. record { kind = tt; accepted = λ errno is. cc; moves = (within.2, search rules); numbered = tt; limits = (within.0, within.1) }) (λ P is. is)
    (λ v told. goes_beside (limits_of c.args.inodes.now.geometry) c.args.session.now v (table_of c.args.files.now) call (Wrote (length c.args.bytes.now)) (Moves c.args.fd w.behind) change told.0 (λ x. tt) (λ snapshots room. (
      subst (λ (n : Option Time). writes (limits_of c.args.inodes.now.geometry) n (tree_with c.args.files.now v) c.args.fd c.args.bytes.now (Wrote (length c.args.bytes.now)) (tree_of (applied (logged_by change) v) (moved_to c.args.fd w.behind (table_of c.args.files.now))) (logs (work_of v (logged_by change)))) c.time_of-now.ensures.is told.2,
      refl,
    )))

pub returns-in-None : goal.returns-in-None
returns-in-None g c =
    does c.args.session.now (command.Write c.args.fd c.args.bytes.now) c.time_of-now.ensures.is (rw c.in-None.is at c.in_ok-found.ensures) (λ within. record { kind = tt; accepted = λ errno is. cc; moves = tt; numbered = tt; limits = tt }) (λ P is. tt)
    (λ v told. (
      tt,
      λ snapshots room. (
        subst (λ (n : Option Time). writes (limits_of c.args.inodes.now.geometry) n (tree_with c.args.files.now v) c.args.fd c.args.bytes.now (Wrote 0) (tree_with c.args.files.now v) nothing) c.time_of-now.ensures.is told,
        refl,
      ),
    ))
