use Rattle.std.proofs.Common.{w64, length, Option, Ok, Err, Some, None, refl, subst}
use Rattle.std.proofs.lemmas.Int.{to_z-of_z}
use Rattle.layout.specs.StateLimits.{limits_of}
use Rattle.model.specs.Descriptors.{writes_to}
use Rattle.model.specs.Records.{applied, work_of}
use Rattle.model.specs.Room.{logs, nothing}
use Rattle.model.specs.Volumes.{tree_of}
use Rattle.model.specs.declared.time.Time.{Time}
use Rattle.files.specs.Opened.{tree_with}
use Rattle.dispatch.specs.Preparing.{logged_by}
use Rattle.model.specs.declared.command.Command.TheVariants as command
use Rattle.model.specs.declared.reply.Reply.TheVariants.{Refused, Wrote}
use Rattle.descriptors.specs.Tables.{table_of}
use Rattle.files.specs.declared.written.Writing.{Writing}
use Rattle.files.proofs.Preparing.{passes}
use Rattle.dispatch.specs.declared.prepared_call.CallRecord.TheVariants as records
use Rattle.dispatch.specs.declared.prepared_call.PreparedChange.{PreparedChange}
use Rattle.dispatch.specs.declared.table_move.TableMove.TheVariants.{Stays}
use Rattle.dispatch.proofs.DoingLaws.{does, goes_beside, writes_at}
use Rattle.dispatch.proofs.open_file_change.prepare_writing_at.Goals as goal

pub returns-in_err-found : goal.returns-in_err-found
returns-in_err-found g c =
    passes _ c.from_residual.result c.from_residual.ensures.1 c.in_err-found.ensures (λ disk settled v stands volume mounted fits e told snapshots room. (
      subst (λ (n : Option Time). writes_to (limits_of c.args.inodes.now.geometry) n (tree_with c.args.files.now v) c.args.fd c.args.offset c.args.bytes.now (Refused e) (tree_with c.args.files.now v) nothing) c.time_of-now.ensures.is
          (writes_at (limits_of c.args.inodes.now.geometry) c.time_of-now.result v c.args.files.now c.args.fd c.args.bytes.now (Err e) (to_z-of_z w64 c.args.offset c.ranges.offset) told),
      refl,
    ))

pub returns-in-Some : goal.returns-in-Some
returns-in-Some g c =
    let call = command.Pwrite c.args.fd c.args.offset c.args.bytes.now in
    let limits = limits_of c.args.inodes.now.geometry in
    let w : Writing = c.in-Some.writing in
    let change : PreparedChange = record { time = c.time_of-now.result; «record» = records.Writes w.written.number w.written.offset c.args.bytes; prepared = w.prepared } in
    does c.args.session.now call c.time_of-now.ensures.is (rw c.in-Some.is at c.in_ok-found.ensures) (λ within. record { kind = tt; accepted = λ errno is. cc; moves = tt; numbered = tt; limits = (within.0, within.1) }) (λ P is. is) (λ v told.
    let here = writes_at limits c.time_of-now.result v c.args.files.now c.args.fd c.args.bytes.now (Ok (Some w)) (to_z-of_z w64 c.args.offset c.ranges.offset) told in
    goes_beside limits c.args.session.now v (table_of c.args.files.now) call (Wrote (length c.args.bytes.now)) Stays change here.0 (λ x. tt) (λ snapshots room. (
      subst (λ (n : Option Time). writes_to limits n (tree_with c.args.files.now v) c.args.fd c.args.offset c.args.bytes.now (Wrote (length c.args.bytes.now)) (tree_of (applied (logged_by change) v) (table_of c.args.files.now)) (logs (work_of v (logged_by change)))) c.time_of-now.ensures.is here.2,
      refl,
    )))

pub returns-in-None : goal.returns-in-None
returns-in-None g c =
    does c.args.session.now (command.Pwrite c.args.fd c.args.offset c.args.bytes.now) c.time_of-now.ensures.is (rw c.in-None.is at c.in_ok-found.ensures) (λ within. record { kind = tt; accepted = λ errno is. cc; moves = tt; numbered = tt; limits = tt }) (λ P is. tt)
    (λ v told. (
      tt,
      λ snapshots room. (
        subst (λ (n : Option Time). writes_to (limits_of c.args.inodes.now.geometry) n (tree_with c.args.files.now v) c.args.fd c.args.offset c.args.bytes.now (Wrote 0) (tree_with c.args.files.now v) nothing) c.time_of-now.ensures.is
            (writes_at (limits_of c.args.inodes.now.geometry) c.time_of-now.result v c.args.files.now c.args.fd c.args.bytes.now (Ok None) (to_z-of_z w64 c.args.offset c.ranges.offset) told),
        refl,
      ),
    ))
