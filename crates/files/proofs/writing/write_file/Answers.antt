use Rattle.std.proofs.Common.{rules, IfSome, IsTrue, None, Some, Option, Ok, refl, subst}
use Rattle.layout.specs.StateLimits.{limits_of}
use Rattle.model.specs.Records.{stamped, write}
use Rattle.model.specs.Volumes.{is_file_node}
use Rattle.records.specs.Prepared.{Does}
use Rattle.records.specs.Rewriting.{PutsBytes}
use Rattle.records.specs.declared.prepared.Prepared.{Prepared}
use Rattle.files.proofs.OpenLaws.{at_file}
use Rattle.files.proofs.Preparing.{grants}
use Rattle.files.proofs.WriteLaws.{put_failed}
use Rattle.files.proofs.writing.write_file.Goals as goal

pub returns-in_err-planned : goal.returns-in_err-planned
returns-in_err-planned g c =
    let put = c.in_err-planned.ensures in
    put_failed c.args.file.now c.args.offset c.args.bytes.now c.new-number.ensures _ c.from_residual.result c.from_residual.ensures.1 put.looks put.own put.damaged put.answers

pub returns-in_default : goal.returns-in_default
returns-in_default g c = grants c.in_ok-planned.ensures.looks tt tt tt (λ disk settled v stands. tt) (λ disk settled v table stands volume mounted is.
    let puts = PutsBytes (limits_of c.args.inodes.now.geometry) c.args.now v table in
    at_file v c.args.file.now (λ n. puts n c.args.offset c.args.bytes.now (Ok None)) c.new-number.ensures is
    (subst (λ (o : Option Prepared). IsTrue (is_file_node (v c.new-number.result)) → puts c.new-number.result c.args.offset c.args.bytes.now (Ok o)) c.in_default.is
    (c.in_ok-planned.ensures.answers disk settled v table stands volume mounted)))

pub returns : goal.returns
returns g c = grants c.in_ok-planned.ensures.looks (search rules) (search rules) (refl, tt)
    (λ disk settled v stands. subst (λ (o : Option Prepared). IfSome o (λ x. Does disk settled c.write_bytes.new.inodes v x (stamped c.args.now (write c.new-number.result c.args.offset c.args.bytes.now)))) c.in-Some.is
    (c.in_ok-planned.ensures.does disk settled v stands))
    (λ disk settled v table stands volume mounted is.
    let puts = PutsBytes (limits_of c.args.inodes.now.geometry) c.args.now v table in (
      record { number_is = c.new-number.ensures; offset_is = refl; behind_is = refl },
      at_file v c.args.file.now (λ n. puts n c.args.offset c.args.bytes.now (Ok (Some c.in-Some.prepared))) c.new-number.ensures is
          (subst (λ (o : Option Prepared). IsTrue (is_file_node (v c.new-number.result)) → puts c.new-number.result c.args.offset c.args.bytes.now (Ok o)) c.in-Some.is
          (c.in_ok-planned.ensures.answers disk settled v table stands volume mounted)),
    ))
