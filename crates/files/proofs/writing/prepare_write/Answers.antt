use Rattle.std.proofs.Common.{ℕ, subst}
use Rattle.layout.specs.StateLimits.{limits_of}
use Rattle.descriptors.specs.Tables.{table_of}
use Rattle.files.specs.Writing.{PutsFile}
use Rattle.files.proofs.Preparing.{refused_at_once}
use Rattle.files.proofs.WriteLaws.{write_refused, write_told, written_through}
use Rattle.files.proofs.writing.prepare_write.Goals as goal

pub returns-in_err-file : goal.returns-in_err-file
returns-in_err-file g c =
    let errno = c.in_err-file.field-0.0 in
    refused_at_once errno c.from_residual.result c.from_residual.ensures.1 c.in_err-file.ensures.own (λ disk settled v stands volume mounted fits.
    write_refused (limits_of c.args.inodes.now.geometry) c.args.now v c.args.table.now c.args.fd c.args.bytes.now errno c.in_err-file.ensures.passes)

pub returns : goal.returns
returns g c =
    let table = c.args.table.now in
    let f = c.in_ok-file.file in
    let opened = c.in_ok-file.ensures.passes in
    let bytes = c.args.bytes.now in
    written_through table c.args.fd f c.place_of.result bytes opened.0 c.write_file.ensures (λ disk settled v stands volume mounted fits r put.
    write_told (limits_of c.args.inodes.now.geometry) c.args.now v table c.args.fd f bytes opened.0 fits r opened (subst (λ (n : ℕ). PutsFile (limits_of c.args.inodes.now.geometry) c.args.now v (table_of table) f n bytes r) c.place_of.ensures put))
