use Rattle.std.proofs.Common.{◌≡◌, ◌||◌, Bool, ℕ, ℤ, length, nat_abs, w64, Ok, Err, ap, subst, ◌∙◌}
use Rattle.std.proofs.lemmas.Int.{to_z-of_z}
use Rattle.layout.specs.StateLimits.{limits_of}
use Rattle.model.specs.Reading.{is_negative, is_too_many}
use Rattle.descriptors.specs.Tables.{table_of}
use Rattle.files.specs.Reading.{PassesOpen}
use Rattle.files.specs.Writing.{PutsFile, write_tests}
use Rattle.files.proofs.Preparing.{refused_at_once}
use Rattle.files.proofs.WriteLaws.{pwrite_refused, pwrite_told, written_through}
use Rattle.files.proofs.writing.prepare_pwrite.Goals as goal

pub returns-in_err-file : goal.returns-in_err-file
returns-in_err-file g c =
    let table = c.args.table.now in
    let errno = c.in_err-file.field-0.0 in
    let bytes = c.args.bytes.now in
    let wrong : c.is_no_range.result ≡ (is_negative c.args.offset || is_too_many (length bytes)) =
    c.is_no_range.ensures ∙ ap (λ (z : ℤ). is_negative z || is_too_many (length bytes)) (to_z-of_z w64 c.args.offset c.ranges.offset) in
    let refused = subst (λ (b : Bool). PassesOpen (write_tests b) table c.args.fd (Err errno)) wrong c.in_err-file.ensures.passes in
    refused_at_once errno c.from_residual.result c.from_residual.ensures.1 c.in_err-file.ensures.own (λ disk settled v stands volume mounted fits.
    pwrite_refused (limits_of c.args.inodes.now.geometry) c.args.now v table c.args.fd bytes c.args.offset errno refused)

pub returns : goal.returns
returns g c =
    let table = c.args.table.now in
    let f = c.in_ok-file.file in
    let limits = limits_of c.args.inodes.now.geometry in
    let bytes = c.args.bytes.now in
    let back = to_z-of_z w64 c.args.offset c.ranges.offset in
    let wrong : c.is_no_range.result ≡ (is_negative c.args.offset || is_too_many (length bytes)) =
    c.is_no_range.ensures ∙ ap (λ (z : ℤ). is_negative z || is_too_many (length bytes)) back in
    let opened = subst (λ (b : Bool). PassesOpen (write_tests b) table c.args.fd (Ok f)) wrong c.in_ok-file.ensures.passes in
    let start : c.unsigned_abs.result ≡ nat_abs c.args.offset = c.unsigned_abs.ensures.value ∙ ap nat_abs back in
    written_through table c.args.fd f c.unsigned_abs.result bytes opened.0 c.write_file.ensures (λ disk settled v stands volume mounted fits r put.
    pwrite_told limits c.args.now v table c.args.fd f bytes opened.0 fits c.args.offset r opened (subst (λ (n : ℕ). PutsFile limits c.args.now v (table_of table) f n bytes r) start put))
