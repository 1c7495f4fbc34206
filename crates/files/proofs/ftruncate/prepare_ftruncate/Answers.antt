use Rattle.std.proofs.Common.{◌≡◌, ℕ, ℤ, nat_abs, to_z, of_z, w64, Ok, Err, IsOkAnd, ap, arith, subst, ◌∙◌}
use Rattle.std.proofs.lemmas.Int.{to_z-of_z}
use Rattle.model.specs.declared.limits.Limits.{Limits}
use Rattle.layout.specs.StateLimits.{limits_of}
use Rattle.calls.specs.Truncate.{TruncatesFile}
use Rattle.descriptors.specs.Tables.{table_of}
use Rattle.files.specs.Ftruncate.{truncate_tests}
use Rattle.files.specs.Reading.{PassesOpen}
use Rattle.files.proofs.FtruncateLaws.{ftruncate_refused, ftruncate_told}
use Rattle.files.proofs.OpenLaws.{at_file}
use Rattle.files.proofs.Preparing.{leaves, refused_at_once}
use Rattle.files.proofs.ftruncate.prepare_ftruncate.Goals as goal

pub returns-in_err-file : goal.returns-in_err-file
returns-in_err-file g c =
    let table = c.args.table.now in
    let errno = c.in_err-file.field-0.0 in
    let told = subst (λ (l : Limits). PassesOpen (truncate_tests l (to_z w64 (of_z w64 c.args.size))) table c.args.fd (Err errno)) c.limits.ensures c.in_err-file.ensures.passes in
    let refused = subst (λ (z : ℤ). PassesOpen (truncate_tests (limits_of c.args.inodes.now.geometry) z) table c.args.fd (Err errno)) (to_z-of_z w64 c.args.size c.ranges.size) told in
    refused_at_once errno c.from_residual.result c.from_residual.ensures.1 c.in_err-file.ensures.own (λ disk settled v stands volume mounted fits.
    ftruncate_refused (limits_of c.args.inodes.now.geometry) c.args.now v table c.args.fd c.args.size errno refused)

pub truncate_file-requires-clause-within : goal.truncate_file-requires-clause-within
truncate_file-requires-clause-within g c =
    let same : c.limits.result.file_bytes ≡ (limits_of c.args.inodes.now.geometry).file_bytes = ap (λ (l : Limits). l.file_bytes) c.limits.ensures in
    omega (arith, c.unsigned_abs.ensures.value, c.in_ok-file.ensures.within, same)

pub returns : goal.returns
returns g c = leaves c.truncate_file.ensures (λ disk settled v stands volume mounted fits r truncates_file.
    let table = c.args.table.now in
    let f = c.in_ok-file.file in
    let limits = limits_of c.args.inodes.now.geometry in
    let back = to_z-of_z w64 c.args.size c.ranges.size in
    let passes = subst (λ (l : Limits). PassesOpen (truncate_tests l (to_z w64 (of_z w64 c.args.size))) table c.args.fd (Ok f)) c.limits.ensures c.in_ok-file.ensures.passes in
    let opened = subst (λ (z : ℤ). PassesOpen (truncate_tests limits z) table c.args.fd (Ok f)) back passes in
    let start : c.unsigned_abs.result ≡ nat_abs c.args.size = c.unsigned_abs.ensures.value ∙ ap nat_abs back in
    ftruncate_told limits c.args.now v table c.args.fd c.args.size f r opened
    (subst (λ (n : ℕ). IsOkAnd r (TruncatesFile limits c.args.now v (table_of table) f.number n)) start
    (at_file v f (λ n. IsOkAnd r (TruncatesFile limits c.args.now v (table_of table) n c.unsigned_abs.result)) c.new-number.ensures (fits.files c.args.fd f opened.0) truncates_file)))
