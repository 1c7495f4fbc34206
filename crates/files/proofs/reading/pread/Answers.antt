use Rattle.std.proofs.Common.{◌≡◌, ◌||◌, Bool, ℕ, ℤ, nat_abs, w64, Ok, Err, ap, subst, ◌∙◌}
use Rattle.std.proofs.lemmas.Int.{to_z-of_z}
use Rattle.model.specs.Reading.{is_negative, is_too_many}
use Rattle.descriptors.specs.Files.{figures_of}
use Rattle.files.specs.Reading.{PassesOpen, ReadsFile, read_tests}
use Rattle.descriptors.proofs.FitLemmas.{figured_file}
use Rattle.files.proofs.Preparing.{refused_at_once, sees}
use Rattle.files.proofs.ReadLaws.{pread_refused, pread_told}
use Rattle.files.proofs.reading.pread.Goals as goal

pub returns-in_err-file : goal.returns-in_err-file
returns-in_err-file g c =
    let table = c.args.table.now in
    let errno = c.in_err-file.field-0.0 in
    let wrong : c.is_no_range.result ≡ (is_negative c.args.offset || is_too_many c.args.count) =
    c.is_no_range.ensures ∙ ap (λ (z : ℤ). is_negative z || is_too_many c.args.count) (to_z-of_z w64 c.args.offset c.ranges.offset) in
    let refused = subst (λ (b : Bool). PassesOpen (read_tests b) table c.args.fd (Err errno)) wrong c.in_err-file.ensures.passes in
    refused_at_once errno c.from_residual.result c.from_residual.ensures.1 c.in_err-file.ensures.own (λ disk settled v stands volume mounted fits.
    pread_refused table v c.args.fd c.args.offset c.args.count errno refused)

pub returns : goal.returns
returns g c =
    let table = c.args.table.now in
    let f = c.in_ok-file.file in
    let back = to_z-of_z w64 c.args.offset c.ranges.offset in
    let wrong : c.is_no_range.result ≡ (is_negative c.args.offset || is_too_many c.args.count) =
    c.is_no_range.ensures ∙ ap (λ (z : ℤ). is_negative z || is_too_many c.args.count) back in
    let opened = subst (λ (b : Bool). PassesOpen (read_tests b) table c.args.fd (Ok f)) wrong c.in_ok-file.ensures.passes in
    let start : c.unsigned_abs.result ≡ nat_abs c.args.offset = c.unsigned_abs.ensures.value ∙ ap nat_abs back in
    sees c.read_file.ensures (λ disk settled v stands volume mounted fits r reads.
    let is = figured_file (v f.number) (figures_of f) (fits.files c.args.fd f opened.0) in
    pread_told table v c.args.fd c.args.offset c.args.count f r opened (subst (λ (n : ℕ). ReadsFile v f.number n c.args.count r) start (reads is)))
