use Rattle.std.proofs.Common.{rules, ◌≡◌, ◌∙◌, IfSome, IsTrue, None, Some, ℕ, ap, sym, subst}
use Rattle.layout.specs.StateLimits.{limits_of}
use Rattle.model.specs.Descriptors.{described_by, open_tests}
use Rattle.model.specs.Paths.{first_refusal, text_tests}
use Rattle.model.specs.declared.reply.FileType.TheVariants.{File}
use Rattle.records.proofs.StandLaws.{no_look}
use Rattle.calls.specs.Refusals.{is_path_refusal}
use Rattle.calls.proofs.GetLaws.{text_before, text_first}
use Rattle.calls.proofs.RefusalLaws.{text_own}
use Rattle.descriptors.specs.Tables.{table_of}
use Rattle.files.proofs.OpeningLaws.{open_nowhere, open_refused, open_told}
use Rattle.files.proofs.Preparing.{grants, leaves, passes, refuses}
use Rattle.files.proofs.opening.prepare_open.Goals as goal

pub returns-in-Some : goal.returns-in-Some
returns-in-Some g c =
    let is : first_refusal (text_tests (limits_of c.args.inodes.now.geometry) c.args.path.now) ≡ Some c.in-Some.errno = sym c.refusal_of_path.ensures ∙ c.in-Some.is in
    refuses no_look (text_own (limits_of c.args.inodes.now.geometry) c.args.path.now c.in-Some.errno is) (λ disk settled v stands volume mounted fits.
    open_refused c.args.below (limits_of c.args.inodes.now.geometry) c.args.now v c.args.table.now c.args.path.now c.args.flags c.args.permissions c.in-Some.errno (text_first (limits_of c.args.inodes.now.geometry) c.args.path.now (open_tests c.args.flags) c.in-Some.errno is))

pub returns-in-Some-refusal_of_flags : goal.returns-in-Some-refusal_of_flags
returns-in-Some-refusal_of_flags g c = refuses no_look (subst (λ o. IfSome o (λ e. IsTrue (is_path_refusal e))) c.in-Some-refusal_of_flags.is c.refusal_of_flags.ensures.own) (λ disk settled v stands volume mounted fits.
    let none : first_refusal (text_tests (limits_of c.args.inodes.now.geometry) c.args.path.now) ≡ None = sym c.refusal_of_path.ensures ∙ c.in_default.is in
    let is = sym c.refusal_of_flags.ensures.first ∙ c.in-Some-refusal_of_flags.is in
    open_refused c.args.below (limits_of c.args.inodes.now.geometry) c.args.now v c.args.table.now c.args.path.now c.args.flags c.args.permissions c.in-Some-refusal_of_flags.errno
    (text_before (limits_of c.args.inodes.now.geometry) c.args.path.now (open_tests c.args.flags) none ∙ is))

pub returns-in_err-opened : goal.returns-in_err-opened
returns-in_err-opened g c =
    passes _ c.from_residual-in_err-opened.result c.from_residual-in_err-opened.ensures.1 (leaves c.in_err-opened.ensures.opens (λ disk settled v stands volume mounted fits r opens. opens))
    (λ disk settled v stands volume mounted fits.
    open_nowhere c.args.below (limits_of c.args.inodes.now.geometry) c.args.now v c.args.table.now c.args.path.now c.args.flags c.args.permissions (sym c.refusal_of_path.ensures ∙ c.in_default.is)
    (sym c.refusal_of_flags.ensures.first ∙ c.in_default-refusal_of_flags.is) c.in-Some-lowest_free.fd (sym c.lowest_free.ensures.lowest ∙ c.in-Some-lowest_free.is))

pub returns : goal.returns
returns g c =
    let opens = c.in_ok-opened.ensures.opens in
    grants opens.looks (search rules) opens.ready opens.timed opens.does (λ disk settled v stands volume mounted fits.
    open_told c.args.below (limits_of c.args.inodes.now.geometry) c.args.now v c.args.table.now c.args.path.now c.args.flags c.args.permissions (sym c.refusal_of_path.ensures ∙ c.in_default.is)
    (sym c.refusal_of_flags.ensures.first ∙ c.in_default-refusal_of_flags.is) c.in-Some-lowest_free.fd (sym c.lowest_free.ensures.lowest ∙ c.in-Some-lowest_free.is) c.in_ok-opened.opened
    c.opened-file.result _ (c.opened-file.ensures.described ∙ ap (λ (n : ℕ). described_by n c.args.flags) c.get.ensures) c.opened-file.ensures.figures
    (ap (λ (n : ℕ). record { number = n; kind = File; mode = c.in_ok-opened.opened.mode; links = c.in_ok-opened.opened.links; size = c.in_ok-opened.opened.size }) c.get.ensures)
    (opens.answers disk settled v (table_of c.args.table.now) stands volume mounted))
