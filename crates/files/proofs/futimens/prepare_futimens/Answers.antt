use Rattle.std.proofs.Common.{◌≡◌, ◌∙◌, ℕ, true, false, Some, None, Err, IfSome, IsTrue, refl, sym, ap, subst}
use Rattle.std.proofs.lemmas.Bool.{not-false, not-true}
use Rattle.layout.specs.StateLimits.{limits_of}
use Rattle.model.specs.Changing.{gives_time, meant_time, time_tests}
use Rattle.model.specs.Outcomes.{tested}
use Rattle.model.specs.Paths.{first_refusal}
use Rattle.model.specs.declared.errno.Errno.TheVariants.{EBADF, ENOTSUP}
use Rattle.model.specs.declared.limits.Limits.{Limits}
use Rattle.calls.specs.Changing.{ComesOrStays}
use Rattle.calls.specs.Refusals.{is_path_refusal}
use Rattle.calls.proofs.AttributeLaws.{kept_where}
use Rattle.descriptors.specs.Tables.{table_of}
use Rattle.files.specs.Opened.{tree_with}
use Rattle.files.proofs.AttributeLaws.{file_some, kept_not_open, kept_told, not_kept, tests_told}
use Rattle.files.proofs.OpenLaws.{at_file, refused_by}
use Rattle.files.proofs.Preparing.{leaves, refused_at_once}
use Rattle.files.proofs.futimens.prepare_futimens.Goals as goal

pub returns-then-not-limits : goal.returns-then-not-limits
returns-then-not-limits g c = refused_at_once ENOTSUP _ refl refl (λ disk settled v stands volume mounted fits.
    let limits = limits_of c.args.inodes.now.geometry in
    let t = tree_with c.args.table.now v in
    let none : limits.has_attributes ≡ false = sym (ap (λ (l : Limits). l.has_attributes) c.limits.ensures) ∙ not-true c.limits.result.has_attributes c.if-not-limits.true in
    not_kept limits v c.args.table.now c.args.fd (λ d. tested t (time_tests c.args.time) (gives_time c.args.now t d.number (meant_time c.args.now c.args.time))) none)

pub returns-in_default : goal.returns-in_default
returns-in_default g c = refused_at_once EBADF _ refl refl (λ disk settled v stands volume mounted fits.
    let limits = limits_of c.args.inodes.now.geometry in
    let t = tree_with c.args.table.now v in
    let has : limits.has_attributes ≡ true = sym (ap (λ (l : Limits). l.has_attributes) c.limits.ensures) ∙ not-false c.limits.result.has_attributes c.if-not-limits.false in
    kept_not_open limits v c.args.table.now c.args.fd (λ d. tested t (time_tests c.args.time) (gives_time c.args.now t d.number (meant_time c.args.now c.args.time))) has (sym c.get.ensures.file ∙ c.in_default.is))

pub returns-in-Some-refusal_of_time : goal.returns-in-Some-refusal_of_time
returns-in-Some-refusal_of_time g c =
    let errno = c.in-Some-refusal_of_time.errno in
    refused_at_once errno _ refl (subst (λ o. IfSome o (λ e. IsTrue (is_path_refusal e))) c.in-Some-refusal_of_time.is c.refusal_of_time.ensures.own) (λ disk settled v stands volume mounted fits.
    let limits = limits_of c.args.inodes.now.geometry in
    let t = tree_with c.args.table.now v in
    let has : limits.has_attributes ≡ true = sym (ap (λ (l : Limits). l.has_attributes) c.limits.ensures) ∙ not-false c.limits.result.has_attributes c.if-not-limits.false in
    let is : first_refusal (time_tests c.args.time) ≡ Some errno = sym c.refusal_of_time.ensures.first ∙ c.in-Some-refusal_of_time.is in
    kept_told limits v c.args.table.now c.args.fd (λ d. tested t (time_tests c.args.time) (gives_time c.args.now t d.number (meant_time c.args.now c.args.time))) has c.in-Some.file (Err errno)
    (sym c.get.ensures.file ∙ c.in-Some.is) (refused_by t (time_tests c.args.time) _ errno is))

pub give_time-requires-clause-passed : goal.give_time-requires-clause-passed
give_time-requires-clause-passed g c = sym c.refusal_of_time.ensures.first ∙ c.in_default-refusal_of_time.is

pub give_time-requires-clause-kept : goal.give_time-requires-clause-kept
give_time-requires-clause-kept g c =
    let limits = limits_of c.args.inodes.now.geometry in
    let has : limits.has_attributes ≡ true = sym (ap (λ (l : Limits). l.has_attributes) c.limits.ensures) ∙ not-false c.limits.result.has_attributes c.if-not-limits.false in
    kept_where limits.has_attributes c.args.now c.requires.now ∙ has

pub returns : goal.returns
returns g c =
    let limits = limits_of c.args.inodes.now.geometry in
    let has : limits.has_attributes ≡ true = sym (ap (λ (l : Limits). l.has_attributes) c.limits.ensures) ∙ not-false c.limits.result.has_attributes c.if-not-limits.false in
    let passed : first_refusal (time_tests c.args.time) ≡ None = sym c.refusal_of_time.ensures.first ∙ c.in_default-refusal_of_time.is in
    leaves c.give_time.ensures (λ disk settled v stands volume mounted fits r comes.
    let table = c.args.table.now in
    let t = tree_with table v in
    let f = c.in-Some.file in
    let opened = sym c.get.ensures.file ∙ c.in-Some.is in
    let gives = λ (n : ℕ). gives_time c.args.now t n (meant_time c.args.now c.args.time) in
    kept_told limits v table c.args.fd (λ d. tested t (time_tests c.args.time) (gives d.number)) has f r opened
    (tests_told limits v table c.args.fd (time_tests c.args.time) (gives f.number) r passed
    (at_file v f (λ n. ComesOrStays (gives n) limits v (table_of table) r) c.new-number.ensures (fits.files c.args.fd f opened) (λ is. comes (file_some (v c.new-number.result) is)))))
