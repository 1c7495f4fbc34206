use Rattle.std.proofs.Common.{◌≡◌, ◌∙◌, ℕ, true, false, refl, sym, ap}
use Rattle.std.proofs.lemmas.Bool.{not-false, not-true}
use Rattle.layout.specs.StateLimits.{limits_of}
use Rattle.model.specs.Changing.{gives_owners}
use Rattle.model.specs.declared.errno.Errno.TheVariants.{EBADF, ENOTSUP}
use Rattle.model.specs.declared.limits.Limits.{Limits}
use Rattle.calls.specs.Changing.{ComesOrStays}
use Rattle.calls.proofs.AttributeLaws.{kept_where}
use Rattle.descriptors.specs.Tables.{table_of}
use Rattle.files.specs.Opened.{tree_with}
use Rattle.files.proofs.AttributeLaws.{file_some, kept_not_open, kept_told, not_kept}
use Rattle.files.proofs.OpenLaws.{at_file}
use Rattle.files.proofs.Preparing.{leaves, refused_at_once}
use Rattle.files.proofs.fchown.prepare_fchown.Goals as goal

pub returns-then-not-limits : goal.returns-then-not-limits
returns-then-not-limits g c = refused_at_once ENOTSUP _ refl refl (λ disk settled v stands volume mounted fits.
    let limits = limits_of c.args.inodes.now.geometry in
    let table = c.args.table.now in
    let none : limits.has_attributes ≡ false = sym (ap (λ (l : Limits). l.has_attributes) c.limits.ensures) ∙ not-true c.limits.result.has_attributes c.if-not-limits.true in
    not_kept limits v table c.args.fd (λ d. gives_owners c.args.now (tree_with table v) d.number c.args.owner c.args.group) none)

pub returns-in_default : goal.returns-in_default
returns-in_default g c = refused_at_once EBADF _ refl refl (λ disk settled v stands volume mounted fits.
    let limits = limits_of c.args.inodes.now.geometry in
    let table = c.args.table.now in
    let has : limits.has_attributes ≡ true = sym (ap (λ (l : Limits). l.has_attributes) c.limits.ensures) ∙ not-false c.limits.result.has_attributes c.if-not-limits.false in
    kept_not_open limits v table c.args.fd (λ d. gives_owners c.args.now (tree_with table v) d.number c.args.owner c.args.group) has (sym c.get.ensures.file ∙ c.in_default.is))

pub give_owners-requires-clause-kept : goal.give_owners-requires-clause-kept
give_owners-requires-clause-kept g c =
    let limits = limits_of c.args.inodes.now.geometry in
    let has : limits.has_attributes ≡ true = sym (ap (λ (l : Limits). l.has_attributes) c.limits.ensures) ∙ not-false c.limits.result.has_attributes c.if-not-limits.false in
    kept_where limits.has_attributes c.args.now c.requires.now ∙ has

pub returns : goal.returns
returns g c =
    let limits = limits_of c.args.inodes.now.geometry in
    let has : limits.has_attributes ≡ true = sym (ap (λ (l : Limits). l.has_attributes) c.limits.ensures) ∙ not-false c.limits.result.has_attributes c.if-not-limits.false in
    leaves c.give_owners.ensures (λ disk settled v stands volume mounted fits r comes.
    let table = c.args.table.now in
    let f = c.in-Some.file in
    let opened = sym c.get.ensures.file ∙ c.in-Some.is in
    let gives = λ (n : ℕ). gives_owners c.args.now (tree_with table v) n c.args.owner c.args.group in
    kept_told limits v table c.args.fd (λ d. gives d.number) has f r opened
    (at_file v f (λ n. ComesOrStays (gives n) limits v (table_of table) r) c.new-number.ensures (fits.files c.args.fd f opened) (λ is. comes (file_some (v c.new-number.result) is))))
