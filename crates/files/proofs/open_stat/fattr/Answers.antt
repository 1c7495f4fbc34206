use Rattle.std.proofs.Common.{◌≡◌, ◌∙◌, ℕ, false, true, refl, sym, ap, subst}
use Rattle.std.proofs.lemmas.Bool.{not-false, not-true}
use Rattle.layout.specs.StateLimits.{limits_of}
use Rattle.model.specs.declared.errno.Errno.TheVariants.{EBADF, ENOTSUP}
use Rattle.model.specs.declared.limits.Limits.{Limits}
use Rattle.model.specs.Reading.{tells_attributes}
use Rattle.model.specs.Trees.{file}
use Rattle.files.specs.Opened.{tree_with}
use Rattle.calls.specs.Attributes.{TellsAttributes}
use Rattle.files.proofs.AttributeLaws.{kept_not_open, not_kept}
use Rattle.files.proofs.NameLaws.{attributes_told}
use Rattle.files.proofs.Preparing.{refused_at_once, sees}
use Rattle.files.proofs.open_stat.fattr.Goals as goal

pub returns-then-not-limits : goal.returns-then-not-limits
returns-then-not-limits g c = refused_at_once ENOTSUP _ refl refl (λ disk settled v stands volume mounted fits.
    let tree = tree_with c.args.table.now v in
    not_kept (limits_of c.args.inodes.now.geometry) v c.args.table.now c.args.fd (λ d. tells_attributes tree (file d.number))
    (sym (ap (λ (l : Limits). l.has_attributes) c.limits.ensures) ∙ not-true c.limits.result.has_attributes c.if-not-limits.true))

pub returns-in_default : goal.returns-in_default
returns-in_default g c = refused_at_once EBADF _ refl refl (λ disk settled v stands volume mounted fits.
    let tree = tree_with c.args.table.now v in
    kept_not_open (limits_of c.args.inodes.now.geometry) v c.args.table.now c.args.fd (λ d. tells_attributes tree (file d.number))
    (sym (ap (λ (l : Limits). l.has_attributes) c.limits.ensures) ∙ not-false c.limits.result.has_attributes c.if-not-limits.false) (sym c.get.ensures.file ∙ c.in_default.is))

pub returns : goal.returns
returns g c = sees c.attr_number.ensures (λ disk settled v stands volume mounted fits r tells.
    attributes_told c.args.table.now v c.args.fd (limits_of c.args.inodes.now.geometry)
    (sym (ap (λ (l : Limits). l.has_attributes) c.limits.ensures) ∙ not-false c.limits.result.has_attributes c.if-not-limits.false) c.in-Some.file r volume
    c.volumes_tell_links.ensures fits (sym c.get.ensures.file ∙ c.in-Some.is) (subst (λ (n : ℕ). TellsAttributes v n r) c.new.ensures tells))
