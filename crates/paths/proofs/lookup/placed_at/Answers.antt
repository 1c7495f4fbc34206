use Rattle.std.proofs.Common.{rules, ◌≡◌, ◌≢◌, ◌∙◌, sym, ap, subst}
use Rattle.std.specs.Prelude.{◌==◌}
use Rattle.std.proofs.lemmas.Bool.{cond-true, cond-false, eq-eqb, ne_eqb}
use Rattle.inofile.specs.Settled.{content_of_object}
use Rattle.inofile.proofs.DetailLaws.{HasSizeOf, by_size}
use Rattle.layout.specs.declared.kind.Kind.{Kind}
use Rattle.layout.specs.declared.kind.Kind.TheVariants as kinds
use Rattle.paths.specs.Steps.{found_as, placed_in}
use Rattle.paths.specs.declared.lookup.Found.TheVariants as found
use Rattle.paths.proofs.LookingUp.{fails_into, finds_into}
use Rattle.paths.proofs.Objects.{placed_file, placed_other}
use Rattle.paths.proofs.lookup.placed_at.Goals.{else-eq-via-then-eq+else-object-eq0, else-eq-via-else-eq}
use Rattle.paths.proofs.lookup.placed_at.Goals as goal

pub returns-in_err-load : goal.returns-in_err-load
returns-in_err-load g c = fails_into c.from_residual.result c.from_residual.ensures.1 c.in_err-load.ensures.looks c.load.ensures.loads (λ detail disk settled v stands. c.in_err-load.ensures.damaged {detail = detail} disk settled v stands)

pub returns-in_default : goal.returns-in_default
returns-in_default g c = finds_into c.in_ok-load.ensures.looks c.load.ensures.loads tt (λ detail disk settled v stands.
    sym (ap placed_in (c.in_default.ensures.stands_for_none _ _ disk settled v (c.load.ensures.looks.kept disk settled v stands).volume)))

pub returns-then-object-eq0 : goal.returns-then-object-eq0
returns-then-object-eq0 g c = finds_into c.in_ok-load.ensures.looks c.load.ensures.loads tt (λ detail disk settled v stands.
    let o = c.in-Some.object.now in
    let inodes = c.load.new.inodes.geometry.inodes in
    let now = c.load.ensures.looks.kept disk settled v stands in
    let is_object = c.in-Some.ensures.stands _ _ disk settled v now.volume in
    let kind : o.status.kind ≡ kinds.File = search rules in
    let sized = by_size detail o.status.kind inodes (content_of_object disk o) (v c.args.number) is_object.stands in
    let file = subst (λ (k : Kind). HasSizeOf k inodes (content_of_object disk o) (v c.args.number)) kind sized in
    sym (placed_file inodes (content_of_object disk o) (v c.args.number) file ∙ cond-true (o.status.links == 0) found.Nothing found.File (eq-eqb o.status.links 0 c.if-object-eq0.true)))

pub returns : goal.returns
returns g c = finds_into c.in_ok-load.ensures.looks c.load.ensures.loads tt (λ detail disk settled v stands.
    let o = c.in-Some.object.now in
    let inodes = c.load.new.inodes.geometry.inodes in
    let now = c.load.ensures.looks.kept disk settled v stands in
    let is_object = c.in-Some.ensures.stands _ _ disk settled v now.volume in
    let sized = by_size detail o.status.kind inodes (content_of_object disk o) (v c.args.number) is_object.stands in
    c.found_by.ensures ∙ elim c.else-eq.branch [
      | else-eq-via-then-eq+else-object-eq0 w ↦
          let kind : o.status.kind ≡ kinds.File = search rules in
          let file = subst (λ (k : Kind). HasSizeOf k inodes (content_of_object disk o) (v c.args.number)) kind sized in
          ap found_as kind ∙ sym (placed_file inodes (content_of_object disk o) (v c.args.number) file ∙ cond-false (o.status.links == 0) found.Nothing found.File (ne_eqb o.status.links 0 w.if-object-eq0.false))
      | else-eq-via-else-eq w ↦
          let other : o.status.kind ≢ kinds.File = search rules in
          placed_other o.status.kind inodes (content_of_object disk o) (v c.args.number) other is_object.kind sized
    ])
