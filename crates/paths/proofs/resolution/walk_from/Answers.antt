use Rattle.std.proofs.Common.{◌∙◌, List, ℕ, refl, sym, ap, subst}
use Rattle.model.specs.Finding.{at_refusal, find_along, find_on}
use Rattle.model.specs.declared.errno.Errno.TheVariants.{ELOOP}
use Rattle.paths.specs.Halts.{IsWalkEndWithin, walk_end_of}
use Rattle.paths.proofs.LookingUp.{not_looked, then_fails, then_finds}
use Rattle.paths.proofs.resolution.walk_from.Goals as goal

pub returns-in_err-end : goal.returns-in_err-end
returns-in_err-end g c = then_fails c.from_residual-in_err-end.result c.from_residual-in_err-end.ensures.1 not_looked c.in_err-end.ensures

pub returns-in-At : goal.returns-in-At
returns-in-At g c = then_finds not_looked c.in_ok-end.ensures (subst (IsWalkEndWithin c.args.inodes.now.geometry.inodes) c.in-At.is c.in_ok-end.ensures.within) (λ disk settled v stands.
    ap (find_on (λ _ _. at_refusal ELOOP))
    (ap walk_end_of (sym c.in-At.is) ∙ c.in_ok-end.ensures.found disk settled v stands ∙ ap (λ (trail : List ℕ). find_along v c.args.follow trail c.args.names) c.in_ok-trail.ensures))

pub returns-in-AtLink : goal.returns-in-AtLink
returns-in-AtLink g c = then_finds not_looked c.in_ok-end.ensures refl (λ disk settled v stands.
    ap (find_on (λ _ _. at_refusal ELOOP))
    (ap walk_end_of (sym c.in-AtLink.is) ∙ c.in_ok-end.ensures.found disk settled v stands ∙ ap (λ (trail : List ℕ). find_along v c.args.follow trail c.args.names) c.in_ok-trail.ensures))
