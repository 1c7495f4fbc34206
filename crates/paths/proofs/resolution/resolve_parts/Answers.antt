use Rattle.std.proofs.Common.{◌≡◌, ◌∙◌, suc, ◌+◌, ◌-◌, ◌++◌, [], cond, refl, sym, ap, subst, arith}
use Rattle.std.proofs.lemmas.Bool.{cond-true, cond-false}
use Rattle.std.proofs.lemmas.List.Elements.{All-nil}
use Rattle.model.specs.Paths.{parts as parts_of, starts_with_slash as slashes}
use Rattle.paths.specs.Following.{find_left}
use Rattle.paths.specs.Halts.{walk_end_of, IsWalkEndWithin}
use Rattle.paths.specs.Numbers.{IsInodeNumber, AreInodeNumbers}
use Rattle.paths.specs.Places.{model_place_of, IsPlaceWithin}
use Rattle.paths.proofs.Links.{ends, follows_link}
use Rattle.paths.proofs.LookingUp.{at_end, gives_up, looked_up, then_fails, then_finds}
use Rattle.paths.proofs.Resolving.{resolves}
use Rattle.paths.proofs.resolution.resolve_parts.Goals.{then-starts_with_slash, else-starts_with_slash}
use Rattle.paths.proofs.resolution.resolve_parts.Goals as goal

pub returns-in_err-place : goal.returns-in_err-place
returns-in_err-place g c = resolves c.resolution_is_by_numbers.ensures
    (then_fails c.from_residual.result c.from_residual.ensures.1 c.loop-link.invariant.looked c.in_err-place.ensures)

pub returns-in-At : goal.returns-in-At
returns-in-At g c = resolves c.resolution_is_by_numbers.ensures
    (then_finds c.loop-link.invariant.looked c.in_ok-place.ensures
    (subst (λ z. IsPlaceWithin z.inodes c.in-At.place) c.loop-link.invariant.looked.geometry
    (subst (IsWalkEndWithin c.loop-link.inodes.geometry.inodes) c.in-At.is c.in_ok-place.ensures.within)) (λ disk settled v stands.
    let so_far = c.loop-link.invariant in
    let left = 8 - c.loop-link._link in
    let halt = ap walk_end_of (sym c.in-At.is) ∙ c.in_ok-place.ensures.found disk settled v (so_far.looked.kept disk settled v stands) in
    let one : 9 - c.loop-link._link ≡ suc left = omega (arith, c.loop-link-test.true) in
    sym (so_far.walked disk settled v stands ∙ ap (λ n. find_left n v c.args.follow c.loop-link.trail c.loop-link.parts) one
    ∙ ends v c.args.follow c.loop-link.trail c.loop-link.parts left (model_place_of c.in-At.place) halt)))

pub returns-in_err-of-in-AtLink : goal.returns-in_err-of-in-AtLink
returns-in_err-of-in-AtLink g c = resolves c.resolution_is_by_numbers.ensures
    (gives_up _ c.from_residual-in_err-of-in-AtLink.result c.from_residual-in_err-of-in-AtLink.ensures.1 (λ is. cc) (λ is. cc) (looked_up c.loop-link.invariant.looked c.in_ok-place.ensures))

pub returns-in_err-parts-in-AtLink : goal.returns-in_err-parts-in-AtLink
returns-in_err-parts-in-AtLink g c = resolves c.resolution_is_by_numbers.ensures
    (gives_up _ c.from_residual-in_err-parts-in-AtLink.result c.from_residual-in_err-parts-in-AtLink.ensures.1 (λ is. cc) (λ is. cc) (looked_up c.loop-link.invariant.looked c.in_ok-place.ensures))

pub returns : goal.returns
returns g c = resolves c.resolution_is_by_numbers.ensures (at_end c.loop-link.invariant.looked refl (λ disk settled v stands.
    let none : 9 - c.loop-link._link ≡ 0 = omega arith in
    sym (c.loop-link.invariant.walked disk settled v stands ∙ ap (λ n. find_left n v c.args.follow c.loop-link.trail c.loop-link.parts) none)))

pub loop-link-preserved : goal.loop-link-preserved
loop-link-preserved g c =
    let so_far = c.loop-link.invariant in
    let walk = c.in_ok-place.ensures in
    let inodes = c.args.inodes.now.geometry.inodes in
    let directory = c.in-AtLink.directory in
    record {
      looked = looked_up so_far.looked walk;
      numbers =
          let within = subst (λ z. AreInodeNumbers z.inodes directory) so_far.looked.geometry (subst (IsWalkEndWithin c.loop-link.inodes.geometry.inodes) c.in-AtLink.is walk.within) in
          elim c.if-starts_with_slash.branch [
            | then-starts_with_slash w ↦ subst (AreInodeNumbers inodes) (sym (w.trail-is ∙ w.root.ensures)) (All-nil (IsInodeNumber inodes))
            | else-starts_with_slash w ↦ subst (AreInodeNumbers inodes) (sym w.trail-is) within
          ];
      walked = λ disk settled v stands.
          let follow = c.args.follow in
          let trail = c.loop-link.trail in
          let names = c.loop-link.parts in
          let text = c.in-AtLink.text.items in
          let rest = c.in-AtLink.rest in
          let left = 8 - c.loop-link._link in
          let now = so_far.looked.kept disk settled v stands in
          let halt = ap walk_end_of (sym c.in-AtLink.is) ∙ walk.found disk settled v now in
          let one : 9 - c.loop-link._link ≡ suc left = omega (arith, c.loop-link-test.true) in
          let next : left ≡ 9 - (c.loop-link._link + 1) = omega (arith, c.loop-link-test.true) in
          let names_are : c.in_ok-parts-in-AtLink.parts ≡ parts_of text ++ rest =
          c.in_ok-parts-in-AtLink.ensures ∙ ap (λ p. p ++ rest) (c.in_ok-of-in-AtLink.ensures ∙ ap parts_of c.deref.ensures.value) in
          let slash : slashes text ≡ c.starts_with_slash.result = ap slashes (sym c.deref-in-AtLink.ensures.value) ∙ sym c.starts_with_slash.ensures in
          let trail_is : cond (slashes text) [] directory ≡ c.if-starts_with_slash.trail =
          elim c.if-starts_with_slash.branch [
            | then-starts_with_slash w ↦ cond-true (slashes text) [] directory (slash ∙ w.if-starts_with_slash.true) ∙ sym (w.trail-is ∙ w.root.ensures)
            | else-starts_with_slash w ↦ cond-false (slashes text) [] directory (slash ∙ w.if-starts_with_slash.false) ∙ sym w.trail-is
          ] in
          so_far.walked disk settled v stands ∙ ap (λ n. find_left n v follow trail names) one
          ∙ follows_link v follow trail names left directory text rest halt
          ∙ ap (λ t. find_left left v follow t (parts_of text ++ rest)) trail_is
          ∙ ap (find_left left v follow c.if-starts_with_slash.trail) (sym names_are)
          ∙ ap (λ n. find_left n v follow c.if-starts_with_slash.trail c.in_ok-parts-in-AtLink.parts) next;
    }
