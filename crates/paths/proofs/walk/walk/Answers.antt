use Rattle.std.proofs.Common.{rules, [], ◌≡◌, ◌∙◌, sym, ap, subst}
use Rattle.std.proofs.lemmas.List.Elements.{All-take, All-push}
use Rattle.model.specs.Finding.{find_along, halts_at_link}
use Rattle.paths.specs.Numbers.{IsInodeNumber, AreInodeNumbers}
use Rattle.paths.specs.Steps.{IsStepWithin}
use Rattle.paths.specs.declared.step.WalkStep.TheVariants.{Stays, Rises, Enters, Follows, EndsAt, FindsNothing, Refused}
use Rattle.paths.proofs.LookingUp.{at_end, gives_up, looked_up, then_fails, then_finds}
use Rattle.paths.proofs.Walks.{stepped}
use Rattle.paths.proofs.walk.walk.Goals.{in-Stays, in-Rises, in-Enters+in_ok-enter-in-Enters}
use Rattle.paths.proofs.walk.walk.Goals as goal

pub returns-in_err-walk_step : goal.returns-in_err-walk_step
returns-in_err-walk_step g c = then_fails c.from_residual.result c.from_residual.ensures.1 c.loop-name.invariant.looked c.in_err-walk_step.ensures

pub returns-in_err-enter-in-Enters : goal.returns-in_err-enter-in-Enters
returns-in_err-enter-in-Enters g c =
    gives_up _ c.from_residual-in_err-enter-in-Enters.result c.from_residual-in_err-enter-in-Enters.ensures.1 (λ is. cc) (λ is. cc) (looked_up c.loop-name.invariant.looked c.in_ok-walk_step.ensures)

pub returns-in_err-text-in-Follows : goal.returns-in_err-text-in-Follows
returns-in_err-text-in-Follows g c =
    then_fails c.from_residual-in_err-text-in-Follows.result c.from_residual-in_err-text-in-Follows.ensures.1 (looked_up c.loop-name.invariant.looked c.in_ok-walk_step.ensures) c.in_err-text-in-Follows.ensures

pub returns-in-EndsAt : goal.returns-in-EndsAt
returns-in-EndsAt g c = then_finds c.loop-name.invariant.looked c.in_ok-walk_step.ensures (search rules) (λ disk settled v stands.
    let so_far = c.loop-name.invariant in
    let trail = c.loop-name.trail in
    let rest = c.next.new.self in
    stepped v c.args.follow c.args.trail trail c.args.parts c.loop-name.parts rest c.in-Some.name.items c.as_slice.result.now c.in_ok-walk_step.field-0 (EndsAt c.in-EndsAt.number)
    (so_far.walked disk settled v stands) c.in-Some.ensures.some c.as_slice.ensures.value c.in-EndsAt.is
    (c.in_ok-walk_step.ensures.found disk settled v (so_far.looked.kept disk settled v stands) trail rest (sym c.here.ensures) (sym c.is_empty-is_last.ensures)))

pub returns-in-FindsNothing : goal.returns-in-FindsNothing
returns-in-FindsNothing g c = then_finds c.loop-name.invariant.looked c.in_ok-walk_step.ensures (search rules) (λ disk settled v stands.
    let so_far = c.loop-name.invariant in
    let trail = c.loop-name.trail in
    let rest = c.next.new.self in
    stepped v c.args.follow c.args.trail trail c.args.parts c.loop-name.parts rest c.in-Some.name.items c.as_slice.result.now c.in_ok-walk_step.field-0 FindsNothing
    (so_far.walked disk settled v stands) c.in-Some.ensures.some c.as_slice.ensures.value c.in-FindsNothing.is
    (c.in_ok-walk_step.ensures.found disk settled v (so_far.looked.kept disk settled v stands) trail rest (sym c.here.ensures) (sym c.is_empty-is_last.ensures)))

pub returns-in-Refused : goal.returns-in-Refused
returns-in-Refused g c = then_finds c.loop-name.invariant.looked c.in_ok-walk_step.ensures (search rules) (λ disk settled v stands.
    let so_far = c.loop-name.invariant in
    let trail = c.loop-name.trail in
    let rest = c.next.new.self in
    stepped v c.args.follow c.args.trail trail c.args.parts c.loop-name.parts rest c.in-Some.name.items c.as_slice.result.now c.in_ok-walk_step.field-0 (Refused c.in-Refused.errno)
    (so_far.walked disk settled v stands) c.in-Some.ensures.some c.as_slice.ensures.value c.in-Refused.is
    (c.in_ok-walk_step.ensures.found disk settled v (so_far.looked.kept disk settled v stands) trail rest (sym c.here.ensures) (sym c.is_empty-is_last.ensures)))

pub returns-in-Follows : goal.returns-in-Follows
returns-in-Follows g c =
    then_finds (looked_up c.loop-name.invariant.looked c.in_ok-walk_step.ensures) c.in_ok-text-in-Follows.ensures (search rules) (λ disk settled v stands.
    let so_far = c.loop-name.invariant in
    let trail = c.loop-name.trail in
    let rest = c.next.new.self in
    let now = so_far.looked.kept disk settled v stands in
    let step = c.in_ok-walk_step.ensures in
    let text = c.in_ok-text-in-Follows.ensures.found disk settled v (step.looks.kept disk settled v now) in
    ap (λ t. halts_at_link trail t rest) text
    ∙ stepped v c.args.follow c.args.trail trail c.args.parts c.loop-name.parts rest c.in-Some.name.items c.as_slice.result.now c.in_ok-walk_step.field-0 (Follows c.in-Follows.number)
    (so_far.walked disk settled v stands) c.in-Some.ensures.some c.as_slice.ensures.value c.in-Follows.is
    (step.found disk settled v now trail rest (sym c.here.ensures) (sym c.is_empty-is_last.ensures)))

pub returns : goal.returns
returns g c = at_end c.loop-name.invariant.looked (search rules) (λ disk settled v stands.
    let none : c.loop-name.parts ≡ [] = search rules in
    sym (c.loop-name.invariant.walked disk settled v stands ∙ ap (find_along v c.args.follow c.loop-name.trail) none))

pub loop-name-preserved : goal.loop-name-preserved
loop-name-preserved g c =
    let so_far = c.loop-name.invariant in
    let step = c.in_ok-walk_step.ensures in
    let inodes = c.args.inodes.now.geometry.inodes in
    record {
      looked = looked_up so_far.looked step;
      numbers = elim c.match-branch-2.branch [
        | in-Stays w ↦ subst (AreInodeNumbers inodes) (sym w.trail-is) so_far.numbers
        | in-Rises w ↦ subst (AreInodeNumbers inodes) (sym (w.trail-is ∙ w.rise.ensures)) (All-take (IsInodeNumber inodes) _ c.loop-name.trail so_far.numbers)
        | in-Enters+in_ok-enter-in-Enters w ↦
            let one = subst (λ s. IsInodeNumber s.inodes w.in-Enters.number) so_far.looked.geometry (subst (IsStepWithin c.loop-name.inodes.geometry.inodes) w.in-Enters.is step.within) in
            subst (AreInodeNumbers inodes) (sym (w.trail-is ∙ w.in_ok-enter-in-Enters.ensures.entered)) (All-push (IsInodeNumber inodes) c.loop-name.trail w.in-Enters.number so_far.numbers one)
      ];
      walked = λ disk settled v stands.
          let trail = c.loop-name.trail in
          let rest = c.next.new.self in
          let now = so_far.looked.kept disk settled v stands in
          let took = step.found disk settled v now trail rest (sym c.here.ensures) (sym c.is_empty-is_last.ensures) in
          let by = stepped v c.args.follow c.args.trail trail c.args.parts c.loop-name.parts rest c.in-Some.name.items c.as_slice.result.now c.in_ok-walk_step.field-0 in
          let known = so_far.walked disk settled v stands in
          elim c.match-branch-2.branch [
            | in-Stays w ↦ sym (by Stays known c.in-Some.ensures.some c.as_slice.ensures.value w.in-Stays.is took) ∙ ap (λ t. find_along v c.args.follow t rest) (sym w.trail-is)
            | in-Rises w ↦ sym (by Rises known c.in-Some.ensures.some c.as_slice.ensures.value w.in-Rises.is took) ∙ ap (λ t. find_along v c.args.follow t rest) (sym (w.trail-is ∙ w.rise.ensures))
            | in-Enters+in_ok-enter-in-Enters w ↦ sym (by (Enters w.in-Enters.number) known c.in-Some.ensures.some c.as_slice.ensures.value w.in-Enters.is took) ∙ ap (λ t. find_along v c.args.follow t rest) (sym (w.trail-is ∙ w.in_ok-enter-in-Enters.ensures.entered))
          ];
    }
