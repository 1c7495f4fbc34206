use Rattle.std.proofs.Common.{◌≡◌, inl, inr, ℕ, ◌+◌, ◌<◌, ◌≤◌, sym, subst, ◌∙◌, arith}
use Rattle.std.proofs.lemmas.Bool.{cases_lt}
use Rattle.std.proofs.lemmas.List.Elements.{All-from_get_or}
use Rattle.layout.specs.Pointer.{PointsBelow}
use Rattle.layout.specs.declared.geometry.TheConstants.{MOST_BLOCKS}
use Rattle.layout.specs.declared.pointer.Pointer.{Pointer}
use Rattle.layout.specs.declared.pointer.Pointer.TheVariants.{Hole}
use Rattle.images.proofs.SumLaws.{sums_rise}
use Rattle.blocktree.specs.PlaceMaps.{place_at}
use Rattle.blocktree.proofs.PlaceMapLaws.{changed_all}
use Rattle.conspoint.specs.Groups.{pointer_at, group, IsGroup, Follows, ComesFrom}
use Rattle.conspoint.proofs.StepLemmas.{group_more, over_of, places_err, places_none, places_ok, places_out, places_rise}
use Rattle.conspoint.proofs.GroupLemmas.{follows_none, group_below, group_read, groups_more, placed_more, placed_none, same_follows, same_group, same_none}
use Rattle.conspoint.proofs.group.place_over.Goals as goal

pub place_group-requires : goal.place_group-requires
place_group-requires c = record {
  old = c.group-before.ensures.count;
  new = c.group-after.ensures.count;
  within = All-from_get_or (PointsBelow MOST_BLOCKS) c.group-after.result Hole
      (λ i lt. subst (PointsBelow MOST_BLOCKS) (sym (group_read c.args.new.now c.in-Some.j c.group-after.result c.group-after.ensures.nodes c.group-after.ensures.behind i))
      (group_below MOST_BLOCKS c.args.new.now c.in-Some.j i c.requires.within));
  settled = subst (PointsBelow MOST_BLOCKS) (sym c.at.ensures) (c.requires.settled c.in-Some.j);
}

pub loop-j-init : goal.loop-j-init
loop-j-init c = record {
  low = omega arith;
  step = λ w counts. places_none c.args.draft.now;
  layout = c.new-over.ensures.layout;
  behind = λ i le. c.new-over.ensures.holes i;
  groups = λ e has j lt. absurd (omega (arith, lt));
  follows = λ j lt. absurd (omega (arith, lt));
  placed = placed_none c.args.draft.now c.args.settled.now c.new-over.result c.new-over.ensures.holes;
}

pub loop-j-preserved : goal.loop-j-preserved
loop-j-preserved c =
    let so_far = c.loop-j.invariant in
    let j = c.in-Some.j in
    let found = c.in-Some.ensures.found in
    let settled = c.args.settled.now in
    let old = c.args.old.now in
    let new = c.args.new.now in
    let p = c.in_ok-pointer.pointer in
    let placed = c.in_ok-pointer.ensures in
    let put = c.in_ok-set.ensures in
    let before = c.group-before in
    let after = c.group-after in
    let olds = λ (i : ℕ) (lt : i < 1024). group_read old j before.result before.ensures.nodes before.ensures.behind i in
    let news = λ (i : ℕ) (lt : i < 1024). group_read new j after.result after.ensures.nodes after.ensures.behind i in
    record {
      low = omega (arith, found.1);
      step = λ w counts. places_ok (group_more w j (places_rise (so_far.step w counts) (sums_rise w c.loop-j.from j found.0)) placed.step
          (λ none. placed.none (same_none (group old j) (pointer_at before.result) (group new j) (pointer_at after.result) olds news (counts j found.1 none))));
      layout = put.layout ∙ so_far.layout;
      behind = changed_all (λ k q. j + 1 ≤ k → q ≡ Hole) c.loop-j.over c.set.new.self j p put.there put.others (λ le. absurd (omega (arith, le))) (λ k n le. so_far.behind k (omega (arith, le, found.0)));
      groups = λ e has. groups_more (λ k q. IsGroup e (place_at settled k) (group old k) (group new k) q) c.loop-j.over c.set.new.self c.loop-j.from j p put.there put.others
          (so_far.groups e (placed.step.grows.has e has))
          (λ k le lt. IsGroup.none (so_far.behind k le) (λ i small. c.in-Some.ensures.before k i le lt small))
          (same_group e (place_at settled j) p (group old j) (pointer_at before.result) (group new j) (pointer_at after.result) olds news
          (subst (λ (s : Pointer). IsGroup e s (pointer_at before.result) (pointer_at after.result) p) c.at.ensures (placed.group e has)));
      follows = groups_more (λ k q. Follows (place_at settled k) (group old k) (group new k) q) c.loop-j.over c.set.new.self c.loop-j.from j p put.there put.others so_far.follows
          (λ k le lt. follows_none (place_at settled k) (place_at c.loop-j.over k) (group old k) (group new k) (so_far.behind k le) (λ i small. c.in-Some.ensures.before k i le lt small))
          (same_follows (place_at settled j) p (group old j) (pointer_at before.result) (group new j) (pointer_at after.result) olds news
          (subst (λ (s : Pointer). Follows s (pointer_at before.result) (pointer_at after.result) p) c.at.ensures placed.follows));
      placed = placed_more c.args.draft.now c.loop-j.draft c.place_group.new.draft settled c.loop-j.over c.set.new.self j p
          (so_far.step (λ i. 1) (λ i lt none. absurd (omega (arith, none)))).grows placed.step.grows so_far.placed put.there put.others
          (subst (λ (s : Pointer). ComesFrom c.loop-j.draft c.place_group.new.draft s p) c.at.ensures placed.from) placed.within;
    }

pub returns-in_err-pointer-clause-step : goal.returns-in_err-pointer-clause-step
returns-in_err-pointer-clause-step c = over_of (λ w counts.
    let so_far = c.loop-j.invariant in
    let j = c.in-Some.j in
    let found = c.in-Some.ensures.found in
    let olds = λ (i : ℕ) (lt : i < 1024). group_read c.args.old.now j c.group-before.result c.group-before.ensures.nodes c.group-before.ensures.behind i in
    let news = λ (i : ℕ) (lt : i < 1024). group_read c.args.new.now j c.group-after.result c.group-after.ensures.nodes c.group-after.ensures.behind i in
    places_rise (places_err c.from_residual.result c.from_residual.ensures.1
    (group_more w j (places_rise (so_far.step w counts) (sums_rise w c.loop-j.from j found.0)) c.in_err-pointer.ensures.step
    (λ none. c.in_err-pointer.ensures.none (same_none (group c.args.old.now j) (pointer_at c.group-before.result) (group c.args.new.now j) (pointer_at c.group-after.result) olds news (counts j found.1 none)))))
    (sums_rise w (j + 1) c.args.groups (omega (arith, found.1))))

pub returns-in_err-set-clause-step : goal.returns-in_err-set-clause-step
returns-in_err-set-clause-step c = over_of (λ w counts.
    let so_far = c.loop-j.invariant in
    let j = c.in-Some.j in
    let found = c.in-Some.ensures.found in
    let olds = λ (i : ℕ) (lt : i < 1024). group_read c.args.old.now j c.group-before.result c.group-before.ensures.nodes c.group-before.ensures.behind i in
    let news = λ (i : ℕ) (lt : i < 1024). group_read c.args.new.now j c.group-after.result c.group-after.ensures.nodes c.group-after.ensures.behind i in
    places_out c.from_residual-in_err-set.result c.from_residual-in_err-set.ensures.1
    (places_rise (group_more w j (places_rise (so_far.step w counts) (sums_rise w c.loop-j.from j found.0)) c.in_ok-pointer.ensures.step
    (λ none. c.in_ok-pointer.ensures.none (same_none (group c.args.old.now j) (pointer_at c.group-before.result) (group c.args.new.now j) (pointer_at c.group-after.result) olds news (counts j found.1 none))))
    (sums_rise w (j + 1) c.args.groups (omega (arith, found.1)))))

pub returns-clause-step : goal.returns-clause-step
returns-clause-step c = over_of (λ w counts. places_rise (places_ok (c.loop-j.invariant.step w counts)) (sums_rise w c.loop-j.from c.args.groups c.loop-j.invariant.low))

pub returns-clause-end : goal.returns-clause-end
returns-clause-end c = λ i le. c.loop-j.invariant.behind i (omega (arith, le, c.loop-j.invariant.low))

pub returns-clause-groups : goal.returns-clause-groups
returns-clause-groups c e has j lt = elim (cases_lt j c.loop-j.from) [
  | inl done ↦ c.loop-j.invariant.groups e has j done
  | inr more ↦ IsGroup.none (c.loop-j.invariant.behind j more) (λ i small. c.in_default.ensures.none j i more lt small)
]

pub returns-clause-follows : goal.returns-clause-follows
returns-clause-follows c j lt = elim (cases_lt j c.loop-j.from) [
  | inl done ↦ c.loop-j.invariant.follows j done
  | inr more ↦
      follows_none (place_at c.args.settled.now j) (place_at c.loop-j.over j) (group c.args.old.now j) (group c.args.new.now j) (c.loop-j.invariant.behind j more) (λ i small. c.in_default.ensures.none j i more lt small)
]
