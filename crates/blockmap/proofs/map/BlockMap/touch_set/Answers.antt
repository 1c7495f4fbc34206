use Rattle.std.proofs.Common.{◌<◌, ◌+◌, ◌*◌, length, inl, inr, refl, rules, false, sym, subst, ◌∙◌, arith}
use Rattle.std.proofs.lemmas.Bool.{cases_eq}
use Rattle.std.specs.Prelude.{IsTrue}
use Rattle.blockmap.specs.Maps.{HasSetAt, IsTouched}
use Rattle.blockmap.proofs.MapLemmas.{same_sets, set_of_part, part_of_set}
use Rattle.blockmap.proofs.map.BlockMap.touch_set.Goals as goal
use Rattle.blockmap.proofs.map.BlockMap.touch_set.Goals.{then-has_set+in_ok-touch, else-has_set}

-- false isn't true
untrue : IsTrue false → ⊥
untrue is = search (rules, is)

pub returns-in_err-touch-clause-few : goal.returns-in_err-touch-clause-few
returns-in_err-touch-clause-few c = λ j touched. elim (cases_eq j c.loop-j.j) [
  | inl is ↦
      let within : c.loop-j.j < length c.loop-j.self.parts.items = omega (arith, c.loop-j-test.true, c.len-j-end.ensures, c.loop-j.invariant.settled.count) in
      let here = set_of_part c.loop-j.self.parts.items c.loop-j.j c.args.set c.index.result.now within c.index.ensures (c.if-has_set.ensures.0 refl) in
      let so = same_sets c.args.self.now.parts.items c.loop-j.self.parts.items c.loop-j.j c.args.set (λ i small. c.loop-j.invariant.entries (1024 * c.loop-j.j + i)) here in
      inr (subst (HasSetAt c.args.set c.args.self.now.parts.items) (sym is) so)
  | inr other ↦ c.loop-j.invariant.few j (c.touch.ensures.same j other touched)
]

pub loop-j-preserved : goal.loop-j-preserved
loop-j-preserved c =
    let first = c.args.self.now.parts.items in
    let old = c.loop-j.self.parts.items in
    let so_far = c.loop-j.invariant in
    let within : c.loop-j.j < length old = omega (arith, c.loop-j-test.true, c.len-j-end.ensures, so_far.settled.count) in
    elim c.if-has_set.branch [
      | then-has_set+in_ok-touch w ↦
          let here = same_sets first old c.loop-j.j c.args.set (λ i small. so_far.entries (1024 * c.loop-j.j + i)) (set_of_part old c.loop-j.j c.args.set c.index.result.now within c.index.ensures (w.if-has_set.ensures.0 refl)) in
          rw w.self-is record {
            count = w.touch.ensures.room.count ∙ so_far.count;
            next = w.touch.ensures.room.next ∙ so_far.next;
            settled = record {
              count = w.touch.ensures.room.settled.count ∙ so_far.settled.count;
              settled = λ b. w.touch.ensures.room.settled.settled b ∙ so_far.settled.settled b;
              touched = λ j was. w.touch.ensures.room.settled.touched j (so_far.settled.touched j was);
            };
            entries = λ b. w.touch.ensures.room.entries b ∙ so_far.entries b;
            touched = λ j below has. elim (cases_eq j c.loop-j.j) [
              | inl is ↦ subst (IsTouched w.touch.new.self.parts.items) (sym is) w.in_ok-touch.ensures.touched
              | inr other ↦ w.touch.ensures.room.settled.touched j (so_far.touched j (omega arith) has)
            ];
            few = λ j touched. elim (cases_eq j c.loop-j.j) [
              | inl is ↦ inr (subst (HasSetAt c.args.set first) (sym is) here)
              | inr other ↦ so_far.few j (w.touch.ensures.same j other touched)
            ];
          }
      | else-has_set w ↦
          rw w.self-is record {
            count = so_far.count;
            next = so_far.next;
            settled = so_far.settled;
            entries = so_far.entries;
            touched = λ j below has. elim (cases_eq j c.loop-j.j) [
              | inl is ↦ absurd (untrue (w.if-has_set.ensures.1 (part_of_set old c.loop-j.j c.args.set c.index.result.now within c.index.ensures
                  (same_sets old first c.loop-j.j c.args.set (λ i small. sym (so_far.entries (1024 * c.loop-j.j + i))) (subst (HasSetAt c.args.set first) is has)))))
              | inr other ↦ so_far.touched j (omega arith) has
            ];
            few = so_far.few;
          }
    ]
