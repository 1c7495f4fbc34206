use Rattle.std.proofs.Common.{◌≡◌, ℕ, ◌*◌, ◌+◌, ◌<◌, length, slice_index, slice_index_or, slice_set, ap, sym, ◌∙◌, ◌/◌, ◌%◌, arith}
use Rattle.blockmap.specs.Parts.{Part}
use Rattle.blockmap.specs.Maps.{no_part, entry_at}
use Rattle.std.proofs.lemmas.List.{get_or_default, length-set}
use Rattle.blockmap.proofs.MapLemmas.{same_sets, same_field, set_of_part, entry_elsewhere, plane_part}
use Rattle.blockmap.proofs.map.BlockMap.clear_plane.Goals as goal

pub clear_set-requires-clause-room : goal.clear_set-requires-clause-room
clear_set-requires-clause-room c = λ has.
    let first = c.args.self.now.parts.items in
    let old = c.loop-j.self.parts.items in
    let j = c.loop-j.j in
    let within : j < length old = omega (arith, c.loop-j-test.true, c.len-j-end.ensures, c.loop-j.invariant.settled.count, c.touch_set.ensures.room.settled.count) in
    let here = same_sets first old j c.args.set (λ i small. c.loop-j.invariant.rest (1024 * j + i) (omega arith)) (set_of_part old j c.args.set c.index_mut.result.now within c.index_mut.ensures.value has) in
    sym (ap (λ (q : Part). q.is_touched) (get_or_default old j no_part c.index_mut.result.now within ∙ sym c.index_mut.ensures.value)) ∙ c.loop-j.invariant.touched j within here

pub loop-j-preserved : goal.loop-j-preserved
loop-j-preserved c =
    let so_far = c.loop-j.invariant in
    let old = c.loop-j.self.parts.items in
    let j = c.loop-j.j in
    let within : j < length old = omega (arith, c.loop-j-test.true, c.len-j-end.ensures, so_far.settled.count, c.touch_set.ensures.room.settled.count) in
    let p = c.index_mut.result.now in
    let new = c.clear_set.new.self in
    let same : (i : ℕ) → (slice_index_or (slice_set old j new) i no_part).is_touched ≡ (slice_index_or old i no_part).is_touched = λ i.
    same_field (λ (q : Part). q.is_touched) old j i p new within c.index_mut.ensures.value (ap (λ (q : Part). q.is_touched) c.clear_set.ensures.part) in
    record {
      count = so_far.count;
      next = so_far.next;
      settled = record {
        count = length-set old j new ∙ so_far.settled.count;
        settled = λ b. same_field (λ (q : Part). slice_index q.settled (b % 1024)) old j (b / 1024) p new within c.index_mut.ensures.value (ap (λ (q : Part). slice_index q.settled (b % 1024)) c.clear_set.ensures.part) ∙ so_far.settled.settled b;
        touched = λ i was. same i ∙ so_far.settled.touched i was;
      };
      touched = λ i below has. same i ∙ so_far.touched i (omega (arith, below)) has;
      few = λ i touched. so_far.few i (sym (same i) ∙ touched);
      done = plane_part (entry_at c.args.self.now.parts.items) old j c.args.set p new within c.index_mut.ensures.value c.clear_set.ensures.entries so_far.rest so_far.done;
      rest = λ b above. entry_elsewhere old j b new (λ is. omega (arith, above, is)) ∙ so_far.rest b (omega (arith, above));
    }
