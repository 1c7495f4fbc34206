use Rattle.std.proofs.Common.{◌≡◌, ℕ, ◌-◌, ◌*◌, ◌<◌, ◌≤◌, ◌∙◌, ap, subst, arith}
use Rattle.std.specs.Prelude.{None, slice_index_or}
use Rattle.std.specs.BTreeMap.{get}
use Rattle.std.specs.Int.{div_ceil}
use Rattle.std.specs.Ordering.{nat_cmp}
use Rattle.layout.specs.declared.pointer.Pointer.TheVariants.{Hole}
use Rattle.blocktree.proofs.PlaceMapLaws.{first_all, first_more}
use Rattle.blocktree.proofs.place_map.PlaceMap.first.Goals as goal

pub loop-j-init : goal.loop-j-init
loop-j-init c = record {
  so_far = record {
    layout = c.new-first.ensures.layout;
    below = λ i lt. absurd (omega (arith, lt));
    behind = λ i le. c.new-first.ensures.holes i;
  };
}

pub loop-j-preserved : goal.loop-j-preserved
loop-j-preserved c =
    let entry = c.in-Some.ensures in
    let value = c.fan_out-fan.ensures.value in
    let part = c.in_ok-part.part in
    let group = c.in-Some.group.now in
    record {
      so_far = first_more c.args.self.now c.loop-j.first c.put.new.self c.args.count c.loop-j.from c.in-Some.j group part entry.found.2 entry.found.0 entry.before
          c.in_ok-put.ensures.layout c.in_ok-put.ensures.updates
          (subst (λ (f : ℕ). (r : ℕ) → r < c.args.count - f * c.in-Some.j → r < 1024 → slice_index_or part r Hole ≡ slice_index_or group r Hole) value c.in_ok-part.ensures.below)
          (subst (λ (f : ℕ). (r : ℕ) → c.args.count - f * c.in-Some.j ≤ r → slice_index_or part r Hole ≡ Hole) value c.in_ok-part.ensures.behind)
          c.loop-j.invariant.so_far;
    }

pub returns-clause-places : goal.returns-clause-places
returns-clause-places c = λ i.
    let wide = c.div_ceil.ensures ∙ ap (λ (f : ℕ). div_ceil c.args.count f) c.fan_out-fan.ensures.value in
    first_all c.args.self.now c.loop-j.first c.args.count c.loop-j.from c.loop-j.invariant.so_far
    (subst (λ (n : ℕ). (g : ℕ) → c.loop-j.from ≤ g → g < n → get nat_cmp c.args.self.now.groups g ≡ None) wide c.in_default.ensures.none) i
