use Rattle.std.proofs.Common.{inl, inr, ◌-◌, ◌*◌, arith, rules}
use Rattle.std.proofs.lemmas.Bool.{cases_lt}
use Rattle.std.proofs.lemmas.Grind.{common_steps}
use Rattle.blocktree.proofs.PlaceMapLaws.{found_in, gap_in, gap_past, low_in}
use Rattle.blocktree.proofs.place_map.PlaceMap.next.Goals as goal

pub loop-j-preserved : goal.loop-j-preserved
loop-j-preserved c =
    let so_far = c.loop-j.invariant in
    let entry = c.in-Some.ensures in
    record {
      low = omega (arith, so_far.low, low_in c.args.self.now c.fan_out-fan.result c.loop-j.from c.in-Some.j c.fan_out-fan.ensures.value entry.found.0);
      before = λ i low high. elim (cases_lt i c.loop-j.from) [
        | inl lt ↦ so_far.before i low lt
        | inr ge ↦ gap_in c.args.self.now c.fan_out-fan.result c.loop-j.from c.in-Some.j c.fan_out-fan.result c.in-Some.group.now c.fan_out-fan.ensures.value entry.found.2 entry.before (omega arith)
            (λ k least most. c.in_default-next.ensures.none k (omega (arith, least, c.saturating_sub.ensures)) (omega (arith, most, c.min.ensures, c.if-end-fan.false))) i ge high
      ];
    }

pub returns-in-Some-next-clause-found : goal.returns-in-Some-next-clause-found
returns-in-Some-next-clause-found c =
    let entry = c.in-Some.ensures in
    let found = c.in-Some-next.ensures.found in
    let there = found_in c.args.self.now c.fan_out-fan.result c.loop-j.from c.in-Some.j c.in-Some-next.r c.in-Some.group.now _ c.fan_out-fan.ensures.value entry.found.2 entry.before (omega (arith, found.1, c.min.ensures)) found.2 in
    (omega (arith, c.loop-j.invariant.low, found.0, c.saturating_sub.ensures), omega (arith, found.1, c.min.ensures), first_of (search (rules, there), grind (arith, common_steps, there)))

pub returns-in-Some-next-clause-before : goal.returns-in-Some-next-clause-before
returns-in-Some-next-clause-before c = λ i low high.
    let entry = c.in-Some.ensures in
    let found = c.in-Some-next.ensures.found in
    elim (cases_lt i c.loop-j.from) [
      | inl lt ↦ c.loop-j.invariant.before i low lt
      | inr ge ↦ gap_in c.args.self.now c.fan_out-fan.result c.loop-j.from c.in-Some.j c.in-Some-next.r c.in-Some.group.now c.fan_out-fan.ensures.value entry.found.2 entry.before (omega (arith, found.1, c.min.ensures))
          (λ k least most. c.in-Some-next.ensures.before k (omega (arith, least, c.saturating_sub.ensures)) most) i ge high
    ]

pub returns-then-end-fan-clause-none : goal.returns-then-end-fan-clause-none
returns-then-end-fan-clause-none c = λ i low high.
    let entry = c.in-Some.ensures in
    elim (cases_lt i c.loop-j.from) [
      | inl lt ↦ c.loop-j.invariant.before i low lt
      | inr ge ↦ gap_in c.args.self.now c.fan_out-fan.result c.loop-j.from c.in-Some.j (c.args.to - c.fan_out-fan.result * c.in-Some.j) c.in-Some.group.now c.fan_out-fan.ensures.value entry.found.2 entry.before (omega (arith, c.if-end-fan.true))
          (λ k least most. c.in_default-next.ensures.none k (omega (arith, least, c.saturating_sub.ensures)) (omega (arith, most, c.min.ensures, c.if-end-fan.true))) i ge (omega (arith, high))
    ]

pub returns-clause-none : goal.returns-clause-none
returns-clause-none c = λ i low high. elim (cases_lt i c.loop-j.from) [
  | inl lt ↦ c.loop-j.invariant.before i low lt
  | inr ge ↦ gap_past c.args.self.now c.fan_out-fan.result c.loop-j.from c.args.to c.fan_out-fan.ensures.value (λ g least most. c.in_default.ensures.none g least (omega (arith, most, c.div_ceil.ensures))) i ge high
]
