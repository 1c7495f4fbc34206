use Rattle.std.proofs.Common.{◌≡◌, ℕ, List, inl, inr, length, ap, subst, sym, arith}
use Rattle.std.proofs.lemmas.Bool.{cases_eq, cases_lt}
use Rattle.placement.specs.Nodes.{AreBetween, IsAmong}
use Rattle.placement.proofs.AmongLaws.{among_last, among_more, between_more}
use Rattle.placement.proofs.nodes.changed_before.Goals as goal

pub loop-i-init : goal.loop-i-init
loop-i-init c =
    let none : length c.new-changed.result.items ≡ 0 = ap (λ (xs : List ℕ). length xs) c.new-changed.ensures.items in
    record { low = omega arith; within = λ k lt. absurd (omega (arith, lt, none)); all = λ i low high. absurd (omega (arith, low, high)) }

pub loop-i-preserved : goal.loop-i-preserved
loop-i-preserved c =
    let so_far = c.loop-i.invariant in
    let i = c.in-Some.i in
    let old = c.loop-i.changed.items in
    let found = c.in-Some.ensures.found in
    let items = c.in_ok-push.ensures.items in
    record {
      low = omega arith;
      within = subst (AreBetween 1 c.args.end) (sym items) (between_more 1 c.args.end i old so_far.within (omega (arith, so_far.low, found.0)) found.1);
      all = λ j low high none. elim (cases_lt j c.loop-i.next) [
        | inl before ↦ so_far.all j low before (λ at. none (subst (λ is. IsAmong is j) (sym items) (among_more i j old at)))
        | inr more ↦ elim (cases_eq j i) [
          | inl e ↦ absurd (none (subst (λ is. IsAmong is j) (sym items) (subst (IsAmong _) (sym e) (among_last i old))))
          | inr other ↦ c.in-Some.ensures.before j more (omega (arith, high, other))
        ]
      ];
    }

pub returns : goal.returns
returns c = record {
  within = c.loop-i.invariant.within;
  all = λ i low high none. elim (cases_lt i c.loop-i.next) [
    | inl before ↦ c.loop-i.invariant.all i low before none
    | inr more ↦ c.in_default.ensures.none i more high
  ];
}
