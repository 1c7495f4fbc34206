use Rattle.std.proofs.Common.{◌≡◌, ◌∙◌, inl, inr, ◌+◌, ◌-◌, ◌*◌, ◌<◌, refl, ap, sym, arith}
use Rattle.std.proofs.lemmas.Bool.{cases_lt, false≢true}
use Rattle.layout.specs.Trees.{fan_out}
use Rattle.layout.proofs.PointerLaws.{hole_block}
use Rattle.blocktree.specs.PlaceMaps.{place_at}
use Rattle.placement.proofs.FanLemmas.{group_index}
use Rattle.placement.proofs.settled.is_empty.Goals as goal
use Rattle.placement.proofs.settled.is_empty.Goals.{After-fan_out-fan}

-- the index of the group's first node
start_is : (c : After-fan_out-fan) → c.fan_out-fan.result * c.args.j ≡ fan_out c.args.layout * c.args.j
start_is c = ap (λ k. k * c.args.j) c.fan_out-fan.ensures.value

pub overflow_mul-start : goal.overflow_mul-start
overflow_mul-start c = omega (arith, start_is (goal.at.overflow_mul-start c).After-fan_out-fan, group_index c.args.layout c.args.j c.requires.few)

pub returns-in-Some : goal.returns-in-Some
returns-in-Some c = (
  λ yes. absurd (false≢true yes),
  λ holes.
      let found = c.in-Some.ensures.found in
      let n = c.in-Some.field-0 in
      let fan = fan_out c.args.layout in
      let from = start_is (goal.at.returns-in-Some c).After-fan_out-fan in
      let at : fan * c.args.j + (n.index - fan * c.args.j) ≡ n.index = omega (arith, found.0, from) in
      let small : n.index - fan * c.args.j < fan = omega (arith, found.1, c.saturating_add.ensures, from, c.fan_out-fan.ensures.value, c.fan_out-fan.ensures.least) in
      hole_block (sym (holes (n.index - fan * c.args.j) small) ∙ ap (place_at c.args.nodes.now) at ∙ found.2),
)

pub returns-in-None : goal.returns-in-None
returns-in-None c = (
  λ yes i small. elim (cases_lt (fan_out c.args.layout * c.args.j + i) 4294967295) [
    | inl low ↦
        let from = start_is (goal.at.returns-in-None c).After-fan_out-fan in
        c.in-None.ensures.none (fan_out c.args.layout * c.args.j + i) (omega (arith, from)) (omega (arith, small, low, from, c.fan_out-fan.ensures.value, c.saturating_add.ensures))
    | inr high ↦ c.requires.end (fan_out c.args.layout * c.args.j + i) high
  ],
  λ holes. refl,
)
