use Rattle.std.proofs.Common.{◌≡◌, ◌∙◌, ℕ, suc, ◌+◌, ◌-◌, ◌*◌, ap, sym, arith}
use Rattle.layout.specs.Trees.{fan_out}
use Rattle.placement.specs.Nodes.{height_of, node}
use Rattle.placement.proofs.settled.is_above.Goals as goal
use Rattle.placement.proofs.settled.is_above.Goals.{After-is_full}

-- the highest nodes are those of the last height
top_is : (c : After-is_full) (m : ℕ) → height_of c.args.nodes.now ≡ suc m → (i : ℕ) → node c.args.nodes.now (c.len-count.result - 1) i ≡ node c.args.nodes.now m i
top_is c m is i =
    let at : c.len-count.result - 1 ≡ m = omega (arith, is, c.len-count.ensures) in
    ap (λ (k : ℕ). node c.args.nodes.now k i) at

pub returns-clause-full : goal.returns-clause-full
returns-clause-full c = λ yes m j is holes.
    let fan = fan_out c.args.nodes.now.layout in
    c.is_full.ensures.full yes j (λ i small. c.height.ensures.nodes (fan * j + i) ∙ top_is (goal.at.returns-clause-full c).After-is_full m is (fan * j + i) ∙ holes i small)

pub returns-clause-empty : goal.returns-clause-empty
returns-clause-empty c = λ no.
    let (j, b, is, holes) = c.is_full.ensures.empty no in (
      c.len-count.result - 1,
      j,
      b,
      omega (arith, c.len-count.ensures, c.if-count-eq0.false),
      is,
      λ i small. sym (c.height.ensures.nodes (fan_out c.args.nodes.now.layout * j + i)) ∙ holes i small,
    )
