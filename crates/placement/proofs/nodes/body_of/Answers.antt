use Rattle.std.proofs.Common.{inl, inr, sym, ◌∙◌, arith}
use Rattle.std.proofs.lemmas.Bool.{cases_lt}
use Rattle.placement.proofs.nodes.body_of.Goals as goal

pub returns-clause-each : goal.returns-clause-each
returns-clause-each c = λ i. elim (cases_lt i c.loop-i.i) [
  | inl done ↦ c.loop-i.invariant.below i done
  | inr more ↦ c.loop-i.invariant.above i more ∙ sym (c.requires i (omega (arith, more)))
]
