use Rattle.std.proofs.Common.{inl, inr, arith}
use Rattle.std.proofs.lemmas.Bool.{cases_lt}
use Rattle.layout.proofs.indirect.are_zero_from.Goals as goal

pub loop-at-preserved : goal.loop-at-preserved
loop-at-preserved c = record {
  from = omega arith;
  within = omega arith;
  none = λ k low high. elim (cases_lt k c.loop-at.at) [
    | inl lt ↦ c.loop-at.invariant.none k low lt
    | inr ge ↦ c.others_at.ensures (omega arith) k ge high
  ];
}
