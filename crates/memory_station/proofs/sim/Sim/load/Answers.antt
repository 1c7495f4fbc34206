use Rattle.std.proofs.Common.{inl, inr}
use Rattle.std.proofs.lemmas.List.Elements.{All-nil}
use Rattle.memory_station.proofs.sim.Sim.load.Goals as goal

pub returns-clause-bad_size : goal.returns-clause-bad_size
returns-clause-bad_size c = (
  λ err. elim (c.load_bad.ensures.bad_size.0 err) [ inl bad ↦ bad | inr past ↦ absurd (past (All-nil _)) ],
  λ bad. c.load_bad.ensures.bad_size.1 (inl bad),
)
