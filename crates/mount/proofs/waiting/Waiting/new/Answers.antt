use Rattle.mount.proofs.CommandLemmas.{runs_begin}
use Rattle.mount.proofs.waiting.Waiting.new.Goals as goal

pub returns-clause-begins : goal.returns-clause-begins
returns-clause-begins g c = λ s serves goes.
    runs_begin {G = g.S.Station} _ c.new.ensures c.kept_states_open.ensures.begins (λ t here. c.served_states_open.ensures t.tree.descriptors t here) s serves goes
