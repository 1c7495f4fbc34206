use Rattle.system.proofs.SystemLaws as laws
use Rattle.system.proofs.laws.served_states_open.Goals as goal

pub returns : goal.returns
returns g c = λ table s serves.
    let f = c.args.system.now in
    laws.all_open serves f.sectors f.half c.cuts_open.ensures
