use Rattle.mount.proofs.CommandLemmas.{shown_served}
use Rattle.mount.proofs.waiting.Waiting.into_fs.Goals as goal

pub returns-clause-serves : goal.returns-clause-serves
returns-clause-serves g c = λ s kept shows none. shown_served {G = g.S.Station} c.args.self none c.kept_states_open.ensures.ends s kept shows
