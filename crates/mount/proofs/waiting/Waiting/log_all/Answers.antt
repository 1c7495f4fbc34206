use Rattle.mount.proofs.CommitLemmas.{all_logged, none_logged}
use Rattle.mount.proofs.waiting.Waiting.log_all.Goals as goal

pub returns-in-Ok : goal.returns-in-Ok
returns-in-Ok g c = all_logged {G = g.S.Station} c.args.self.now _ _ c.in-Ok.ensures

pub returns-in-Err : goal.returns-in-Err
returns-in-Err g c = none_logged {G = g.S.Station} c.args.self.now _ _ c.in-Err.errno c.in-Err.ensures c.new.ensures
