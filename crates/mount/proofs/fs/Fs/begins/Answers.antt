use Rattle.mount.specs.Systems.{mounted}
use Rattle.mount.proofs.ApplyLemmas.{served_now}
use Rattle.mount.proofs.RunLemmas.{run_none}
use Rattle.mount.proofs.fs.Fs.begins.Goals as goal

pub returns : goal.returns
returns g c s serves = record {
  last = s;
  serves = serves;
  ran = run_none (mounted {G = g.S.Station} c.args.self.now s) (served_now _ s serves (λ is. c.served_states_open.ensures s.tree.descriptors s (serves.kept is)));
}
