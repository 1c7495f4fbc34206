use Rattle.std.proofs.Common.{sym, subst}
use Rattle.station.specs.Moments.{MayLeave}
use Rattle.mount.specs.Systems.{LeavesState}
use Rattle.mount.proofs.ApplyLemmas.{served_leaves}
use Rattle.mount.proofs.fs.Fs.into_station.Goals as goal

pub returns-clause-leaves : goal.returns-clause-leaves
returns-clause-leaves g c s serves =
    let leaves = served_leaves c.args.self s serves (λ is. c.served_states_open.ensures s.tree.descriptors s (serves.kept is)) in
    subst (λ (station : g.row.S.Denot). LeavesState (g.S.Station.meaning station) s) (sym c.into_station.ensures) leaves

pub returns-clause-seen : goal.returns-clause-seen
returns-clause-seen g c s serves =
    subst (λ (station : g.row.S.Denot). MayLeave (g.S.Station.meaning station) (g.S.Station.meaning station).seen) (sym c.into_station.ensures)
    (g.met.S.Station.seen_may_be_left c.args.self.system.blocks.buffers.station serves.honest)
