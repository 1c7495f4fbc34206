use Rattle.std.proofs.Common.{subst, sym, ◌∙◌}
use Rattle.buffers.specs.Disks.{ShowsDisk, disk_with_sector}
use Rattle.station.specs.Images.{Images, SomeSectorsWritten, SectorsWritten}
use Rattle.station.specs.Moments.{Goes, SeenGoes, LeavesOnly, Shows}
use Rattle.station.proofs.Moments.{same_twice, goes_on_unchanged}
use Rattle.conspoint.specs.Plans.{Planned, IsPlanned}
use Rattle.conspoint.specs.Cuts.{HoldsWritten}
use Rattle.conspoint.proofs.Finishing.{OldOrNew, at_root, root_settled, all_written}
use Rattle.conspoint.proofs.plan.Plan.finish.Goals as goal
use Rattle.conspoint.proofs.plan.Plan.finish.Goals.{After-store_sector}
use Rattle.conspoint.proofs.plan.Plan.finish.Given.{Over}

-- at any moment of the root's write
root_written : (g : Over) (c : After-store_sector g) → Shows (g.S.Station.meaning c.args.buffers.now.station) (HoldsWritten c.args.self.now)
    → LeavesOnly (g.S.Station.meaning c.args.buffers.now.station) (g.S.Station.meaning c.store_sector.new.self.station) (OldOrNew c.args.self.now (g.S.Station.meaning c.args.buffers.now.station))
root_written g c holds =
    let p = c.args.self.now in
    let m0 = g.S.Station.meaning c.args.buffers.now.station in
    let m1 = g.S.Station.meaning c.sync.new.self.station in
    let m2 = g.S.Station.meaning c.store_sector.new.self.station in
    at_root p m0 m1 m2 (subst IsPlanned c.self.view_is c.self.invariant) (all_written p m0 c.requires.all holds) (g.met.S.Station.seen_may_be_left c.args.buffers.now.station)
    c.sync.ensures.call.goes c.in_ok-sync.ensures.settled
    (subst (λ (x : Planned). Goes (SomeSectorsWritten x.slot x.root) m1 m2) c.self.view_is c.store_sector.ensures.call.goes)

pub returns-in_err-store_sector-clause-any_moment : goal.returns-in_err-store_sector-clause-any_moment
returns-in_err-store_sector-clause-any_moment g c holds = root_written g (goal.at.returns-in_err-store_sector-clause-any_moment g c).After-store_sector holds

pub returns-in_err-sync-2-clause-any_moment : goal.returns-in_err-sync-2-clause-any_moment
returns-in_err-sync-2-clause-any_moment g c holds =
    goes_on_unchanged _ (g.S.Station.meaning c.store_sector.new.self.station) _ _ (root_written g (goal.at.returns-in_err-sync-2-clause-any_moment g c).After-store_sector holds) c.sync-2.ensures.call.goes

pub returns-clause-any_moment : goal.returns-clause-any_moment
returns-clause-any_moment g c holds =
    goes_on_unchanged _ (g.S.Station.meaning c.store_sector.new.self.station) _ _ (root_written g (goal.at.returns-clause-any_moment g c).After-store_sector holds) c.sync-2.ensures.call.goes

pub returns-clause-settled : goal.returns-clause-settled
returns-clause-settled g c holds =
    let p = c.args.self.now in
    let m0 = g.S.Station.meaning c.args.buffers.now.station in
    let m1 = g.S.Station.meaning c.sync.new.self.station in
    let m2 = g.S.Station.meaning c.store_sector.new.self.station in
    let m3 = g.S.Station.meaning c.sync-2.new.self.station in
    let same1 = c.sync.ensures.call.same in
    root_settled p m0 m1 m2 m3 (subst IsPlanned c.self.view_is c.self.invariant) (all_written p m0 c.requires.all holds)
    c.sync.ensures.call.goes
    (subst (λ (x : Planned). SeenGoes (SectorsWritten x.slot x.root) m1 m2) c.self.view_is c.in_ok-store_sector.ensures.written)
    c.in_ok-sync-2.ensures.settled
    same1 (same_twice m0 m2 m3 (same_twice m0 m1 m2 same1 c.store_sector.ensures.call.same) c.sync-2.ensures.call.same)

pub returns-clause-shows : goal.returns-clause-shows
returns-clause-shows g c disk shows =
    let stored = c.in_ok-store_sector.ensures.shows disk (c.in_ok-sync.ensures.shows disk shows) in
    let m3 = g.S.Station.meaning c.sync-2.new.self.station in
    let call = c.sync-2.ensures.call in
    let still = (call.goes stored.honest).seen in
    subst (λ (i : Images). ShowsDisk m3 c.sync-2.new.self.kept (disk_with_sector i.disk c.args.self.now.slot disk)) (sym still)
    (subst (λ (p : Planned). ShowsDisk m3 c.sync-2.new.self.kept (disk_with_sector (g.S.Station.meaning c.store_sector.new.self.station).seen.disk p.slot disk)) c.self.view_is (c.in_ok-sync-2.ensures.shows _ stored))

pub returns-clause-just : goal.returns-clause-just
returns-clause-just g c = λ honest d left.
    let call = c.sync-2.ensures.call in
    c.in_ok-sync-2.ensures.settled honest d left ∙ sym (call.goes (call.same.honest.1 honest)).seen
