use Rattle.std.proofs.Common.{◌≡◌, ◌∙◌, ℕ, None, inl, sym, subst}
use Rattle.std.proofs.lemmas.Result.{IfOk-weaker}
use Rattle.layout.specs.StateLimits.{limits_of}
use Rattle.station.specs.Images.{Images}
use Rattle.station.specs.Moments.{HasGrown, LeavesJust}
use Rattle.station.proofs.Moments.{same_twice, unchanged_twice}
use Rattle.layout.specs.Places.{blocks_of}
use Rattle.layout.specs.declared.root.Root.{Root}
use Rattle.model.specs.Sessions.{new_session}
use Rattle.model.specs.Records.{without_orphans}
use Rattle.model.specs.States.{Forgets}
use Rattle.images.specs.Faults.{IsFaultlessUnder}
use Rattle.images.specs.Roots.{whole}
use Rattle.loading.specs.Slots.{FitsStation}
use Rattle.replay.specs.Volumes.{bodies_of}
use Rattle.system.specs.Opening.{HoldsRecords, IsOf}
use Rattle.system.specs.Systems.{meaning_of, state_with, system_parts}
use Rattle.system.proofs.OpenLaws.{found_before, if_err_weaker, match_weaker}
use Rattle.system.proofs.system.System.open.Goals as goal

pub returns-in-Ok-clause-same : goal.returns-in-Ok-clause-same
returns-in-Ok-clause-same g c =
    let m = g.S.Station.meaning c.args.station in
    let mid = g.S.Station.meaning c.find.new.station in
    match_weaker c.open_found.result _ _ _ _
    (λ f reads. same_twice m mid (meaning_of f) c.find.ensures.same reads.same)
    (λ e reads. same_twice m mid (g.S.Station.meaning e.1) c.find.ensures.same reads.same)
    c.open_found.ensures.reads

pub returns-in-Ok-clause-goes : goal.returns-in-Ok-clause-goes
returns-in-Ok-clause-goes g c =
    let m = g.S.Station.meaning c.args.station in
    let mid = g.S.Station.meaning c.find.new.station in
    match_weaker c.open_found.result _ _ _ _
    (λ f reads. unchanged_twice m mid (meaning_of f) c.find.ensures.goes reads.goes)
    (λ e reads. unchanged_twice m mid (g.S.Station.meaning e.1) c.find.ensures.goes reads.goes)
    c.open_found.ensures.reads

pub returns-in-Ok-clause-device : goal.returns-in-Ok-clause-device
returns-in-Ok-clause-device g c =
    if_err_weaker c.open_found.result _ _
    (λ e failed is. inl (subst (λ (n : ℕ). HasGrown n (g.S.Station.meaning e.1).failed_reads) c.in-Ok.ensures.settled.1 (failed is)))
    c.open_found.ensures.device

pub returns-in-Ok-clause-opens : goal.returns-in-Ok-clause-opens
returns-in-Ok-clause-opens g c honest s to =
    let o = to.opens in
    let m = g.S.Station.meaning c.args.station in
    let mid = g.S.Station.meaning c.find.new.station in
    let sized = g.met.S.Station.sized c.args.station honest m.seen (g.met.S.Station.seen_may_be_left c.args.station honest) in
    let fits : FitsStation o.root m = record { sectors = o.size; nvram = sym sized.nvram ∙ o.log.log.size } in
    let is : c.in-Ok.found.newest.root ≡ o.root = c.in-Ok.ensures.only honest o.root (bodies_of o.changes) o.newest fits o.log.log in
    let went = c.find.ensures.goes honest in
    let there : HoldsRecords (blocks_of m.seen.disk) o.root m.seen.nvram o.first o.last o.snapshots o.changes =
    record { holds = o.holds; log = o.log; replays = o.replays; room = o.room } in
    let holds = subst (λ (i : Images). HoldsRecords (blocks_of i.disk) c.in-Ok.found.newest.root i.nvram o.first o.last o.snapshots o.changes) (sym went.seen)
    (subst (λ (r : Root). HoldsRecords (blocks_of m.seen.disk) r m.seen.nvram o.first o.last o.snapshots o.changes) (sym is) there) in
    let just = subst (λ (i : Images). LeavesJust mid i) (sym went.seen) c.in-Ok.ensures.settled.0 in
    let of = subst (λ (i : Images). IsOf i c.in-Ok.found) (sym went.seen) (c.in-Ok.ensures.of_station honest) in
    let forgets = subst (λ (r : Root). Forgets s (state_with (limits_of r.geometry) new_session (without_orphans o.last) (λ d. None) o.snapshots)) (sym is) o.state in
    match_weaker c.open_found.result _ _ _ _
    (λ f serves. (state_with (limits_of c.in-Ok.found.newest.root.geometry) new_session (without_orphans o.last) (λ d. None) o.snapshots, forgets, serves))
    (λ e outside. outside)
    (c.open_found.ensures.serves went.honest just of o.first o.last o.snapshots o.changes holds)

pub returns-in-Err-clause-opens : goal.returns-in-Err-clause-opens
returns-in-Err-clause-opens g c honest s to =
    let o = to.opens in
    let m = g.S.Station.meaning c.args.station in
    let sized = g.met.S.Station.sized c.args.station honest m.seen (g.met.S.Station.seen_may_be_left c.args.station honest) in
    let fits : FitsStation o.root m = record { sectors = o.size; nvram = sym sized.nvram ∙ o.log.log.size } in
    c.in-Err.ensures.only honest o.root (bodies_of o.changes) o.newest fits o.log.log

pub returns-in-Ok-clause-found : goal.returns-in-Ok-clause-found
returns-in-Ok-clause-found g c honest =
    let went = c.find.ensures.goes honest in
    let of = subst (λ (i : Images). IsOf i c.in-Ok.found) (sym went.seen) (c.in-Ok.ensures.of_station honest) in
    IfOk-weaker c.open_found.result _ _
    (λ f found. found_before (g.S.Station.meaning c.args.station) (g.S.Station.meaning c.find.new.station) (system_parts f) c.find.ensures.same went.seen found)
    (c.open_found.ensures.found went.honest of)

pub returns-in-Ok-clause-faultless : goal.returns-in-Ok-clause-faultless
returns-in-Ok-clause-faultless g c honest none =
    let r = none.root in
    let m = g.S.Station.meaning c.args.station in
    let sized = g.met.S.Station.sized c.args.station honest m.seen (g.met.S.Station.seen_may_be_left c.args.station honest) in
    let fits : FitsStation r m = record { sectors = none.roots.sizes.disk; nvram = sym sized.nvram ∙ none.roots.sizes.nvram } in
    let is : c.in-Ok.found.newest.root ≡ r = c.in-Ok.ensures.only honest r (bodies_of none.changes) none.roots.newest fits none.under.log.log.log in
    let went = c.find.ensures.goes honest in
    let of = subst (λ (i : Images). IsOf i c.in-Ok.found) (sym went.seen) (c.in-Ok.ensures.of_station honest) in
    c.open_found.ensures.faultless went.honest of none.changes
    (subst (λ (i : Images). IsFaultlessUnder c.in-Ok.found.newest.root (whole (blocks_of i.disk) c.in-Ok.found.newest.root) i.nvram none.changes) (sym went.seen)
    (subst (λ (x : Root). IsFaultlessUnder x (whole (blocks_of m.seen.disk) x) m.seen.nvram none.changes) (sym is) none.under))

pub returns-in-Err-clause-faultless : goal.returns-in-Err-clause-faultless
returns-in-Err-clause-faultless g c honest none =
    let m = g.S.Station.meaning c.args.station in
    let sized = g.met.S.Station.sized c.args.station honest m.seen (g.met.S.Station.seen_may_be_left c.args.station honest) in
    let fits : FitsStation none.root m = record { sectors = none.roots.sizes.disk; nvram = sym sized.nvram ∙ none.roots.sizes.nvram } in
    c.in-Err.ensures.only honest none.root (bodies_of none.changes) none.roots.newest fits none.under.log.log.log
