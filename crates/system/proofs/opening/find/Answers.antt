use Rattle.std.proofs.Common.{◌≡◌, ◌∙◌, sym, subst}
use Rattle.station.specs.Images.{Images}
use Rattle.layout.specs.Log.{LogHolds}
use Rattle.layout.specs.Opens.{IsNewest}
use Rattle.layout.specs.declared.root.Root.{Root}
use Rattle.loading.specs.Slots.{FitsStation}
use Rattle.system.proofs.OpenLaws.{log_refused, root_refused}
use Rattle.system.proofs.opening.find.Goals as goal

pub returns-in_err-newest-clause-only : goal.returns-in_err-newest-clause-only
returns-in_err-newest-clause-only g c honest r bodies newest fits log =
    let went = c.sync.ensures.call.goes honest in
    let same = c.sync.ensures.call.same in
    let there = subst (λ (i : Images). IsNewest r (i.disk 0) (i.disk 8)) (sym went.seen) newest in
    let sized : FitsStation r (g.S.Station.meaning c.sync.new.self) = record { sectors = same.sectors ∙ fits.sectors; nvram = same.nvram_bytes ∙ fits.nvram } in
    root_refused _ c.from_residual-in_err-newest.result c.in_err-newest.field-0.0 c.from_residual-in_err-newest.ensures.1
    (c.in_err-newest.ensures.only went.honest r there sized)

pub returns-in_err-saved-clause-only : goal.returns-in_err-saved-clause-only
returns-in_err-saved-clause-only g c honest r bodies newest fits log =
    let went = c.sync.ensures.call.goes honest in
    let same = c.sync.ensures.call.same in
    let there = subst (λ (i : Images). IsNewest r (i.disk 0) (i.disk 8)) (sym went.seen) newest in
    let sized : FitsStation r (g.S.Station.meaning c.sync.new.self) = record { sectors = same.sectors ∙ fits.sectors; nvram = same.nvram_bytes ∙ fits.nvram } in
    let is : c.in_ok-newest.newest.root ≡ r = c.in_ok-newest.ensures.only went.honest r there sized in
    let on = c.newest_root.ensures.reads.goes went.honest in
    let held = subst (λ (q : Root). LogHolds q.geometry.half q.generation (g.S.Station.meaning c.newest_root.new.station).seen.nvram bodies) (sym is)
    (subst (λ (i : Images). LogHolds r.geometry.half r.generation i.nvram bodies) (sym (on.seen ∙ went.seen)) log) in
    log_refused _ c.from_residual-in_err-saved.result c.in_err-saved.field-0.0 c.from_residual-in_err-saved.ensures.1
    (λ damaged. c.in_err-saved.ensures.damaged damaged on.honest bodies held)

pub returns-clause-only : goal.returns-clause-only
returns-clause-only g c honest r bodies newest fits log =
    let went = c.sync.ensures.call.goes honest in
    let same = c.sync.ensures.call.same in
    let there = subst (λ (i : Images). IsNewest r (i.disk 0) (i.disk 8)) (sym went.seen) newest in
    let sized : FitsStation r (g.S.Station.meaning c.sync.new.self) = record { sectors = same.sectors ∙ fits.sectors; nvram = same.nvram_bytes ∙ fits.nvram } in
    c.in_ok-newest.ensures.only went.honest r there sized
