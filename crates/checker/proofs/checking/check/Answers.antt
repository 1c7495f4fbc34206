use Rattle.std.proofs.Common.{◌∙◌, Err, ap, inl, refl, sym, subst}
use Rattle.station.specs.Images.{Images}
use Rattle.station.specs.Moments.{HasGrown, LeavesJust}
use Rattle.station.proofs.Moments.{grown_since}
use Rattle.layout.specs.Places.{blocks_of}
use Rattle.checker.specs.Checks.{Reports}
use Rattle.checker.proofs.CheckLaws.{has_roots, reports_roots, reports_under}
use Rattle.station.proofs.Moments.{still_left}
use Rattle.checker.proofs.GoodLaws.{is_good}
use Rattle.checker.proofs.checking.check.Goals as goal

pub check_image-requires-clause-none : goal.check_image-requires-clause-none
check_image-requires-clause-none g c =
    (rw c.in-Ok-Some.field-0-is at c.in-Ok-Some.ensures.kept) ∙ c.new-findings.ensures.first

pub returns-in-Ok-None-clause-opens : goal.returns-in-Ok-None-clause-opens
returns-in-Ok-None-clause-opens g c honest s opens =
    let m = g.S.Station.meaning c.args.station in
    let none = c.images_that_open_have_no_fault.ensures.under m.sectors m.seen.disk m.seen.nvram s opens in
    is_good c.files_hold_one_volume.ensures m.sectors m.seen.disk m.seen.nvram opens.root none.0 opens.changes none.1 c.report.result
    (subst (Reports m.sectors m.seen.disk m.seen.nvram) (sym c.report.ensures)
    (reports_roots m.sectors m.seen.disk m.seen.nvram c.find_root.new.findings.first (c.in-Ok-None.ensures.some c.in-Ok-None.field-0-is) (c.in-Ok-None.ensures.none honest c.new-findings.ensures.first c.in-Ok-None.field-0-is)))

pub returns-in-Ok-clause-reports : goal.returns-in-Ok-clause-reports
returns-in-Ok-clause-reports g c honest =
    let m = g.S.Station.meaning c.args.station in
    let n = g.S.Station.meaning c.find_root.new.station in
    let went = c.find_root.ensures.settles.goes honest in
    let sized = g.met.S.Station.sized c.args.station honest m.seen (g.met.S.Station.seen_may_be_left c.args.station honest) in
    let shows = c.new-blocks.ensures.shows (blocks_of n.seen.disk) went.honest (λ place within. refl) in
    let root = c.in-Ok-Some.root in
    let newest = rw c.in-Ok-Some.field-0-is at (c.in-Ok-Some.ensures.found honest) in
    let root_is = rw c.in-Ok-Some.field-0-is at c.in-Ok-Some.ensures.root in
    let roots = has_roots m n root c.find_root.ensures.settles.same sized.nvram newest root_is.1 in
    let there = ap (λ (s : g.row.S.Denot). (g.S.Station.meaning s).seen) c.new-blocks.ensures.station in
    subst (Reports m.sectors m.seen.disk m.seen.nvram) (sym c.report-in-Ok.ensures)
    (reports_under m.sectors m.seen.disk n.seen.disk m.seen.nvram (g.S.Station.meaning c.new-blocks.result.station).seen.nvram root c.check_image.new.findings.first c.in-Ok.summary
    (ap (λ (i : Images). i.disk) went.seen) (ap (λ (i : Images). i.nvram) (there ∙ went.seen)) roots (c.in-Ok.ensures.found (blocks_of n.seen.disk) shows) (c.in-Ok.ensures.faultless (blocks_of n.seen.disk) shows) c.in-Ok.ensures.some)

pub returns-in-Ok-clause-opens : goal.returns-in-Ok-clause-opens
returns-in-Ok-clause-opens g c honest s opens =
    let m = g.S.Station.meaning c.args.station in
    let none = c.images_that_open_have_no_fault.ensures.under m.sectors m.seen.disk m.seen.nvram s opens in
    is_good c.files_hold_one_volume.ensures m.sectors m.seen.disk m.seen.nvram opens.root none.0 opens.changes none.1 c.report-in-Ok.result
    (returns-in-Ok-clause-reports g c honest)

pub returns-in-Err-check_image-clause-device : goal.returns-in-Err-check_image-clause-device
returns-in-Err-check_image-clause-device g c is =
    let failed = λ (s : g.row.S.Denot). (g.S.Station.meaning s).failed_reads in
    let last = c.into_station-in-Err-check_image.result in
    let grown = c.in-Err-check_image.ensures.device (ap Err is) in
    inl (grown_since (failed c.args.station) (failed c.find_root.new.station) (failed last) c.find_root.ensures.settles.grown
    (subst (λ (s : g.row.S.Denot). HasGrown (failed s) (failed last)) c.new-blocks.ensures.station
    (subst (λ (s : g.row.S.Denot). HasGrown (failed c.new-blocks.result.station) (failed s)) (sym c.into_station-in-Err-check_image.ensures) grown)))

pub returns-in-Ok-clause-settled : goal.returns-in-Ok-clause-settled
returns-in-Ok-clause-settled g c =
    let images = (g.S.Station.meaning c.args.station).seen in
    let Leaves = λ (s : g.row.S.Denot). LeavesJust (g.S.Station.meaning s) images in
    let reads = c.check_image.ensures.reads in
    let first = subst Leaves (sym c.new-blocks.ensures.station) c.in-Ok-Some.ensures.settles.settled in
    subst Leaves (sym c.into_station.ensures)
    (still_left (g.S.Station.meaning c.new-blocks.result.station)
    (g.S.Station.meaning c.check_image.new.blocks.station) images reads.same reads.goes first)
