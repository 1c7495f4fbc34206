use Rattle.std.proofs.Common.{◌≡◌, ◌*◌, ℕ, rules, sym, subst, arith}
use Rattle.model.specs.Records.{without_orphans}
use Rattle.inofile.proofs.RoomLaws.{clean_room}
use Rattle.replay.specs.Volumes.{HasVolumeIn}
use Rattle.replay.proofs.Errors.{passed}
use Rattle.replay.proofs.saved.replay.Goals as goal

pub returns-in_err-orphans-clause-replays : goal.returns-in_err-orphans-clause-replays
returns-in_err-orphans-clause-replays g c detail disk settled v w changes nvram shows has tells saves =
    passed _ c.from_residual.result c.in_err-orphans.field-0.0 (search rules) (c.in_err-orphans.ensures.counts detail disk settled v shows has)

pub returns-in_err-log-clause-replays : goal.returns-in_err-log-clause-replays
returns-in_err-log-clause-replays g c detail disk settled v w changes nvram shows has tells saves =
    let read = c.in_ok-orphans.ensures.reads in
    passed _ c.from_residual-in_err-log.result c.in_err-log.field-0.0 (search rules)
    (c.in_err-log.ensures.replays detail disk settled v w changes nvram (read.same disk shows) (subst (λ (k : ℕ). HasVolumeIn detail k disk settled c.args.inodes.now v) (sym read.count) has) tells saves)

pub returns-clause-replays : goal.returns-clause-replays
returns-clause-replays g c detail disk settled v w changes nvram shows has tells saves =
    let told = c.in_ok-orphans.ensures in
    let read = told.reads in
    let end = c.in_ok-log.ensures.replays detail disk settled v w changes nvram (read.same disk shows) (subst (λ (k : ℕ). HasVolumeIn detail k disk settled c.args.inodes.now v) (sym read.count) has) tells saves in
    let dropped : c.cost_of_orphans-dropped.result ≡ 4 * c.in_ok-orphans.orphans = c.cost_of_orphans-dropped.ensures.is in
    (end.0, subst (λ (k : ℕ). HasVolumeIn detail k disk settled c.replay_records.new.inodes (without_orphans w)) read.count end.1, omega (arith, told.counts detail disk settled v shows has, end.2, dropped))

pub returns-clause-applies : goal.returns-clause-applies
returns-clause-applies g c detail disk settled v nvram shows has tells =
    let read = c.in_ok-orphans.ensures.reads in
    c.in_ok-log.ensures.applies detail disk settled v nvram (read.same disk shows) (subst (λ (k : ℕ). HasVolumeIn detail k disk settled c.args.inodes.now v) (sym read.count) has) tells

pub returns-clause-holds : goal.returns-clause-holds
returns-clause-holds g c nvram tells = c.in_ok-log.ensures.holds nvram tells

pub returns-clause-room : goal.returns-clause-room
returns-clause-room g c detail disk settled v w changes nvram shows has tells saves none =
    let told = c.in_ok-orphans.ensures in
    let read = told.reads in
    let s = c.args.inodes.now in
    let end = c.in_ok-log.ensures.replays detail disk settled v w changes nvram (read.same disk shows) (subst (λ (k : ℕ). HasVolumeIn detail k disk settled s v) (sym read.count) has) tells saves in
    let dropped : c.cost_of_orphans-dropped.result ≡ 4 * c.in_ok-orphans.orphans = c.cost_of_orphans-dropped.ensures.is in
    omega (arith, end.3 v, told.counts detail disk settled v shows has, end.2, dropped, clean_room s v none s.geometry.inodes)
