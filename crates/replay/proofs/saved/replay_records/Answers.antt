use Rattle.std.proofs.Common.{◌∙◌, ◌++◌, ℕ, List, rules, ap, sym, subst, arith}
use Rattle.layout.specs.StateLimits.{limits_of}
use Rattle.layout.specs.Limits.{Sizes}
use Rattle.model.specs.Records.{cost_of_all, without_orphans}
use Rattle.oplog.specs.LogEnd.{LogEnd}
use Rattle.oplog.specs.SavedLog.{HoldsLeaving, StandsBehind, end_of}
use Rattle.replay.specs.Volumes.{HasVolumeIn, LeadTo, bodies_of}
use Rattle.replay.proofs.Errors.{passed}
use Rattle.replay.proofs.SavedLaws.{costs_joined, joined_bodies, lead_on, saves_both}
use Rattle.replay.proofs.saved.replay_records.Goals as goal

pub returns-in_err-first-clause-replays : goal.returns-in_err-first-clause-replays
returns-in_err-first-clause-replays g c detail disk settled v w changes nvram shows has tells saves =
    let limits = (limits_of c.args.inodes.now.geometry) in
    let both = lead_on detail limits nvram c.args.saved changes v w tells saves in
    let leads = subst (λ (l : List ℕ). LeadTo detail limits l both.one v both.mid) (sym c.first_records.ensures.records) both.leads in
    passed _ c.from_residual.result c.in_err-first.field-0.0 (search rules) (c.in_err-first.ensures.replays detail disk settled v both.mid both.one shows has leads)

pub returns-in_err-second-clause-replays : goal.returns-in_err-second-clause-replays
returns-in_err-second-clause-replays g c detail disk settled v w changes nvram shows has tells saves =
    let limits = (limits_of c.args.inodes.now.geometry) in
    let both = lead_on detail limits nvram c.args.saved changes v w tells saves in
    let leads = subst (λ (l : List ℕ). LeadTo detail limits l both.one v both.mid) (sym c.first_records.ensures.records) both.leads in
    let read = c.in_ok-first.ensures.reads in
    let mid = c.in_ok-first.ensures.replays detail disk settled v both.mid both.one shows has leads in
    let leads_on = subst (λ (s : Sizes). LeadTo detail (limits_of s) c.second_records.result.now both.two both.mid w) (sym c.in_ok-first.ensures.geometry)
    (subst (λ (l : List ℕ). LeadTo detail limits l both.two both.mid w) (sym c.second_records.ensures.records) both.leads_on) in
    passed _ c.from_residual-in_err-second.result c.in_err-second.field-0.0 (search rules)
    (c.in_err-second.ensures.replays detail disk settled both.mid w both.two (read.same disk shows)
    (subst (λ (k : ℕ). HasVolumeIn detail k disk settled c.replay_all.new.inodes both.mid) (sym read.count) mid.1) leads_on)

pub returns-in_err-drop_orphans-clause-replays : goal.returns-in_err-drop_orphans-clause-replays
returns-in_err-drop_orphans-clause-replays g c detail disk settled v w changes nvram shows has tells saves =
    let limits = (limits_of c.args.inodes.now.geometry) in
    let both = lead_on detail limits nvram c.args.saved changes v w tells saves in
    let leads = subst (λ (l : List ℕ). LeadTo detail limits l both.one v both.mid) (sym c.first_records.ensures.records) both.leads in
    let read = c.in_ok-first.ensures.reads in
    let again = c.in_ok-second.ensures.reads in
    let mid = c.in_ok-first.ensures.replays detail disk settled v both.mid both.one shows has leads in
    let leads_on = subst (λ (s : Sizes). LeadTo detail (limits_of s) c.second_records.result.now both.two both.mid w) (sym c.in_ok-first.ensures.geometry)
    (subst (λ (l : List ℕ). LeadTo detail limits l both.two both.mid w) (sym c.second_records.ensures.records) both.leads_on) in
    let end = c.in_ok-second.ensures.replays detail disk settled both.mid w both.two (read.same disk shows)
    (subst (λ (k : ℕ). HasVolumeIn detail k disk settled c.replay_all.new.inodes both.mid) (sym read.count) mid.1) leads_on in
    passed _ c.from_residual-in_err-drop_orphans.result c.in_err-drop_orphans.field-0.0 (search rules)
    (c.in_err-drop_orphans.ensures.drops detail disk settled w (again.same disk (read.same disk shows))
    (subst (λ (k : ℕ). HasVolumeIn detail k disk settled c.replay_all-2.new.inodes w) (sym again.count) end.1))

pub returns-clause-replays : goal.returns-clause-replays
returns-clause-replays g c detail disk settled v w changes nvram shows has tells saves =
    let limits = (limits_of c.args.inodes.now.geometry) in
    let both = lead_on detail limits nvram c.args.saved changes v w tells saves in
    let leads = subst (λ (l : List ℕ). LeadTo detail limits l both.one v both.mid) (sym c.first_records.ensures.records) both.leads in
    let read = c.in_ok-first.ensures.reads in
    let again = c.in_ok-second.ensures.reads in
    let mid = c.in_ok-first.ensures.replays detail disk settled v both.mid both.one shows has leads in
    let leads_on = subst (λ (s : Sizes). LeadTo detail (limits_of s) c.second_records.result.now both.two both.mid w) (sym c.in_ok-first.ensures.geometry)
    (subst (λ (l : List ℕ). LeadTo detail limits l both.two both.mid w) (sym c.second_records.ensures.records) both.leads_on) in
    let end = c.in_ok-second.ensures.replays detail disk settled both.mid w both.two (read.same disk shows)
    (subst (λ (k : ℕ). HasVolumeIn detail k disk settled c.replay_all.new.inodes both.mid) (sym read.count) mid.1) leads_on in
    let stands_on = subst (λ (k : ℕ). HasVolumeIn detail k disk settled c.replay_all-2.new.inodes w) (sym again.count) end.1 in
    let swept = c.in_ok-drop_orphans.ensures.drops detail disk settled w (again.same disk (read.same disk shows)) stands_on in
    let first = subst (λ (l : List ℕ). HoldsLeaving l (bodies_of both.one) c.in_ok-first.first.left) c.first_records.ensures.records mid.0.held in
    let second = subst (λ (l : List ℕ). HoldsLeaving l (bodies_of both.two) c.in_ok-second.second.left) c.second_records.ensures.records end.0.held in
    let stands = tells.ends (bodies_of both.one) (bodies_of both.two) c.in_ok-first.first.left c.in_ok-second.second.left first second in (
      subst (λ (e : LogEnd). StandsBehind e c.args.saved.generation nvram (bodies_of changes)) (sym c.into_log.ensures.end)
          (subst (StandsBehind (end_of c.args.saved c.in_ok-first.first.left c.in_ok-second.second.left) c.args.saved.generation nvram) (sym (joined_bodies changes both.one both.two both.joined)) stands),
      subst (λ (k : ℕ). HasVolumeIn detail k disk settled c.drop_orphans.new.inodes (without_orphans w)) (again.count ∙ read.count) swept,
      omega (arith, mid.0.cost, end.0.cost, ap (λ (s : Sizes). cost_of_all (limits_of s).costs both.mid both.two) c.in_ok-first.ensures.geometry, ap (cost_of_all limits.costs v) both.joined, costs_joined detail limits limits.costs both.one both.two v both.mid both.leads.replays),
      λ base. omega (arith, mid.2 base, end.2 base, c.in_ok-drop_orphans.ensures.room detail base disk settled w (again.same disk (read.same disk shows)) stands_on),
    )

pub returns-clause-applies : goal.returns-clause-applies
returns-clause-applies g c detail disk settled v nvram shows has tells =
    let limits = (limits_of c.args.inodes.now.geometry) in
    let read = c.in_ok-first.ensures.reads in
    let one = c.in_ok-first.ensures.applies detail disk settled v shows has in
    let mid = c.in_ok-first.ensures.replays detail disk settled v one.1 one.0 shows has one.2 in
    let stands = subst (λ (k : ℕ). HasVolumeIn detail k disk settled c.replay_all.new.inodes one.1) (sym read.count) mid.1 in
    let two = c.in_ok-second.ensures.applies detail disk settled one.1 (read.same disk shows) stands in
    let end = c.in_ok-second.ensures.replays detail disk settled one.1 two.1 two.0 (read.same disk shows) stands two.2 in
    let leads = subst (λ (l : List ℕ). LeadTo detail limits l one.0 v one.1) c.first_records.ensures.records one.2 in
    let leads_on = subst (λ (l : List ℕ). LeadTo detail limits l two.0 one.1 two.1) c.second_records.ensures.records
    (subst (λ (s : Sizes). LeadTo detail (limits_of s) c.second_records.result.now two.0 one.1 two.1) c.in_ok-first.ensures.geometry two.2) in
    let first = subst (λ (l : List ℕ). HoldsLeaving l (bodies_of one.0) c.in_ok-first.first.left) c.first_records.ensures.records mid.0.held in
    let second = subst (λ (l : List ℕ). HoldsLeaving l (bodies_of two.0) c.in_ok-second.second.left) c.second_records.ensures.records end.0.held in (
      one.0 ++ two.0,
      two.1,
      saves_both detail limits nvram c.args.saved one.0 two.0 v one.1 two.1 c.in_ok-first.first.left c.in_ok-second.second.left tells leads leads_on first second,
    )

pub returns-clause-holds : goal.returns-clause-holds
returns-clause-holds g c nvram tells =
    let one = c.in_ok-first.ensures.holds in
    let two = c.in_ok-second.ensures.holds in
    let first = subst (λ (l : List ℕ). HoldsLeaving l one.0 c.in_ok-first.first.left) c.first_records.ensures.records one.1 in
    let second = subst (λ (l : List ℕ). HoldsLeaving l two.0 c.in_ok-second.second.left) c.second_records.ensures.records two.1 in
    let stands = tells.ends one.0 two.0 c.in_ok-first.first.left c.in_ok-second.second.left first second in
    (one.0 ++ two.0, subst (λ (e : LogEnd). StandsBehind e c.args.saved.generation nvram (one.0 ++ two.0)) (sym c.into_log.ensures.end) stands)
