use Rattle.std.proofs.Common.{ℕ, ◌+◌, ◌≤◌, length, rules, sym, ap, subst}
use Rattle.oplog.specs.LogEnd.{next_of, LogStands}
use Rattle.oplog.specs.Internal.{Appends}
use Rattle.oplog.specs.declared.log.End.{End}
use Rattle.oplog.proofs.Openings.{while_opening, now_open, after_opening}
use Rattle.oplog.proofs.append.write_records.Goals as goal

pub returns-in_err-open_half-in-Unopened-clause-appends : goal.returns-in_err-open_half-in-Unopened-clause-appends
returns-in_err-open_half-in-Unopened-clause-appends g c log gen bodies more are fits room at epoch stands =
    let m0 = g.S.Station.meaning c.args.station.now in
    let before = subst (λ (e : End). LogStands m0 (record log { end = e }) gen bodies) c.in-Unopened.is stands in
    record { any_moment = while_opening m0 (g.S.Station.meaning c.open_half.new.station) m0 log gen bodies more _ (c.open_half.ensures.opens log gen bodies room at epoch before); appended = search rules }

pub returns-in_ok-open_half-in-Unopened-clause-appends : goal.returns-in_ok-open_half-in-Unopened-clause-appends
returns-in_ok-open_half-in-Unopened-clause-appends g c log gen bodies more are fits room at epoch stands =
    let m0 = g.S.Station.meaning c.args.station.now in
    let m1 = g.S.Station.meaning c.open_half.new.station in
    let m2 = g.S.Station.meaning c.add_records.new.station in
    let before = subst (λ (e : End). LogStands m0 (record log { end = e }) gen bodies) c.in-Unopened.is stands in
    let opens = c.in_ok-open_half-in-Unopened.ensures.opens log gen bodies room at epoch before in
    let short = subst (λ (e : End). next_of e + 1 + length c.args.behind.now ≤ log.half) c.in-Unopened.is fits in
    let adds = c.add_records.ensures.appends log gen 9 bodies more are short (ap (λ (n : ℕ). n + 9) at) (now_open m0 m1 m2 log gen bodies more tt opens) in
    subst (λ (e : End). Appends m0 m2 (record log { end = e }) gen bodies more c.add_records.result) (sym c.in-Unopened.is)
    (after_opening m0 m1 m2 log gen bodies more tt opens c.add_records.result c.add_records.ensures.writes.same adds)

pub returns-in-At-clause-appends : goal.returns-in-At-clause-appends
returns-in-At-clause-appends g c log gen bodies more are fits room at epoch stands =
    let m0 = g.S.Station.meaning c.args.station.now in
    let before = subst (λ (e : End). LogStands m0 (record log { end = e }) gen bodies) c.in-At.is stands in
    let short = subst (λ (e : End). next_of e + 1 + length c.args.behind.now ≤ log.half) c.in-At.is fits in
    subst (λ (e : End). Appends m0 (g.S.Station.meaning c.add_records-in-At.new.station) (record log { end = e }) gen bodies more c.add_records-in-At.result) (sym c.in-At.is)
    (c.add_records-in-At.ensures.appends log gen c.in-At.next bodies more are short (ap (λ (n : ℕ). n + c.in-At.next) at) before)
