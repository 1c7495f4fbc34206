use Rattle.std.proofs.Common.{◌≡◌, ℕ, ◌+◌, ◌≤◌, List, [], ◌∷◌, length, rules, arith, sym, ap, subst, ◌∙◌, Result}
use Rattle.std.specs.Prelude.{OnOk}
use Rattle.station.specs.declared.station.DeviceFault.{DeviceFault}
use Rattle.station.specs.Moments.{EachCut, KeepsDisk}
use Rattle.layout.specs.Record.{change_of}
use Rattle.oplog.specs.LogEnd.{LogEnd, Bodies, HasRoomInHalf, logged_body, behind_records, next_of, with_body, LogStands, StandsAt}
use Rattle.layout.specs.Log.{records_of}
use Rattle.oplog.specs.Internal.{IsBehind, Appends}
use Rattle.oplog.specs.declared.log.End.{End}
use Rattle.oplog.specs.declared.log.End.TheVariants.{At}
use Rattle.oplog.proofs.Records.{length-one, one_behind}
use Rattle.oplog.proofs.log.Log.append.Goals as goal
use Rattle.oplog.proofs.log.Log.append.Goals.{After-write_records}
use Rattle.oplog.proofs.log.Log.append.Given.{Over}

-- the next gate stands behind the record
next_place : (got long next body items one : ℕ) → got ≡ next → long ≡ items → items ≡ body + 5 → one ≡ 5 + body → next + one ≡ got + long
next_place got long next body items one here same is is_too = omega arith

appends : (g : Over) (c : After-write_records g) (gen : ℕ) (bodies : Bodies) → LogStands (g.S.Station.meaning c.args.station.now) c.args.self.now gen bodies
    → Appends (g.S.Station.meaning c.args.station.now) (g.S.Station.meaning c.write_records.new.station) (record c.args.self.now { end = c.self.inside.end }) gen bodies (logged_body (change_of c.args.change.now) ∷ []) c.write_records.result
appends g c gen bodies stands =
    let log = c.args.self.now in
    let body = logged_body (change_of c.args.change.now) in
    let end : c.self.inside.end ≡ log.end = ap (λ (l : LogEnd). l.end) c.self.view_is in
    let half : c.self.inside.half ≡ log.half = ap (λ (l : LogEnd). l.half) c.self.view_is in
    let room : HasRoomInHalf log (length body) = c.prepare.ensures.room (search rules) in
    let room_here : next_of c.self.inside.end + 5 + length body + 1 ≤ log.half = subst (λ (e : End). next_of e + 5 + length body + 1 ≤ log.half) (sym end) room in
    let long : length c.deref.result.now ≡ length body + 5 = ap (λ (l : List ℕ). length l) c.deref.ensures.value ∙ c.in_ok-behind.ensures.length in
    c.write_records.ensures.appends log gen bodies (body ∷ [])
    (one_behind body c.deref.result.now (subst (IsBehind body) (sym c.deref.ensures.value) c.in_ok-behind.ensures.spelled))
    (omega (arith, room_here, long))
    (omega (arith, half, c.self.invariant))
    c.start.ensures.place
    (ap (λ (l : LogEnd). l.epoch) c.self.view_is)
    (subst (λ (e : End). LogStands (g.S.Station.meaning c.args.station.now) (record log { end = e }) gen bodies) (sym end) stands)

pub returns-in_default-clause-any_moment : goal.returns-in_default-clause-any_moment
returns-in_default-clause-any_moment g c gen bodies stands = (appends g (goal.at.returns-in_default-clause-any_moment g c).After-write_records gen bodies stands).any_moment

pub returns-clause-any_moment : goal.returns-clause-any_moment
returns-clause-any_moment g c gen bodies stands = (appends g (goal.at.returns-clause-any_moment g c).After-write_records gen bodies stands).any_moment

pub returns-clause-appended : goal.returns-clause-appended
returns-clause-appended g c gen bodies stands =
    let log = c.args.self.now in
    let body = logged_body (change_of c.args.change.now) in
    let with_it : LogEnd → Type 0 = λ (l : LogEnd). EachCut (g.S.Station.meaning c.write_records.new.station) (KeepsDisk (g.S.Station.meaning c.args.station.now) (StandsAt l gen (with_body bodies body))) in
    let done = subst (λ (r : Result (Unit {0}) DeviceFault). OnOk r (with_it (behind_records (record log { end = c.self.inside.end }) (body ∷ [])))) c.in-Ok.is
    (appends g (goal.at.returns-clause-appended g c).After-write_records gen bodies stands).appended in
    let place : next_of c.self.inside.end + length (records_of (body ∷ [])) ≡ c.next.result + c.len.result =
    next_place c.next.result c.len.result (next_of c.self.inside.end) (length body) (length c.in_ok-behind.behind.items) (length (records_of (body ∷ []))) (c.next.ensures.place ∙ ap (λ (l : LogEnd). next_of l.end) (sym c.self.view_is)) (search rules) c.in_ok-behind.ensures.length (length-one body) in
    subst with_it (ap (λ (n : ℕ). record log { end = At n }) place ∙ (λ i. record (sym c.self.view_is i) { end = At (c.next.result + c.len.result) })) done
