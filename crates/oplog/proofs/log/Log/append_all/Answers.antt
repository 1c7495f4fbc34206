use Rattle.std.proofs.Common.{◌≡◌, ◌≢◌, ◌↔◌, ℕ, ◌+◌, ◌≤◌, Bool, true, false, List, [], length, arith, sym, ap, subst, ◌∙◌, Result}
use Rattle.std.specs.Prelude.{IsTrue, OnOk}
use Rattle.station.specs.declared.station.DeviceFault.{DeviceFault}
use Rattle.station.specs.Moments.{EachCut, KeepsDisk}
use Rattle.layout.specs.Log.{records_of}
use Rattle.oplog.specs.Batches.{AreBehind, IsBatchOf}
use Rattle.oplog.specs.LogEnd.{LogEnd, Bodies, behind_records, next_of, with_bodies, LogStands, StandsAt}
use Rattle.oplog.specs.Internal.{Appends}
use Rattle.oplog.specs.declared.log.End.{End}
use Rattle.oplog.specs.declared.log.End.TheVariants.{At}
use Rattle.oplog.proofs.Batches.{some_wait}
use Rattle.oplog.proofs.Records.{length-behind}
use Rattle.oplog.proofs.log.Log.append_all.Goals as goal
use Rattle.oplog.proofs.log.Log.append_all.Goals.{After-write_records}
use Rattle.oplog.proofs.log.Log.append_all.Given.{Over}

not_empty : (is : Bool) (bytes : List ℕ) → (IsTrue is ↔ (bytes ≡ [])) → is ≡ false → bytes ≢ []
not_empty is bytes tells not none = let e : true ≡ false = sym (tells.1 none) ∙ not in cc

-- the next gate stands behind the records
next_place : (got long next items all : ℕ) → got ≡ next → long ≡ items → items ≡ all → next + all ≡ got + long
next_place got long next items all here same is = omega arith

behind : (g : Over) (c : After-write_records g) (more : List (List ℕ)) → IsBatchOf more c.args.batch.now → AreBehind more c.args.batch.now
behind g c more waits = some_wait more c.args.batch.now waits (not_empty c.is_empty.result c.args.batch.now c.is_empty.ensures c.if-is_empty.false)

appends : (g : Over) (c : After-write_records g) (gen : ℕ) (bodies : Bodies) (more : List (List ℕ)) → IsBatchOf more c.args.batch.now → LogStands (g.S.Station.meaning c.args.station.now) c.args.self.now gen bodies
    → Appends (g.S.Station.meaning c.args.station.now) (g.S.Station.meaning c.write_records.new.station) (record c.args.self.now { end = c.self.inside.end }) gen bodies more c.write_records.result
appends g c gen bodies more waits stands =
    let log = c.args.self.now in
    let end : c.self.inside.end ≡ log.end = ap (λ (l : LogEnd). l.end) c.self.view_is in
    let half : c.self.inside.half ≡ log.half = ap (λ (l : LogEnd). l.half) c.self.view_is in
    let room_here : next_of c.self.inside.end + length c.args.batch.now + 1 ≤ log.half = subst (λ (e : End). next_of e + length c.args.batch.now + 1 ≤ log.half) (sym end) c.requires.room in
    let long : length c.bytes.result.now ≡ length c.args.batch.now = ap (λ (l : List ℕ). length l) c.bytes.ensures in
    c.write_records.ensures.appends log gen bodies more
    (subst (AreBehind more) (sym c.bytes.ensures) (behind g c more waits))
    (omega (arith, room_here, long))
    (omega (arith, half, c.self.invariant))
    c.start.ensures.place
    (ap (λ (l : LogEnd). l.epoch) c.self.view_is)
    (subst (λ (e : End). LogStands (g.S.Station.meaning c.args.station.now) (record log { end = e }) gen bodies) (sym end) stands)

pub returns-in_default-clause-any_moment : goal.returns-in_default-clause-any_moment
returns-in_default-clause-any_moment g c gen bodies more waits stands = (appends g (goal.at.returns-in_default-clause-any_moment g c).After-write_records gen bodies more waits stands).any_moment

pub returns-clause-any_moment : goal.returns-clause-any_moment
returns-clause-any_moment g c gen bodies more waits stands = (appends g (goal.at.returns-clause-any_moment g c).After-write_records gen bodies more waits stands).any_moment

pub returns-clause-appended : goal.returns-clause-appended
returns-clause-appended g c gen bodies more waits stands =
    let log = c.args.self.now in
    let at = (goal.at.returns-clause-appended g c).After-write_records in
    let with_them : LogEnd → Type 0 = λ (l : LogEnd). EachCut (g.S.Station.meaning c.write_records.new.station) (KeepsDisk (g.S.Station.meaning c.args.station.now) (StandsAt l gen (with_bodies bodies more))) in
    let done = subst (λ (r : Result (Unit {0}) DeviceFault). OnOk r (with_them (behind_records (record log { end = c.self.inside.end }) more))) c.in-Ok.is
    (appends g at gen bodies more waits stands).appended in
    let place : next_of c.self.inside.end + length (records_of more) ≡ c.next.result + c.len.result =
    next_place c.next.result c.len.result (next_of c.self.inside.end) (length c.args.batch.now) (length (records_of more)) (c.next.ensures.place ∙ ap (λ (l : LogEnd). next_of l.end) (sym c.self.view_is)) c.len.ensures
    (length-behind more c.args.batch.now (behind g at more waits)) in
    subst with_them (ap (λ (n : ℕ). record log { end = At n }) place ∙ (λ i. record (sym c.self.view_is i) { end = At (c.next.result + c.len.result) })) done
