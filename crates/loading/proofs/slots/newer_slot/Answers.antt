use Rattle.std.proofs.Common.{◌≡◌, subst, arith, Result}
use Rattle.std.specs.Prelude.{IsOkAnd, MatchResult, Ok, Err}
use Rattle.station.specs.Images.{Images}
use Rattle.layout.specs.declared.root.Root.{Root}
use Rattle.loading.specs.Slots.{TellsRoot}
use Rattle.loading.specs.declared.error.RootError.{RootError}
use Rattle.loading.specs.declared.error.RootError.TheVariants.{Device}
use Rattle.loading.specs.declared.slots.Newest.{Newest}
use Rattle.loading.proofs.slots.newer_slot.Goals as goal

one_is : (r : Root) (result : Result Newest RootError) → IsOkAnd result (λ n. n.root ≡ r) → MatchResult result (λ n. n.root ≡ r) (λ e. e ≡ Device)
one_is r (Ok n) is = is
one_is r (Err e) is = absurd is

pub returns-clause-found : goal.returns-clause-found
returns-clause-found g c honest far =
    let m = g.S.Station.meaning c.args.station.now in
    let went = c.read_slot.ensures.reads.goes honest in
    let first = c.in_ok-first.ensures.holds (omega arith) honest in
    let second = c.in_ok-second.ensures.holds (omega (arith, c.read_slot.ensures.reads.same.sectors)) went.honest in
    c.newer.ensures.found m.seen.disk first (subst (λ (i : Images). TellsRoot (i.disk 8) c.in_ok-second.second) went.seen second)

pub returns-clause-only : goal.returns-clause-only
returns-clause-only g c honest far r newest =
    let m = g.S.Station.meaning c.args.station.now in
    let went = c.read_slot.ensures.reads.goes honest in
    let first = c.in_ok-first.ensures.holds (omega arith) honest in
    let second = c.in_ok-second.ensures.holds (omega (arith, c.read_slot.ensures.reads.same.sectors)) went.honest in
    one_is r c.newer.result (c.newer.ensures.only m.seen.disk first (subst (λ (i : Images). TellsRoot (i.disk 8) c.in_ok-second.second) went.seen second) r newest)
