-- An append that opens its epoch first.
use Rattle.std.proofs.Common.{inl, ℕ, List, Result, Ok, Err}
use Rattle.station.specs.Moments.{Meaning, LeavesOnly, KeepsDisk, IsSameStation}
use Rattle.station.proofs.Moments.{each_weaker, weaker, keeps_disk_weaker, keeps_disk_twice, keeps_disk_joined}
use Rattle.layout.specs.Log.{LogHolds}
use Rattle.oplog.specs.LogEnd.{LogEnd, Bodies, all_bodies, with_bodies, behind_records, StandsAt, LogStands, AllOrNone}
use Rattle.oplog.specs.Internal.{OpensHalf, Appends}
use Rattle.oplog.specs.declared.log.End.TheVariants.{Unopened, At}

module _ {E : Type 0} (old mid new : Meaning) (log : LogEnd) (g : ℕ) (bodies : Bodies) (more : List (List ℕ)) where
  -- what an opening leaves at any moment is what is left without the records
  pub while_opening : {T : Type 0} (result : Result T E) → OpensHalf old mid log g bodies result → LeavesOnly old mid (KeepsDisk old (AllOrNone log.half g bodies more))
  while_opening result opens = weaker old mid (KeepsDisk old (λ n. LogHolds log.half g n (all_bodies bodies))) (KeepsDisk old (AllOrNone log.half g bodies more)) opens.any_moment
      (keeps_disk_weaker old (λ n. LogHolds log.half g n (all_bodies bodies)) (AllOrNone log.half g bodies more) (λ n holds. inl holds))

  module _ {T : Type 0} (x : T) (opens : OpensHalf {T = T} {E = E} old mid log g bodies (Ok x)) where
    -- once it is open
    pub now_open : LogStands mid (record log { end = At 9 }) g bodies
    now_open = each_weaker mid (KeepsDisk old (StandsAt (record log { end = At 9 }) g bodies)) (λ c. StandsAt (record log { end = At 9 }) g bodies c.nvram) opens.opened (λ c keeps. keeps.3)

    pub after_opening : {U : Type 0} (result : Result U E) → IsSameStation mid new → Appends mid new (record log { end = At 9 }) g bodies more result → Appends old new (record log { end = Unopened }) g bodies more result
    after_opening (Ok y) same adds = record {
      any_moment = keeps_disk_joined old mid new (StandsAt (record log { end = At 9 }) g bodies) (AllOrNone log.half g bodies more) (while_opening (Ok x) opens) opens.opened adds.any_moment;
      appended = λ honest c left. keeps_disk_twice old mid (StandsAt (record log { end = At 9 }) g bodies) (StandsAt (behind_records (record log { end = At 9 }) more) g (with_bodies bodies more)) (opens.opened (same.honest.1 honest)) c (adds.appended honest c left);
    }
    after_opening (Err e) same adds = record {
      any_moment = keeps_disk_joined old mid new (StandsAt (record log { end = At 9 }) g bodies) (AllOrNone log.half g bodies more) (while_opening (Ok x) opens) opens.opened adds.any_moment;
      appended = tt;
    }
