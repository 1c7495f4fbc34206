-- What the crate's own functions promise one another: no public clause speaks of these.
use Rattle.std.specs.Prelude.{◌≡◌, ℕ, ◌*◌, ◌%◌, ◌<◌, ◌^◌, Bool, List, [], ◌∷◌, ◌++◌, length, Result, OnOk, IsTrue, IsFalse, ⊤}
use Rattle.byteorder.specs.Endian.{little_bytes}
use Rattle.station.specs.Moments.{Meaning, EachCut, LeavesOnly, KeepsDisk}
use Rattle.layout.specs.Log.{IsOpenFor, IsUnopened, LogHolds}
use Rattle.layout.specs.declared.log.TheConstants.{FIRST_GATE}
use Rattle.oplog.specs.LogEnd.{LogEnd, Bodies, all_bodies, with_bodies, behind_records, StandsAt, AllOrNone}
use Rattle.oplog.specs.declared.log.End.TheVariants.{At}

-- where the half of the log's epoch begins in the NVRAM
abbrev pub start_of : LogEnd → ℕ
start_of log = log.half * (log.epoch % 2)

-- what stands behind the gate of a record with this body: its length, the body, and the next gate,
-- closed
pub record IsBehind (body bytes : List ℕ) : Type 0 where
  pub short : length body < 2 ^ 32
  pub spelled : bytes ≡ little_bytes 4 (length body) ++ body ++ 0 ∷ []

-- every error says that a device call failed
abbrev pub IsAnyFault : {E : Type 0} → E → Type 0
IsAnyFault e = ⊤

-- From a log's end on, a cut at any moment left the records that were there; once the answer is Ok,
-- the epoch is open.
pub record OpensHalf {T E : Type 0} (old new : Meaning) (log : LogEnd) (g : ℕ) (bodies : Bodies) (result : Result T E) : Type 0 where
  pub any_moment : LeavesOnly old new (KeepsDisk old (λ n. LogHolds log.half g n (all_bodies bodies)))
  pub opened : OnOk result (EachCut new (KeepsDisk old (StandsAt (record log { end = At FIRST_GATE }) g bodies)))

-- From a log's end on, a cut at any moment left the records that were there, with all of these or
-- with none; once the answer is Ok, with all.
pub record Appends {T E : Type 0} (old new : Meaning) (log : LogEnd) (g : ℕ) (bodies : Bodies) (more : List (List ℕ)) (result : Result T E) : Type 0 where
  pub any_moment : LeavesOnly old new (KeepsDisk old (AllOrNone log.half g bodies more))
  pub appended : OnOk result (EachCut new (KeepsDisk old (StandsAt (behind_records log more) g (with_bodies bodies more))))

-- whether the half of an epoch is open for it
pub record TellsHalf (epoch : ℕ) (bytes : List ℕ) (is_open : Bool) : Type 0 where
  pub present : IsTrue is_open → (rest : List ℕ) × IsOpenFor epoch bytes rest
  pub absent : IsFalse is_open → IsUnopened epoch bytes

-- the same, with the bytes from its first record's gate on: just a closed gate where it isn't open
pub record TellsEpoch (epoch : ℕ) (bytes : List ℕ) (is_open : Bool) (records : List ℕ) : Type 0 where
  pub present : IsTrue is_open → IsOpenFor epoch bytes records
  pub absent : IsFalse is_open → IsUnopened epoch bytes × (records ≡ 0 ∷ [])
