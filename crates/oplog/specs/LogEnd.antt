-- Where the log ends, and what an append does to it.
use Rattle.std.specs.Prelude.{◌≡◌, ◌⊎◌, ℕ, ◌+◌, ◌≤◌, Bool, List, [], ◌∷◌, ◌++◌, length}
use Rattle.station.specs.Images.{Sector}
use Rattle.station.specs.Moments.{Meaning, EachCut}
use Rattle.layout.specs.Log.{half_of, records_of, IsOpenFor, HoldsBodies, IsUnopened, EpochHolds, LogHolds}
use Rattle.layout.specs.Record.{Change, change_bytes}
use Rattle.layout.specs.declared.geometry.TheConstants.{LEAST_HALF, MOST_HALF}
use Rattle.layout.specs.declared.log.TheConstants.{FIRST_GATE, RECORD_HEAD_BYTES}
use Rattle.oplog.specs.declared.log.End.{End}
use Rattle.oplog.specs.declared.log.End.TheVariants.{Unopened, At}

-- bytes of a half
abbrev pub AreHalfBytes : ℕ → Type 0
AreHalfBytes half = (LEAST_HALF ≤ half) × (half ≤ MOST_HALF)

-- where the next record goes: to this epoch, at this place of its half
pub record LogEnd : Type 0 where
  pub half : ℕ  -- bytes of a half
  pub epoch : ℕ
  pub end : End
  pub is_stopped : Bool  -- a write failed before

-- where the next record's gate stands in the half
abbrev pub next_of : End → ℕ
next_of Unopened = FIRST_GATE
next_of (At next) = next

-- a record with a body of this length and a closed gate behind it fit what is left of the half
abbrev pub HasRoomInHalf : LogEnd → ℕ → Type 0
HasRoomInHalf log body_length = next_of log.end + RECORD_HEAD_BYTES + body_length + 1 ≤ log.half

-- the end behind a record with this body
abbrev pub behind_record : LogEnd → List ℕ → LogEnd
behind_record log body = record log { end = At (next_of log.end + RECORD_HEAD_BYTES + length body) }

-- the end behind records with these bodies
abbrev pub behind_records : LogEnd → List (List ℕ) → LogEnd
behind_records log more = record log { end = At (next_of log.end + length (records_of more)) }

-- the body of a record
abbrev pub logged_body : Change → List ℕ
logged_body change = change_bytes change

-- the bodies that the log holds of the epoch that records go to now, and of the one before it
pub record Bodies : Type 0 where
  pub older : List (List ℕ)
  pub newest : List (List ℕ)

abbrev pub no_bodies : Bodies
no_bodies = record { older = []; newest = [] }

-- all of them in their order
abbrev pub all_bodies : Bodies → List (List ℕ)
all_bodies bodies = bodies.older ++ bodies.newest

-- with more behind them
abbrev pub with_bodies : Bodies → List (List ℕ) → Bodies
with_bodies bodies more = record bodies { newest = bodies.newest ++ more }

-- with one more
abbrev pub with_body : Bodies → List ℕ → Bodies
with_body bodies body = record bodies { newest = bodies.newest ++ body ∷ [] }

-- the half of this epoch holds these bodies, and ends behind them
abbrev pub EndsBehind : End → ℕ → List ℕ → List (List ℕ) → Type 0
EndsBehind Unopened epoch bytes bodies = IsUnopened epoch bytes × (bodies ≡ [])
EndsBehind (At next) epoch bytes bodies =
    (rest : List ℕ) × IsOpenFor epoch bytes rest × HoldsBodies rest bodies × (next ≡ FIRST_GATE + length (records_of bodies))

-- over a root of generation g, the other half holds these bodies: where records go to epoch g + 1,
-- it isn't open for the next one; where they go to epoch g + 2, it is the half of epoch g + 1
abbrev pub OtherHolds : LogEnd → ℕ → List ℕ → List (List ℕ) → Type 0
OtherHolds log g nvram older =
    ((log.epoch ≡ g + 1) × IsUnopened (g + 2) (half_of log.half (g + 2) nvram) × (older ≡ []))
    ⊎ ((log.epoch ≡ g + 2) × EpochHolds (g + 1) (half_of log.half (g + 1) nvram) older)

-- An NVRAM holds these bodies over a root of generation g, and the log ends behind them.
pub record StandsAt (log : LogEnd) (g : ℕ) (bodies : Bodies) (nvram : List ℕ) : Type 0 where
  pub holds : LogHolds log.half g nvram (all_bodies bodies)
  pub ends : EndsBehind log.end log.epoch (half_of log.half log.epoch nvram) bodies.newest
  pub other : OtherHolds log g nvram bodies.older

-- so does whatever a cut may leave
abbrev pub LogStands : Meaning → LogEnd → ℕ → Bodies → Type 0
LogStands m log g bodies = EachCut m (λ c. StandsAt log g bodies c.nvram)

-- the log holds these bodies, or one more
abbrev pub WithOrWithout : ℕ → ℕ → Bodies → List ℕ → List ℕ → Type 0
WithOrWithout half g bodies body nvram =
    LogHolds half g nvram (all_bodies bodies) ⊎ LogHolds half g nvram (all_bodies (with_body bodies body))

-- the log holds these bodies, or behind them all of some more
abbrev pub AllOrNone : ℕ → ℕ → Bodies → List (List ℕ) → List ℕ → Type 0
AllOrNone half g bodies more nvram =
    LogHolds half g nvram (all_bodies bodies) ⊎ LogHolds half g nvram (all_bodies (with_bodies bodies more))

-- over an honest station, reads give this disk
abbrev pub ReadsDisk : Meaning → (ℕ → Sector) → Type 0
ReadsDisk m disk = m.is_honest × (m.seen.disk ≡ disk)
