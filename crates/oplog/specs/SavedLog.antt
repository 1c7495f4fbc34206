-- What was read of the log.
use Rattle.std.specs.Prelude.{◌≡◌, ℕ, ◌+◌, ◌-◌, Bool, false, List, ◌++◌, length, if◌then◌else◌}
use Rattle.layout.specs.Log.{records_of, HoldsBodies, LogHolds}
use Rattle.oplog.specs.LogEnd.{LogEnd, Bodies, all_bodies, StandsAt}
use Rattle.oplog.specs.declared.log.End.TheVariants.{Unopened, At}

-- what was read of the half of an epoch: whether it is open for it, and the bytes from the first
-- record's gate on, just a closed gate where it isn't open
pub record SavedHalf : Type 0 where
  pub is_open : Bool
  pub records : List ℕ

-- what was read of the two epochs that follow a root of this generation
pub record Saved : Type 0 where
  pub half : ℕ  -- bytes of a half
  pub generation : ℕ
  pub first : SavedHalf
  pub second : SavedHalf

-- The log's end, where so many of the bytes that were read of each epoch stand from the closed gate
-- on: records go on in the newest epoch that is open.
abbrev pub end_of : Saved → ℕ → ℕ → LogEnd
end_of saved first_left second_left =
    if saved.second.is_open then record { half = saved.half; epoch = saved.generation + 2; end = At (saved.half - second_left); is_stopped = false }
    else if saved.first.is_open then record { half = saved.half; epoch = saved.generation + 1; end = At (saved.half - first_left); is_stopped = false }
    else record { half = saved.half; epoch = saved.generation + 1; end = Unopened; is_stopped = false }

-- these bytes hold these bodies, and so many of them are left from the closed gate on
pub record HoldsLeaving (records : List ℕ) (bodies : List (List ℕ)) (left : ℕ) : Type 0 where
  pub held : HoldsBodies records bodies
  pub left_is : left + length (records_of bodies) ≡ length records

-- the NVRAM holds these bodies over the root, and the log ends behind them
pub record StandsBehind (log : LogEnd) (g : ℕ) (nvram : List ℕ) (in_order : List (List ℕ)) : Type 0 where
  pub bodies : Bodies
  pub all : all_bodies bodies ≡ in_order
  pub stands : StandsAt log g bodies nvram

-- What was read tells the log over the root: its bytes hold just the records that the log holds,
-- and it ends where they do.
pub record TellsLog (nvram : List ℕ) (saved : Saved) : Type 0 where
  pub ends : (first second : List (List ℕ)) (first_left second_left : ℕ)
      → HoldsLeaving saved.first.records first first_left
      → HoldsLeaving saved.second.records second second_left
      → StandsBehind (end_of saved first_left second_left) saved.generation nvram (first ++ second)
  pub held : (bodies : List (List ℕ)) → LogHolds saved.half saved.generation nvram bodies
      → (first second : List (List ℕ)) × (bodies ≡ first ++ second)
      × HoldsBodies saved.first.records first × HoldsBodies saved.second.records second
