-- Records that wait to be put into the log, as contracts see them.
use Rattle.std.specs.Prelude.{ℕ, ◌*◌, ◌≤◌, List, [], length}
use Rattle.oplog.specs.Batches.{IsBatchOf}
use Rattle.replay.specs.declared.costs.TheConstants.{MOST_COST}

-- the bytes of their batch, and the blocks that a consistency point may store for them
pub record Waits : Type 0 where
  pub batch : List ℕ
  pub pledged : ℕ

-- none waits
abbrev pub none_waits : Waits
none_waits = record { batch = []; pledged = 0 }

-- these bytes are a batch of records, which cost no more than so many bytes of records can
pub record AreWaiting (batch : List ℕ) (pledged : ℕ) : Type 0 where
  pub bodies : List (List ℕ)
  pub are : IsBatchOf bodies batch
  pub few : pledged ≤ MOST_COST * length batch
