-- Records that wait to be appended together.
use Rattle.std.specs.Prelude.{◌≡◌, ℕ, ◌+◌, ◌<◌, ◌≤◌, ◌^◌, List, [], ◌∷◌, ◌++◌, length, All}
use Rattle.layout.specs.Log.{records_of}
use Rattle.layout.specs.declared.log.TheConstants.{RECORD_HEAD_BYTES}
use Rattle.oplog.specs.LogEnd.{LogEnd, next_of}

-- what stands behind the gate of the first of these records: its length and body, then each further
-- one behind its gate, which is open, and then the next gate, closed
pub record AreBehind (more : List (List ℕ)) (bytes : List ℕ) : Type 0 where
  pub short : All (λ body. length body < 2 ^ 32) more
  pub spelled : 1 ∷ bytes ≡ records_of more ++ 0 ∷ []

-- a batch of these bytes is one of records with these bodies, in their order
abbrev pub IsBatchOf : List (List ℕ) → List ℕ → Type 0
IsBatchOf [] bytes = bytes ≡ []
IsBatchOf (body ∷ bodies) bytes = AreBehind (body ∷ bodies) bytes

-- a batch and the closed gate behind it fit what is left of the half
abbrev pub FitsHalf : LogEnd → List ℕ → Type 0
FitsHalf log batch = next_of log.end + length batch + 1 ≤ log.half

-- behind a batch a record with a body of this length and a closed gate fit what is left of the half
abbrev pub HasRoomBehind : LogEnd → List ℕ → ℕ → Type 0
HasRoomBehind log batch body_length = next_of log.end + length batch + RECORD_HEAD_BYTES + body_length + 1 ≤ log.half
