-- What the readers of a half's header and of a record's gate answer.
use Rattle.std.specs.Prelude.{◌≡◌, ◌≢◌, ℕ, ◌<◌, ◌^◌, List, ◌∷◌, ◌++◌, length, Option, Some, None}
use Rattle.layout.specs.declared.log.Header.{Header}
use Rattle.layout.specs.declared.log.Header.TheVariants as header
use Rattle.layout.specs.declared.log.Gate.{Gate}
use Rattle.layout.specs.declared.log.Gate.TheVariants as gate
use Rattle.layout.specs.Log.{opened, record_of, IsClosed, HoldsBodies}

-- what a half's first nine bytes say: nothing where they begin with no gate
abbrev pub HeaderIs : List ℕ → Option Header → Type 0
HeaderIs bytes (Some header.Closed) = IsClosed bytes
HeaderIs bytes (Some (header.Open epoch)) = bytes ≡ opened epoch
HeaderIs bytes None = (byte : ℕ) (rest : List ℕ) → bytes ≡ byte ∷ rest → (byte ≢ 0) × (byte ≢ 1)

-- what stands at a record's gate: malformed bytes hold no records at all
abbrev pub GateIs : List ℕ → Gate → Type 0
GateIs bytes gate.Closed = IsClosed bytes
GateIs bytes (gate.Open body rest) = (length body.now < 2 ^ 32) × (bytes ≡ record_of body.now ++ rest.now)
GateIs bytes gate.Malformed = (bodies : List (List ℕ)) → HoldsBodies bytes bodies → ⊥
