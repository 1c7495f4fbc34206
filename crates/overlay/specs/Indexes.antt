-- Planned blocks by their places.
use Rattle.std.specs.Prelude.{ℕ, ◌≡◌, ◌≢◌, ◌<◌, List, All, Contains, length, get_or}
use Rattle.std.specs.List.Sorted.{IsNonDecreasingBy}
use Rattle.buffers.specs.declared.block.Block.{Block}
use Rattle.conspoint.specs.declared.plan.PlannedBlock.{PlannedBlock}
use Rattle.conspoint.specs.Finished.{IsAbsent}
use Rattle.overlay.specs.declared.pending.Entry.{Entry}

-- one of these blocks is this one, at this place
abbrev pub IsAt : List PlannedBlock → ℕ → Block → Type 0
IsAt blocks place block = Contains blocks (record { place = place; bytes = block })

-- an entry leads to one of these blocks, which has its place
abbrev pub Leads : List PlannedBlock → Entry → Type 0
Leads blocks e = (e.nth < length blocks) × ((d : PlannedBlock) → (get_or blocks e.nth d).place ≡ e.place)

-- entries in the order of their places, each of which leads to a block; a place that none has no
-- block has
pub record IsIndex (index : List Entry) (blocks : List PlannedBlock) : Type 0 where
  pub rising : IsNonDecreasingBy (λ e. e.place) index
  pub leads : All (Leads blocks) index
  pub complete : (place : ℕ) → All (λ e. e.place ≢ place) index → IsAbsent blocks place
