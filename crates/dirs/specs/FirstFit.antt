-- Where a new entry goes.
use Rattle.std.specs.Prelude.{ℕ, ◌≡◌, ◌≢◌, ◌+◌, ◌<◌, ◌≤◌, List, [], ◌∷◌, ◌++◌, length, max}
use Rattle.layout.specs.Directory.{Named, HoldsEntries, entry_bytes}
use Rattle.layout.specs.declared.TheConstants.{BLOCK_BYTES}
use Rattle.entries.specs.Entries.{used_by}

-- Of blocks that hold these entries, none past the first so many, the first one with room for
-- another entry gets it, behind its own: where all are full, a new last one. No other block
-- changes.
pub record IsFirstFit (inodes : ℕ) (e : Named) (entries : ℕ → List Named) (count more : ℕ) (old new : ℕ → List ℕ) : Type 0 where
  pub at : ℕ
  pub full : (i : ℕ) → i < at → BLOCK_BYTES < used_by (entries i) + length (entry_bytes e)
  pub room : used_by (entries at) + length (entry_bytes e) ≤ BLOCK_BYTES
  pub here : HoldsEntries inodes (new at) (entries at ++ e ∷ [])
  pub others : (i : ℕ) → i ≢ at → new i ≡ old i
  pub many : more ≡ max count (at + 1)
