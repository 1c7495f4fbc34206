-- What is known of the blocks of a directory.
use Rattle.std.specs.Prelude.{ℕ, ◌≡◌, List, Some, slice_get}
use Rattle.entries.specs.Marks.{IsBlock, IsTally}
use Rattle.entries.specs.declared.known.Known.{Known}
use Rattle.entries.specs.declared.summary.Summary.{Summary}

-- a block is in its grammar, and a summary tells what its bytes do
pub record Summarizes (inodes : ℕ) (bytes : List ℕ) (s : Summary) : Type 0 where
  pub block : IsBlock inodes bytes
  pub tally : IsTally inodes bytes s.marks.value s.names s.used

-- each summary that there is tells of the block with its index
abbrev pub Knows : ℕ → (ℕ → List ℕ) → Known → Type 0
Knows inodes block k = (i : ℕ) (s : Summary) → slice_get k.summaries.items i ≡ Some (Some s) → Summarizes inodes (block i) s

-- blocks that are the same but for one
abbrev pub AreButOne : ℕ → (ℕ → List ℕ) → (ℕ → List ℕ) → Type 0
AreButOne i old new = (j : ℕ) → (j ≡ i → ⊥) → new j ≡ old j
