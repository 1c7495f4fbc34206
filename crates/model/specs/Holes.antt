-- Which blocks of a file are stored, and where its data and its holes are (SEEK_DATA and SEEK_HOLE of
-- lseek(), POSIX.1-2024). A block is 4,096 bytes: the byte at a place is in block place / 4096. What
-- isn't stored reads as zeros and takes no block.
use Rattle.std.specs.Prelude.{ℕ, ◌≡◌, ◌⊎◌, ◌*◌, ◌/◌, ◌<◌, ◌≤◌, Bool, not, IsTrue, IsFalse, Option, Some, None}
use Rattle.model.specs.Counting.{Counts}
use Rattle.model.specs.declared.reply.Extent.{Extent}

-- so many blocks of a file of this size are stored
abbrev pub CountsStored : (ℕ → Bool) → ℕ → ℕ → Type 0
CountsStored stored size count = Counts (λ k. (4096 * k < size) × IsTrue (stored k)) count

-- the first place from an offset on, before the end of a file of this size, in a block that passes a
-- test
pub record IsFirst (test : ℕ → Bool) (size offset place : ℕ) : Type 0 where
  pub from : offset ≤ place
  pub within : place < size
  pub passes : IsTrue (test (place / 4096))
  pub before : (p : ℕ) → offset ≤ p → p < place → IsFalse (test (p / 4096))

-- that place, or none where no byte from the offset on is in such a block
abbrev pub FindsFirst : (ℕ → Bool) → ℕ → ℕ → Option ℕ → Type 0
FindsFirst test size offset (Some place) = IsFirst test size offset place
FindsFirst test size offset None = (p : ℕ) → offset ≤ p → p < size → IsFalse (test (p / 4096))

-- The next hole: the first place in a block that isn't stored, or else the file's end, which counts
-- as a hole. At the end and beyond it there is none.
abbrev pub FindsHole : (ℕ → Bool) → ℕ → ℕ → Option ℕ → Type 0
FindsHole stored size offset (Some place) =
    IsFirst (λ k. not (stored k)) size offset place
    ⊎ ((offset < size) × (place ≡ size) × FindsFirst (λ k. not (stored k)) size offset None)
FindsHole stored size offset None = size ≤ offset

-- what is told of a file of this size with these blocks stored, from an offset on
pub record TellsExtent (stored : ℕ → Bool) (size offset : ℕ) (extent : Extent) : Type 0 where
  pub blocks : CountsStored stored size extent.blocks
  pub next_data : FindsFirst stored size offset extent.data
  pub next_hole : FindsHole stored size offset extent.hole
