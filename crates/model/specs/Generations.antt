-- Generations: how often a number was given to a new object since the mount. With its generation a
-- number that comes again is told from the one before.
use Rattle.std.specs.Prelude.{ℕ, ◌≡◌, ◌⊎◌, ◌+◌, nat_lt, if◌then◌else◌}
use Rattle.model.specs.declared.limits.TheConstants.{GREATEST_GENERATION}
use Rattle.model.specs.Trees.{Tree, IsUsed}

-- the next generation; behind the greatest one there is no other
abbrev pub next_generation : ℕ → ℕ
next_generation generation = if nat_lt generation GREATEST_GENERATION then generation + 1 else generation

-- A command leads from one tree to the other: a number that it gives to a new object gets its next
-- generation, and each other number keeps its own.
pub record GivesNumbers (s t : Tree) (old new : ℕ → ℕ) : Type 0 where
  pub given : (n : ℕ) → ¬ IsUsed s n → IsUsed t n → new n ≡ next_generation (old n)
  pub kept : (n : ℕ) → IsUsed s n ⊎ ¬ IsUsed t n → new n ≡ old n

-- each number gets its next generation, as its object may be another one: `snap restore` does it
abbrev pub GivesAll : (ℕ → ℕ) → (ℕ → ℕ) → Type 0
GivesAll old new = (n : ℕ) → new n ≡ next_generation (old n)
