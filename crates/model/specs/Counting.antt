-- How many things have a property.
use Rattle.std.specs.Prelude.{ℕ, zero, suc, ◌≢◌, ◌≤◌}

-- exactly so many things have a property: none of them, or one, and one fewer of the others
abbrev pub Counts : {A : Type 0} → (A → Type 0) → ℕ → Type 0
Counts P zero = (a : _) → ¬ P a
Counts P (suc count) = (a : _) × P a × Counts (λ b. P b × (b ≢ a)) count

-- at most so many things have a property
abbrev pub CountsUpTo : {A : Type 0} → ℕ → (A → Type 0) → Type 0
CountsUpTo limit P = (count : ℕ) × Counts P count × (count ≤ limit)
