-- The part of a directory's names that a call tells.
use Rattle.std.specs.Prelude.{ℕ, ◌≡◌, ◌≢◌, ◌-◌, ◌<◌, ◌≤◌, List, length, map, All, Contains, filter, nat_lt, slice_index}
use Rattle.model.specs.Entries.{IsPart, cookie_of}
use Rattle.model.specs.Paths.{Name}
use Rattle.dirs.specs.declared.directory.NumberedName.{NumberedName}
use Rattle.dirs.specs.Listings.{listed_names}
use Rattle.calls.specs.declared.reading.part.ToldName.{ToldName}

-- the names that are told
abbrev pub told_names : List ToldName → List Name
told_names told = map (λ t. t.numbered.name.items) told

-- it is one of these names, with its cookie
pub record IsMarked (names : List NumberedName) (t : ToldName) : Type 0 where
  pub cookie : t.cookie ≡ cookie_of t.numbered.name.items
  pub named : Contains names t.numbered

-- a part of these names, each with its cookie and its number
pub record IsToldPart (names : List NumberedName) (after count : ℕ) (told : List ToldName) : Type 0 where
  pub part : IsPart (listed_names names) after count (told_names told)
  pub marked : All (IsMarked names) told

-- those of these names that stand behind a cookie
pub record AreBehind (names : List NumberedName) (after : ℕ) (told : List ToldName) : Type 0 where
  pub behind : told_names told ≡ filter (λ name. nat_lt after (cookie_of name)) (listed_names names)
  pub marked : All (IsMarked names) told

-- A part of names with these cookies in their order ends here: it has the first so many, and of
-- those behind them the ones with the last one's cookie.
pub record EndsPart (cookies : List ℕ) (count end : ℕ) : Type 0 where
  pub within : end ≤ length cookies
  pub same : (k : ℕ) → count ≤ k → k < end → slice_index cookies k ≡ slice_index cookies (count - 1)
  pub other : end < length cookies → (count ≤ end) × (slice_index cookies end ≢ slice_index cookies (count - 1))
