-- A directory told in parts, in the order of its names' cookies.
use Rattle.std.specs.Prelude.{ℕ, ◌≡◌, ◌↔◌, ◌≤◌, ◌/◌, ◌&&◌, nat_lt, max, Bool, IsTrue, List, [], ◌∷◌, ◌++◌, length, take, filter, Contains, Some}
use Rattle.std.specs.Int.{from_be_bytes, w64}
use Rattle.std.specs.Ordering.{nat_cmp}
use Rattle.std.specs.declared.cmp.Ordering.{Ordering}
use Rattle.std.specs.Cmp.Lexicographic.{slice_cmp}
use Rattle.std.specs.List.Sorted.{IsStrictlySortedBy}
use Rattle.md5.specs.Md5.{md5}
use Rattle.model.specs.declared.entries.Entry.{Entry}
use Rattle.model.specs.Paths.{Name, Path}
use Rattle.model.specs.Trees.{Tree, Object}
use Rattle.model.specs.Outcomes.{Outcome, HasLinks}
use Rattle.model.specs.Stats.{stat_of}

-- the cookie of a name, which depends on its bytes alone: the first eight bytes of its MD5 as a
-- number, the highest first, without the last two bits, but 4 at the least
abbrev pub cookie_of : Name → ℕ
cookie_of name = max (from_be_bytes w64 (take 8 (md5 name)) / 4) 4

-- names in the order of their cookies, and those of one cookie by their bytes
abbrev pub cookie_cmp : Name → Name → Ordering
cookie_cmp a b = slice_cmp nat_cmp (cookie_of a ∷ a) (cookie_of b ∷ b)

-- a name stands behind one cookie and before another
abbrev pub is_between : ℕ → ℕ → Name → Bool
is_between after before name = nat_lt after (cookie_of name) && nat_lt (cookie_of name) before

-- of these names, a part of so many behind a cookie tells a name behind it that has fewer between
-- the cookie and its own: so a part has all names of a cookie or none, and as many as asked where
-- there are as many
abbrev pub is_told : List Name → ℕ → ℕ → Name → Bool
is_told names after count name =
    nat_lt after (cookie_of name) && nat_lt (length (filter (is_between after (cookie_of name)) names)) count

-- the names that a part tells of these, in the order of their cookies, each once
pub record IsPart (names : List Name) (after count : ℕ) (told : List Name) : Type 0 where
  pub sorted : IsStrictlySortedBy cookie_cmp told
  pub whole : (name : Name) → Contains told name ↔ (Contains names name × IsTrue (is_told names after count name))

-- what is told of a name in the directory at a path: its cookie, and what `lstat` tells
pub record TellsEntry (t : Tree) (p : Path) (x : Name) (e : Entry) : Type 0 where
  pub name : e.name ≡ x
  pub cookie : e.cookie ≡ cookie_of x
  pub object : Object
  pub there : t.objects (p ++ x ∷ []) ≡ Some object
  pub links : HasLinks t object e.stat.links
  pub stat : e.stat ≡ stat_of t object e.stat.links

-- the same of each of these names, in their order
abbrev pub TellsEntries : Tree → Path → List Name → List Entry → Type 0
TellsEntries t p [] [] = Unit {0}
TellsEntries t p (name ∷ names) (e ∷ entries) = TellsEntry t p name e × TellsEntries t p names entries
TellsEntries t p _ _ = ⊥

-- a call goes on with what is told of a part of a directory's names
abbrev pub with_part : Tree → Path → List Name → ℕ → ℕ → (List Entry → Outcome) → Outcome
with_part t p names after count rest reply new need =
    (told : List Name) × (entries : List Entry) × IsPart names after count told × TellsEntries t p told entries
    × rest entries reply new need

-- a part as it was told: the directory's names by then, how many were asked, and what was told
pub record Part : Type 0 where
  pub names : List Name
  pub count : ℕ
  pub told : List Name

-- the cookie behind which the next part begins
abbrev pub end_of : ℕ → List Name → ℕ
end_of after [] = after
end_of after (name ∷ told) = end_of (cookie_of name) told

-- parts told one after the other, each behind the one before
abbrev pub AreTold : ℕ → List Part → Type 0
AreTold after [] = Unit {0}
AreTold after (part ∷ parts) =
    (1 ≤ part.count) × IsPart part.names after part.count part.told × AreTold (end_of after part.told) parts
