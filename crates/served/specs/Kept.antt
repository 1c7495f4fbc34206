-- Replies that are kept.
use Rattle.std.specs.Prelude.{ℕ, ◌-◌, ◌≤◌, List, [], ◌∷◌, take, drop, Result, Ok, Err}
use Rattle.fuse.specs.Replies.{error_text}
use Rattle.model.specs.declared.errno.Errno.{Errno}
use Rattle.model.specs.declared.errno.Errno.TheVariants as errno
use Rattle.served.specs.Replying.{linux_number}
use Rattle.served.specs.declared.kept.Place.{Place}

-- a reply to the request of this number; no bytes where it has none
pub record Owed : Type 0 where
  pub unique : ℕ
  pub text : List ℕ

abbrev pub owed : ℕ → List ℕ → Owed
owed unique text = record { unique = unique; text = text }

-- the reply that lies at a place among these bytes
abbrev pub owed_at : List ℕ → Place → Owed
owed_at bytes p = owed p.unique (take (p.end - p.begin) (drop p.begin bytes))

-- the places lie within so many bytes
abbrev pub AreWithin : ℕ → List Place → Type 0
AreWithin count [] = Unit {0}
AreWithin count (p ∷ places) = (p.begin ≤ p.end) × (p.end ≤ count) × AreWithin count places

-- what goes in the place of a reply to the request of this number, where that failed
abbrev pub lost_by : ℕ → List ℕ → List ℕ
lost_by unique [] = []
lost_by unique text = error_text unique (linux_number errno.EIO)

-- what is told behind a commit that came to this
abbrev pub owed_behind : Result (Unit {0}) Errno → Owed → List ℕ
owed_behind (Ok done) o = o.text
owed_behind (Err why) o = lost_by o.unique o.text
