-- What telling a part of a directory's names over a path comes to.
use Rattle.std.specs.Prelude.{ℕ, ℤ, ◌≡◌, ◌||◌, ◌==◌, nat_lt, All, IsSome, List, [], ◌∷◌, Result, Ok, Err}
use Rattle.std.specs.Global.{Vec}
use Rattle.std.specs.List.{AllZip}
use Rattle.model.specs.Paths.{Tests}
use Rattle.model.specs.Reading.{is_negative}
use Rattle.model.specs.Volumes.{Volume}
use Rattle.model.specs.declared.entries.Entry.{Entry}
use Rattle.model.specs.declared.errno.Errno.{Errno}
use Rattle.model.specs.declared.errno.Errno.TheVariants.{EINVAL}
use Rattle.model.specs.declared.limits.TheConstants.{ENTRIES_TOLD}
use Rattle.model.specs.declared.reply.Reply.{Reply}
use Rattle.model.specs.declared.reply.Reply.TheVariants.{Entries, Refused}
use Rattle.calls.specs.Stat.{IsStatOf}
use Rattle.calls.specs.declared.reading.part.ToldName.{ToldName}

-- the tests of a cookie and of how many names are asked
abbrev pub part_tests : ℤ → ℕ → Tests
part_tests after count = (is_negative after || count == 0 || nat_lt ENTRIES_TOLD count, EINVAL) ∷ []

-- entries, or a refusal, as they are answered
abbrev pub entries_reply : Result (List Entry) Errno → Reply
entries_reply (Ok entries) = Entries entries
entries_reply (Err errno) = Refused errno

-- it is told of this name, by its number
pub record IsEntryOf (v : Volume) (name : ToldName) (e : Entry) : Type 0 where
  pub named : e.name ≡ name.numbered.name.items
  pub marked : e.cookie ≡ name.cookie
  pub told : IsStatOf name.numbered.number (v name.numbered.number) e.stat

-- the same where its number has an object
abbrev pub TellsName : Volume → ToldName → Result Entry Errno → Type 0
TellsName v name (Ok e) = IsEntryOf v name e
TellsName v name (Err errno) = IsSome (v name.numbered.number) → ⊥

-- the same of each of these names, in their order
abbrev pub TellsEach : Volume → List ToldName → Result (Vec Entry) Errno → Type 0
TellsEach v told (Ok entries) = AllZip (IsEntryOf v) told entries.items
TellsEach v told (Err errno) = All (λ name. IsSome (v name.numbered.number)) told → ⊥
