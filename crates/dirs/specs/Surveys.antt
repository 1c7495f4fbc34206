-- What a survey of all blocks of a directory tells.
use Rattle.std.specs.Prelude.{ℕ, ◌≡◌, ◌+◌, ◌*◌, ◌<◌, ◌≤◌, List, length, Option, Some, None, nat_le, if◌then◌else◌}
use Rattle.layout.specs.Directory.{Named}
use Rattle.entries.specs.Entries.{used_by}
use Rattle.layout.specs.DirectoryNames.{AllHold}
use Rattle.dirs.specs.Directory.{AreDirectoryBlocks, first_entries}
use Rattle.dirs.specs.Edits.{IsNamePlace}
use Rattle.dirs.specs.declared.edit.Place.{Place}
use Rattle.dirs.specs.declared.survey.Survey.{Survey}
use Rattle.model.specs.Paths.{Name}

-- the first block with room for so many bytes more, of the first so many
abbrev pub IsFirstRoom : (ℕ → List Named) → ℕ → ℕ → Option ℕ → Type 0
IsFirstRoom entries count bytes (Some i) =
    (i < count) × (used_by (entries i) + bytes ≤ 4096) × ((j : ℕ) → j < i → 4096 < used_by (entries j) + bytes)
IsFirstRoom entries count bytes None = (j : ℕ) → j < count → 4096 < used_by (entries j) + bytes

-- the first block with room, where another one has so many bytes with the entry that comes
abbrev pub next_room : ℕ → ℕ → Option ℕ → Option ℕ
next_room i bytes (Some first) = Some first
next_room i bytes None = if nat_le bytes 4096 then Some i else None

-- where a name stands, where another block has it for this number, or hasn't
abbrev pub next_place : ℕ → Option ℕ → Option Place → Option Place
next_place i number (Some first) = Some first
next_place i (Some number) None = Some (record { block = i; number = number })
next_place i None None = None

-- it counts the names of the first so many blocks, tells where one stands, and finds the first
-- block with room for so many bytes
pub record SurveysBlocks (inodes : ℕ) (block : ℕ → List ℕ) (count : ℕ) (name : Name) (bytes : ℕ) (s : Survey) : Type 0 where
  pub place : (entries : ℕ → List Named) → AllHold inodes count block entries → IsNamePlace entries count name s.place
  pub names : (entries : ℕ → List Named) → AllHold inodes count block entries → s.names ≡ length (first_entries entries count)
  pub room : (entries : ℕ → List Named) → AllHold inodes count block entries → IsFirstRoom entries count bytes s.room
  pub sound : AreDirectoryBlocks inodes count block

-- a block with room is one of the directory's; one without has 15 names in each block
abbrev pub IsBounded : ℕ → Survey → Option ℕ → Type 0
IsBounded count s (Some i) = i < count
IsBounded count s None = 15 * count ≤ s.names
