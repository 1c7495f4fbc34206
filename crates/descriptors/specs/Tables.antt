-- The table of open files, and the descriptors that it stands for.
pub use Rattle.descriptors.specs.Putting.{put_open}
use Rattle.std.specs.Prelude.{ℕ, ◌<◌, IsTrue, Option}
use Rattle.std.specs.Option.{option_map}
use Rattle.model.specs.Trees.{Description}
use Rattle.descriptors.specs.Files.{description_of}
use Rattle.descriptors.specs.Openings.{opened_files}
use Rattle.descriptors.specs.Shared.{has_room, shared_at}
use Rattle.descriptors.specs.Slots.{room_in, slot_at}
use Rattle.descriptors.specs.declared.open_file.OpenFile.{OpenFile}
use Rattle.descriptors.specs.declared.table.Descriptors.{Descriptors}

-- the open file of a descriptor, if it is open
abbrev pub open_at : Descriptors → ℕ → Option OpenFile
open_at table fd = opened_files (slot_at table.slots) (shared_at table.files) fd

-- the descriptors that a table stands for
abbrev pub table_of : Descriptors → ℕ → Option Description
table_of table fd = option_map description_of (open_at table fd)

-- a descriptor can be opened with no more memory
pub record HasRoom (table : Descriptors) (fd : ℕ) : Type 0 where
  pub slot : fd < room_in table.slots
  pub file : IsTrue (has_room table.files)

-- the descriptors that can be opened with no more memory still can
abbrev pub KeepsRoom : Descriptors → Descriptors → Type 0
KeepsRoom old new = (fd : ℕ) → HasRoom old fd → HasRoom new fd

-- a description with its offset at a place
abbrev pub at_place : ℕ → Description → Description
at_place place f = record f { offset = place }

-- descriptors with the offset of one of them moved
abbrev pub moved_to : ℕ → ℕ → (ℕ → Option Description) → ℕ → Option Description
moved_to fd place table = put_open fd (option_map (at_place place) (table fd)) table
