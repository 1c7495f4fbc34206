-- What each descriptor is open by.
use Rattle.std.specs.Prelude.{ℕ, slice_index_or, Option, None, vec_len}
use Rattle.descriptors.specs.declared.description.OpenDescription.{OpenDescription}
use Rattle.descriptors.specs.declared.slots.Slots.{Slots}

-- what a descriptor is open by, if it is open
abbrev pub slot_at : Slots → ℕ → Option OpenDescription
slot_at s fd = slice_index_or s.slots.items fd None

-- so many descriptors have memory
abbrev pub room_in : Slots → ℕ
room_in s = vec_len s.slots
