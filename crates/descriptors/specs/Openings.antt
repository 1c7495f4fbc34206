-- What descriptors are open by, and how many are open.
use Rattle.std.specs.Prelude.{ℕ, ◌+◌, ◌-◌, ◌*◌, ◌==◌, if◌then◌else◌, Bool, false, Option, Some, None, is_some, option_and_then}
use Rattle.std.specs.Option.{option_map}
use Rattle.model.specs.declared.limits.TheConstants.{OPEN_FILES}
use Rattle.descriptors.specs.Counts.{count_below}
use Rattle.descriptors.specs.declared.description.OpenDescription.{OpenDescription}
use Rattle.descriptors.specs.declared.open_file.OpenFile.{OpenFile}
use Rattle.descriptors.specs.declared.shared.SharedFile.{SharedFile}

-- what a descriptor is open by, together with what all descriptors of its file share
abbrev pub opened_file : OpenDescription → SharedFile → OpenFile
opened_file d f = record {
  number = d.number;
  offset = d.offset;
  access = d.access;
  appends = d.appends;
  size = f.size;
  links = f.links;
}

-- what a descriptor is open by for an open file
abbrev pub open_description : OpenFile → OpenDescription
open_description f = record {
  number = f.number;
  offset = f.offset;
  access = f.access;
  appends = f.appends;
}

-- the open files, by their descriptors and by their numbers
abbrev pub opened_files : (ℕ → Option OpenDescription) → (ℕ → Option SharedFile)
    → ℕ → Option OpenFile
opened_files slots files fd =
    option_and_then (λ d. option_map (opened_file d) (files d.number)) (slots fd)

-- a descriptor is open for the file with a number
abbrev pub is_for : Option OpenDescription → ℕ → Bool
is_for None n = false
is_for (Some d) n = d.number == n

-- how many descriptors are open for the file with a number
abbrev pub openings : (ℕ → Option OpenDescription) → ℕ → ℕ
openings slots n = count_below (λ fd. is_for (slots fd) n) OPEN_FILES

-- the same as it is kept with the file
abbrev pub kept_openings : Option SharedFile → ℕ
kept_openings None = 0
kept_openings (Some f) = f.openings

-- how many of the 256 descriptors from 256 * chunk on are open
abbrev pub open_of_chunk : (ℕ → Option OpenDescription) → ℕ → ℕ
open_of_chunk slots chunk = count_below (λ i. is_some (slots (256 * chunk + i))) 256

-- a file with a descriptor less, if one is left
abbrev pub less_opened : SharedFile → Option SharedFile
less_opened f = if f.openings == 1 then None else Some (record f { openings = f.openings - 1 })
