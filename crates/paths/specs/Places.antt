-- Where a path leads, in the words of the model.
use Rattle.std.specs.Prelude.{ℕ, ◌-◌, IsTrue, List, [], length, slice_index_or}
use Rattle.model.specs.Finding as model
use Rattle.model.specs.Paths.{Name}
use Rattle.paths.specs.Numbers.{IsInodeNumber, AreInodeNumbers}
use Rattle.paths.specs.Refusals.{is_walk_refusal}
use Rattle.paths.specs.declared.place.Place.{Place}
use Rattle.paths.specs.declared.place.Place.TheVariants.{Directory, Entry, Missing, Refusal}

abbrev pub model_place_of : Place → model.Place
model_place_of (Directory trail) = model.at_directory trail
model_place_of (Entry trail name number) = model.at_entry trail name.items number
model_place_of (Missing trail name) = model.at_missing trail name.items
model_place_of (Refusal errno) = model.at_refusal errno

-- each number that a place tells is one of an object, and a refusal one of a walk
abbrev pub IsPlaceWithin : ℕ → Place → Type 0
IsPlaceWithin inodes (Directory trail) = AreInodeNumbers inodes trail
IsPlaceWithin inodes (Entry trail name number) = AreInodeNumbers inodes trail × IsInodeNumber inodes number
IsPlaceWithin inodes (Missing trail name) = AreInodeNumbers inodes trail
IsPlaceWithin inodes (Refusal errno) = IsTrue (is_walk_refusal errno)

-- the last of these parts
abbrev pub last_of : List Name → Name
last_of parts = slice_index_or parts (length parts - 1) []
