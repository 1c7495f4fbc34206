-- Where a walk ends, in the words of the model.
use Rattle.std.specs.Prelude.{ℕ}
use Rattle.model.specs.Finding as model
use Rattle.paths.specs.Numbers.{AreInodeNumbers}
use Rattle.paths.specs.Places.{model_place_of, IsPlaceWithin}
use Rattle.paths.specs.declared.walk.WalkEnd.{WalkEnd}
use Rattle.paths.specs.declared.walk.WalkEnd.TheVariants.{At, AtLink}

abbrev pub walk_end_of : WalkEnd → model.WalkEnd
walk_end_of (At place) = model.halts (model_place_of place)
walk_end_of (AtLink trail text rest) = model.halts_at_link trail text.items rest

-- each number that it tells is one of an object
abbrev pub IsWalkEndWithin : ℕ → WalkEnd → Type 0
IsWalkEndWithin inodes (At place) = IsPlaceWithin inodes place
IsWalkEndWithin inodes (AtLink trail text rest) = AreInodeNumbers inodes trail
