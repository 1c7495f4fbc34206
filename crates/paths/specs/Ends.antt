-- What stands where a walk along a path ends.
use Rattle.std.specs.Prelude.{◌≡◌, ◌≢◌, Bool, false, IsTrue, List, [], ◌∷◌, Some, None}
use Rattle.model.specs.Finding.{Place, at_directory, at_entry, at_missing, at_refusal, here}
use Rattle.model.specs.Paths.{Name, is_dot, is_dot_dot}
use Rattle.model.specs.Volumes.{Volume, entries}
use Rattle.paths.specs.Steps.{found_in}
use Rattle.paths.specs.declared.lookup.Found.TheVariants as found

-- a walk that names a directory by `.`, `..` or no part ends at one, and a last link that is
-- followed isn't where it ends
abbrev pub EndsWell : Volume → Bool → Place → Type 0
EndsWell v follow (at_directory trail) = found_in (v (here trail)) ≡ found.Directory
EndsWell v follow (at_entry trail x n) = IsTrue follow → found_in (v n) ≢ found.Link
EndsWell v follow (at_missing trail x) = Unit {0}
EndsWell v follow (at_refusal errno) = Unit {0}

-- the last of these parts is a name
abbrev pub EndsInName : List Name → Type 0
EndsInName [] = ⊥
EndsInName (x ∷ []) = (is_dot x ≡ false) × (is_dot_dot x ≡ false)
EndsInName (x ∷ (y ∷ rest)) = EndsInName (y ∷ rest)

-- a walk ends at a name of a directory, where anything stands there or nothing, or at a refusal
abbrev pub IsAtName : Place → Type 0
IsAtName (at_directory trail) = ⊥
IsAtName (at_entry trail x n) = Unit {0}
IsAtName (at_missing trail x) = Unit {0}
IsAtName (at_refusal errno) = Unit {0}

-- the directory at the end of the trail has this number at the name, or nothing
abbrev pub TellsName : Volume → Place → Type 0
TellsName v (at_directory trail) = Unit {0}
TellsName v (at_entry trail x n) = entries v (here trail) x ≡ Some n
TellsName v (at_missing trail x) = entries v (here trail) x ≡ None
TellsName v (at_refusal errno) = Unit {0}
