-- What a record says of a tree.
use Rattle.std.specs.Prelude.{ℕ, ◌≡◌, Option, Some, None, [], ◌∷◌, ◌++◌}
use Rattle.model.specs.Paths.{Path}
use Rattle.model.specs.Trees.{Tree}
use Rattle.model.specs.Trees as trees
use Rattle.model.specs.Touches.{touches_entry, touches_move, touches_object}
use Rattle.model.specs.declared.attributes.Touch.TheVariants.{Data, Status}
use Rattle.model.specs.declared.time.Time.{Time}
use Rattle.model.specs.Attributes.{set_given}
use Rattle.model.specs.Edits.{changing_attributes, contents, resized, written, with_object, without_object, with_mode, with_bytes, with_directory, with_file, with_symlink, moved, marked, number_at_path, IsSwept}
use Rattle.model.specs.Volumes.{Volume}
use Rattle.model.specs.Records.{Made, file, directory, symbolic_link, Change, Edit, create, link, remove_name, rename, write, truncate, change_attributes, set_file}

-- the directory of this number stands at the path
abbrev pub IsAt : Tree → Path → ℕ → Type 0
IsAt t p n = t.objects p ≡ Some (trees.directory n)

-- the tree with what a record makes at a path, under this number
abbrev pub with_made : Made → Path → ℕ → Tree → Tree
with_made (file permissions) p n = with_file p n permissions
with_made (directory permissions) p n = with_directory p n permissions
with_made (symbolic_link permissions text) p n = with_symlink p n permissions text

-- a record leads from one tree to the other, told by paths and in the words of the calls
abbrev pub ChangesBy : Option Time → Edit → Tree → Tree → Type 0
ChangesBy time (create number parent made name) old new =
    (p : Path) × IsAt old p parent
    × (new ≡ marked time (touches_entry Data (Some number) (Some parent)) (with_made made (p ++ name ∷ []) number old))
ChangesBy time (link number parent name) old new =
    (p : Path) × IsAt old p parent
    × (new ≡ marked time (touches_entry Status (Some number) (Some parent)) (with_object (p ++ name ∷ []) (trees.file number) old))
ChangesBy time (remove_name parent name) old new =
    (p : Path) × IsAt old p parent
    × IsSwept (marked time (touches_entry Status (number_at_path old (p ++ name ∷ [])) (Some parent)) (without_object (p ++ name ∷ []) old)) new
ChangesBy time (rename parent name new_parent new_name) old new =
    (p q : Path) × IsAt old p parent × IsAt old q new_parent
    × IsSwept
    (marked time (touches_move (number_at_path old (p ++ name ∷ [])) (number_at_path old (q ++ new_name ∷ [])) (Some parent) (Some new_parent))
    (moved (p ++ name ∷ []) (q ++ new_name ∷ []) old)) new
ChangesBy time (write number offset bytes) old new =
    new ≡ marked time (touches_object Data number) (with_bytes number (written offset bytes (contents old number)) old)
ChangesBy time (truncate number size) old new =
    new ≡ marked time (touches_object Data number) (with_bytes number (resized size (contents old number)) old)
ChangesBy time (change_attributes number permissions modified) old new =
    new ≡ marked time (touches_object Status number) (changing_attributes number (set_given permissions modified) old)
ChangesBy time (set_file number mode size) old new =
    new ≡ marked time (touches_object Data number) (with_mode number mode (with_bytes number (resized size (contents old number)) old))

abbrev pub ChangesTree : Change → Tree → Tree → Type 0
ChangesTree change old new = ChangesBy change.time change.edit old new

-- what a record makes takes a number that no object has
abbrev pub TakesFree : Volume → Edit → Type 0
TakesFree v (create number parent made name) = v number ≡ None
TakesFree v edit = Unit {0}

abbrev pub TakesFreeNumber : Volume → Change → Type 0
TakesFreeNumber v change = TakesFree v change.edit
