-- How long the body of each record is.
use Rattle.std.proofs.Common.{◌≡◌, ℕ, ◌+◌, ◌≤◌, Bool, true, false, List, length, Option, Some, None, arith}
use Rattle.std.specs.Prelude.{is_some}
use Rattle.std.proofs.lemmas.List.{length-append}
use Rattle.model.specs.declared.attributes.Permissions.{Permissions}
use Rattle.model.specs.declared.time.Time.{Time}
use Rattle.layout.specs.Permissions.{modified_bytes, permission_bytes}
use Rattle.layout.specs.Record.{Made, symbolic_link, Change, stamped, create, link, remove_name, rename, write, truncate, change_attributes, set_file, permissions_of_made, text_bytes, time_bytes, edit_bytes, change_bytes}
use Rattle.layout.proofs.NumberLaws.{length-little}

pub length-text_bytes : (permissions : Permissions) (text : List ℕ) → length (text_bytes (symbolic_link permissions text)) ≡ 2 + length text
length-text_bytes permissions text = simp (length-append, length-little) (omega arith)

-- ---- the time, and the fields

-- no time, or twelve bytes
pub length-time : (time : Time) → length (time_bytes (Some time)) ≡ 12
length-time time = simp (length-append, length-little) (omega arith)

pub few_time_bytes : (time : Option Time) → length (time_bytes time) ≤ 12
few_time_bytes None = omega arith
few_time_bytes (Some time) = omega (arith, length-time time)

-- permissions: ten bytes in an image whose objects have attributes, and two in another
pub length-permissions : (p : Permissions) → length (permission_bytes true p) ≡ 10
length-permissions p = simp (length-append, length-little) (omega arith)

pub length-mode : (p : Permissions) → length (permission_bytes false p) ≡ 2
length-mode p = simp length-little (omega arith)

pub few_permission_bytes : (has_attributes : Bool) (p : Permissions) → length (permission_bytes has_attributes p) ≤ 10
few_permission_bytes true p = omega (arith, length-permissions p)
few_permission_bytes false p = omega (arith, length-mode p)

pub some_permission_bytes : (has_attributes : Bool) (p : Permissions) → 2 ≤ length (permission_bytes has_attributes p)
some_permission_bytes true p = omega (arith, length-permissions p)
some_permission_bytes false p = omega (arith, length-mode p)

-- a time of data: twelve bytes there, and none in another
pub length-modified : (time : Time) → length (modified_bytes true time) ≡ 12
length-modified time = simp (length-append, length-little) (omega arith)

pub few_modified_bytes : (has_attributes : Bool) (time : Time) → length (modified_bytes has_attributes time) ≤ 12
few_modified_bytes true time = omega (arith, length-modified time)
few_modified_bytes false time = omega arith

pub fields-create : (has_attributes : Bool) (number parent : ℕ) (made : Made) (name : List ℕ)
    → length (edit_bytes has_attributes (create number parent made name)) ≡ 10 + length (permission_bytes has_attributes (permissions_of_made made)) + length name + length (text_bytes made)
fields-create has_attributes number parent made name = simp (length-append, length-little) (omega arith)

pub fields-link : (has_attributes : Bool) (number parent : ℕ) (name : List ℕ) → length (edit_bytes has_attributes (link number parent name)) ≡ 9 + length name
fields-link has_attributes number parent name = simp (length-append, length-little) (omega arith)

pub fields-remove_name : (has_attributes : Bool) (parent : ℕ) (name : List ℕ) → length (edit_bytes has_attributes (remove_name parent name)) ≡ 5 + length name
fields-remove_name has_attributes parent name = simp (length-append, length-little) (omega arith)

pub fields-rename : (has_attributes : Bool) (parent : ℕ) (name : List ℕ) (new_parent : ℕ) (new_name : List ℕ) → length (edit_bytes has_attributes (rename parent name new_parent new_name)) ≡ 10 + length name + length new_name
fields-rename has_attributes parent name new_parent new_name = simp (length-append, length-little) (omega arith)

pub fields-write : (has_attributes : Bool) (number offset : ℕ) (bytes : List ℕ) → length (edit_bytes has_attributes (write number offset bytes)) ≡ 16 + length bytes
fields-write has_attributes number offset bytes = simp (length-append, length-little) (omega arith)

pub fields-truncate : (has_attributes : Bool) (number size : ℕ) → length (edit_bytes has_attributes (truncate number size)) ≡ 12
fields-truncate has_attributes number size = simp (length-append, length-little) (omega arith)

pub fields-change_attributes : (has_attributes : Bool) (number : ℕ) (permissions : Permissions) (modified : Time) → length (edit_bytes has_attributes (change_attributes number permissions modified)) ≡ 4 + length (permission_bytes has_attributes permissions) + length (modified_bytes has_attributes modified)
fields-change_attributes has_attributes number permissions modified = simp (length-append, length-little) (omega arith)

pub fields-set_file : (has_attributes : Bool) (number mode size : ℕ) → length (edit_bytes has_attributes (set_file number mode size)) ≡ 14
fields-set_file has_attributes number mode size = simp (length-append, length-little) (omega arith)

-- ---- the body: its op, its time and its fields

pub length-change : (c : Change) → length (change_bytes c) ≡ 1 + length (time_bytes c.time) + length (edit_bytes (is_some c.time) c.edit)
length-change c = omega (arith, length-append (time_bytes c.time) (edit_bytes (is_some c.time) c.edit))

pub length-create : (time : Option Time) (number parent : ℕ) (made : Made) (name : List ℕ)
    → length (change_bytes (stamped time (create number parent made name))) ≡ 11 + length (permission_bytes (is_some time) (permissions_of_made made)) + length name + length (text_bytes made) + length (time_bytes time)
length-create time number parent made name = omega (arith, length-change (stamped time (create number parent made name)), fields-create (is_some time) number parent made name)

pub length-link : (time : Option Time) (number parent : ℕ) (name : List ℕ)
    → length (change_bytes (stamped time (link number parent name))) ≡ 10 + length name + length (time_bytes time)
length-link time number parent name = omega (arith, length-change (stamped time (link number parent name)), fields-link (is_some time) number parent name)

pub length-remove_name : (time : Option Time) (parent : ℕ) (name : List ℕ)
    → length (change_bytes (stamped time (remove_name parent name))) ≡ 6 + length name + length (time_bytes time)
length-remove_name time parent name = omega (arith, length-change (stamped time (remove_name parent name)), fields-remove_name (is_some time) parent name)

pub length-rename : (time : Option Time) (parent : ℕ) (name : List ℕ) (new_parent : ℕ) (new_name : List ℕ)
    → length (change_bytes (stamped time (rename parent name new_parent new_name))) ≡ 11 + length name + length new_name + length (time_bytes time)
length-rename time parent name new_parent new_name = omega (arith, length-change (stamped time (rename parent name new_parent new_name)), fields-rename (is_some time) parent name new_parent new_name)

pub length-write : (time : Option Time) (number offset : ℕ) (bytes : List ℕ)
    → length (change_bytes (stamped time (write number offset bytes))) ≡ 17 + length bytes + length (time_bytes time)
length-write time number offset bytes = omega (arith, length-change (stamped time (write number offset bytes)), fields-write (is_some time) number offset bytes)

pub length-truncate : (time : Option Time) (number size : ℕ)
    → length (change_bytes (stamped time (truncate number size))) ≡ 13 + length (time_bytes time)
length-truncate time number size = omega (arith, length-change (stamped time (truncate number size)), fields-truncate (is_some time) number size)

pub length-change_attributes : (time : Option Time) (number : ℕ) (permissions : Permissions) (modified : Time)
    → length (change_bytes (stamped time (change_attributes number permissions modified))) ≡ 5 + length (permission_bytes (is_some time) permissions) + length (modified_bytes (is_some time) modified) + length (time_bytes time)
length-change_attributes time number permissions modified = omega (arith, length-change (stamped time (change_attributes number permissions modified)), fields-change_attributes (is_some time) number permissions modified)

pub length-set_file : (time : Option Time) (number mode size : ℕ)
    → length (change_bytes (stamped time (set_file number mode size))) ≡ 15 + length (time_bytes time)
length-set_file time number mode size = omega (arith, length-change (stamped time (set_file number mode size)), fields-set_file (is_some time) number mode size)
