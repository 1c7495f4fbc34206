-- Reading the body of a record, before its limits are looked at.
use Rattle.std.specs.Prelude.{ℕ, Bool, List, length, Option, Some, None, ◌==◌, if◌then◌else◌}
use Rattle.model.specs.declared.attributes.Permissions.{Permissions}
use Rattle.model.specs.declared.time.Time.{Time}
use Rattle.layout.specs.Attributes.{time_read}
use Rattle.layout.specs.Permissions.{modified_read, permissions_read}
use Rattle.layout.specs.Trees.{has_attributes}
use Rattle.layout.specs.Reading.{◌>>=◌, number_read, counted_at, all_of}
use Rattle.layout.specs.Record.{Made, file, directory, symbolic_link, Change, stamped, Edit, create, link, remove_name, rename, write, truncate, change_attributes, set_file, create_head, link_fields, remove_name_fields, rename_fields, write_fields, truncate_fields, set_file_fields}
use Rattle.layout.specs.declared.trees.Layout.{Layout}
use Rattle.layout.specs.declared.trees.Layout.TheVariants.{Plain, Summed}

unfoldable pub link_in : List ℕ → Option Edit
link_in bytes = all_of link_fields.at bytes >>= λ v. Some (link v.0 v.1.0 v.1.1)

unfoldable pub remove_name_in : List ℕ → Option Edit
remove_name_in bytes = all_of remove_name_fields.at bytes >>= λ v. Some (remove_name v.0 v.1)

unfoldable pub rename_in : List ℕ → Option Edit
rename_in bytes = all_of rename_fields.at bytes >>= λ v. Some (rename v.0 v.1.0 v.1.1.0 v.1.1.1)

unfoldable pub write_in : List ℕ → Option Edit
write_in bytes = all_of write_fields.at bytes >>= λ v. Some (write v.0 v.1.0 v.1.1)

unfoldable pub truncate_in : List ℕ → Option Edit
truncate_in bytes = all_of truncate_fields.at bytes >>= λ v. Some (truncate v.0 v.1)

unfoldable pub change_attributes_in : Bool → List ℕ → Option Edit
change_attributes_in has_attributes bytes =
    number_read 4 bytes
    >>= λ x. permissions_read has_attributes x.1
    >>= λ p. modified_read has_attributes p.1
    >>= λ m. if length m.1 == 0 then Some (change_attributes x.0 p.0 m.0) else None

unfoldable pub set_file_in : List ℕ → Option Edit
set_file_in bytes = all_of set_file_fields.at bytes >>= λ v. Some (set_file v.0 v.1.0 v.1.1)

-- what is made, of this kind and with these permissions: only a link has more bytes
unfoldable pub made_in : ℕ → Permissions → List ℕ → Option Made
made_in kind permissions bytes =
    if kind == 1 then (if length bytes == 0 then Some (file permissions) else None)
    else (if kind == 2 then (if length bytes == 0 then Some (directory permissions) else None)
    else (if kind == 3 then (all_of (counted_at 2) bytes >>= λ text. Some (symbolic_link permissions text))
    else None))

unfoldable pub create_in : Bool → List ℕ → Option Edit
create_in has_attributes bytes =
    create_head.at bytes
    >>= λ x. permissions_read has_attributes x.1
    >>= λ p. counted_at 1 p.1
    >>= λ name. made_in x.0.1.1 p.0 name.1
    >>= λ made. Some (create x.0.0 x.0.1.0 made name.0)

-- the fields of this op, in an image whose objects have attributes or don't
unfoldable pub edit_in : Bool → ℕ → List ℕ → Option Edit
edit_in has_attributes op bytes =
    if op == 1 then create_in has_attributes bytes
    else (if op == 2 then link_in bytes
    else (if op == 3 then remove_name_in bytes
    else (if op == 4 then rename_in bytes
    else (if op == 5 then write_in bytes
    else (if op == 6 then truncate_in bytes
    else (if op == 7 then change_attributes_in has_attributes bytes
    else (if op == 8 then set_file_in bytes
    else None)))))))

-- the time that a record of this layout has, if any, and the bytes behind it
unfoldable pub time_in : Layout → List ℕ → Option (Option Time × List ℕ)
time_in Plain bytes = Some (None, bytes)
time_in Summed bytes = time_read bytes >>= λ x. Some (Some x.0, x.1)

unfoldable pub change_in : Layout → List ℕ → Option Change
change_in layout bytes =
    number_read 1 bytes >>= λ x.
    time_in layout x.1 >>= λ y.
    edit_in (has_attributes layout) x.0 y.1 >>= λ edit. Some (stamped y.0 edit)
