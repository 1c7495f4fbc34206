-- The body of a record of the log.
use Rattle.std.specs.Prelude.{ℕ, ◌≡◌, ◌≤◌, ◌<◌, ◌^◌, List, [], ◌∷◌, ◌++◌, length, Bool, true, false, Option, Some, None, is_some}
use Rattle.layout.specs.Attributes.{time_fields, time_told}
use Rattle.layout.specs.Bytes.{IsBytes, little}
use Rattle.layout.specs.Format.{Format, num, counted, mode_bits, ◌▸◌}
use Rattle.layout.specs.Permissions.{modified_bytes, permission_bytes}
use Rattle.model.specs.Attributes.{FitAttributes, IsTime, given_attributes, new_attributes}
use Rattle.model.specs.declared.attributes.Permissions.{Permissions}
use Rattle.model.specs.Paths.{IsName}
pub use Rattle.model.specs.Records.{Made, file, directory, symbolic_link, Change, stamped, Edit, create, link, remove_name, rename, write, truncate, change_attributes, set_file}
use Rattle.layout.specs.LinkText.{IsLinkText}
use Rattle.layout.specs.declared.limits.TheConstants.{PATH_BYTES}
use Rattle.model.specs.declared.limits.TheConstants.{LINK_MODE, TRANSFER_BYTES}
use Rattle.model.specs.declared.time.Time.{Time}
use Rattle.layout.specs.declared.record.Edit.{Edit as RecordEdit}
use Rattle.layout.specs.declared.record.Edit.TheVariants as edits
use Rattle.layout.specs.declared.record.NewObject.{NewObject}
use Rattle.layout.specs.declared.record.NewObject.TheVariants as objects
use Rattle.layout.specs.declared.record.Record.{Record}

-- the kind, the permissions, and what stands behind the name
abbrev pub kind_of_made : Made → ℕ
kind_of_made (file permissions) = 1
kind_of_made (directory permissions) = 2
kind_of_made (symbolic_link permissions text) = 3

abbrev pub permissions_of_made : Made → Permissions
permissions_of_made (file permissions) = permissions
permissions_of_made (directory permissions) = permissions
permissions_of_made (symbolic_link permissions text) = permissions

-- a name behind its length
abbrev pub name_bytes : List ℕ → List ℕ
name_bytes name = (counted 1).text name

abbrev pub text_bytes : Made → List ℕ
text_bytes (file permissions) = []
text_bytes (directory permissions) = []
text_bytes (symbolic_link permissions text) = (counted 2).text text

-- The fields behind the op, in their order.
abbrev pub create_head : Format (ℕ × (ℕ × ℕ))
create_head = num 4 ▸ num 4 ▸ num 1  -- number, parent, kind; then the permissions, the name and the text

abbrev pub link_fields : Format (ℕ × (ℕ × List ℕ))
link_fields = num 4 ▸ num 4 ▸ counted 1  -- number, parent, name

abbrev pub remove_name_fields : Format (ℕ × List ℕ)
remove_name_fields = num 4 ▸ counted 1  -- parent, name

abbrev pub rename_fields : Format (ℕ × (List ℕ × (ℕ × List ℕ)))
rename_fields = num 4 ▸ counted 1 ▸ num 4 ▸ counted 1  -- parent, name, new parent, new name

abbrev pub write_fields : Format (ℕ × (ℕ × List ℕ))
write_fields = num 4 ▸ num 8 ▸ counted 4  -- number, offset, bytes

abbrev pub truncate_fields : Format (ℕ × ℕ)
truncate_fields = num 4 ▸ num 8  -- number, size

abbrev pub set_file_fields : Format (ℕ × (ℕ × ℕ))
set_file_fields = num 4 ▸ mode_bits ▸ num 8  -- number, mode, size

-- what a record does: a number
abbrev pub op_of : Edit → ℕ
op_of (create number parent made name) = 1
op_of (link number parent name) = 2
op_of (remove_name parent name) = 3
op_of (rename parent name new_parent new_name) = 4
op_of (write number offset bytes) = 5
op_of (truncate number size) = 6
op_of (change_attributes number permissions modified) = 7
op_of (set_file number mode size) = 8

-- and the fields of it, in an image whose objects have attributes or don't
abbrev pub edit_bytes : Bool → Edit → List ℕ
edit_bytes has_attributes (create number parent made name) =
    create_head.text (number, (parent, kind_of_made made))
    ++ (permission_bytes has_attributes (permissions_of_made made) ++ (name_bytes name ++ text_bytes made))
edit_bytes has_attributes (link number parent name) = link_fields.text (number, (parent, name))
edit_bytes has_attributes (remove_name parent name) = remove_name_fields.text (parent, name)
edit_bytes has_attributes (rename parent name new_parent new_name) =
    rename_fields.text (parent, (name, (new_parent, new_name)))
edit_bytes has_attributes (write number offset bytes) = write_fields.text (number, (offset, bytes))
edit_bytes has_attributes (truncate number size) = truncate_fields.text (number, size)
edit_bytes has_attributes (change_attributes number permissions modified) =
    little 4 number ++ (permission_bytes has_attributes permissions ++ modified_bytes has_attributes modified)
edit_bytes has_attributes (set_file number mode size) = set_file_fields.text (number, (mode, size))

-- the time of a record, as an inode has times
abbrev pub time_bytes : Option Time → List ℕ
time_bytes None = []
time_bytes (Some time) = time_fields.text (time_told time)

-- the one spelling of each record: its op, its time where it has one, and its fields
abbrev pub change_bytes : Change → List ℕ
change_bytes c = op_of c.edit ∷ (time_bytes c.time ++ edit_bytes (is_some c.time) c.edit)

-- the limits of what a record says
abbrev pub KeepsMadeLimits : Made → Type 0
KeepsMadeLimits (file permissions) = Unit {0}
KeepsMadeLimits (directory permissions) = Unit {0}
KeepsMadeLimits (symbolic_link permissions text) = (permissions.mode ≡ LINK_MODE) × IsLinkText PATH_BYTES text

abbrev pub KeepsEditLimits : Edit → Type 0
KeepsEditLimits (create number parent made name) = KeepsMadeLimits made × IsName name
KeepsEditLimits (link number parent name) = IsName name
KeepsEditLimits (remove_name parent name) = IsName name
KeepsEditLimits (rename parent name new_parent new_name) = IsName name × IsName new_name
KeepsEditLimits (write number offset bytes) = (1 ≤ length bytes) × (length bytes ≤ TRANSFER_BYTES)
KeepsEditLimits (truncate number size) = Unit {0}
KeepsEditLimits (change_attributes number permissions modified) = Unit {0}
KeepsEditLimits (set_file number mode size) = Unit {0}

abbrev pub KeepsLimits : Change → Type 0
KeepsLimits c = KeepsEditLimits c.edit

-- each value fits its field
abbrev pub FitsEditFields : Edit → Type 0
FitsEditFields (create number parent made name) = (number < 2 ^ 32) × (parent < 2 ^ 32)
FitsEditFields (link number parent name) = link_fields.Fits (number, (parent, name))
FitsEditFields (remove_name parent name) = remove_name_fields.Fits (parent, name)
FitsEditFields (rename parent name new_parent new_name) = rename_fields.Fits (parent, (name, (new_parent, new_name)))
FitsEditFields (write number offset bytes) = write_fields.Fits (number, (offset, bytes)) × IsBytes bytes
FitsEditFields (truncate number size) = truncate_fields.Fits (number, size)
FitsEditFields (change_attributes number permissions modified) = number < 2 ^ 32
FitsEditFields (set_file number mode size) = set_file_fields.Fits (number, (mode, size))

abbrev pub FitsFields : Change → Type 0
FitsFields c = FitsEditFields c.edit

-- what a record gives an object fits an image whose objects have attributes, or the mode alone
abbrev pub FitsAttributes : Bool → Edit → Type 0
FitsAttributes has_attributes (create number parent made name) =
    FitAttributes has_attributes (new_attributes (permissions_of_made made))
FitsAttributes has_attributes (change_attributes number permissions modified) =
    FitAttributes has_attributes (given_attributes permissions modified)
FitsAttributes has_attributes edit = Unit {0}

-- a record has a time in an image whose inodes have times, and in no other
abbrev pub FitsTime : Bool → Option Time → Type 0
FitsTime false None = Unit {0}
FitsTime false (Some time) = ⊥
FitsTime true None = ⊥
FitsTime true (Some time) = IsTime time

-- what can stand in the log of an image whose objects have attributes, or the mode alone
pub record IsChange (has_attributes : Bool) (c : Change) : Type 0 where
  pub time : FitsTime has_attributes c.time
  pub limits : KeepsLimits c
  pub fields : FitsFields c
  pub attributes : FitsAttributes has_attributes c.edit

-- a record without where its bytes lie in memory
abbrev pub made_of : NewObject → Made
made_of (objects.File permissions) = file permissions
made_of (objects.Directory permissions) = directory permissions
made_of (objects.Link permissions text) = symbolic_link permissions text.now

abbrev pub edit_of : RecordEdit → Edit
edit_of (edits.Create number parent object name) = create number parent (made_of object) name.now
edit_of (edits.Link number parent name) = link number parent name.now
edit_of (edits.RemoveName parent name) = remove_name parent name.now
edit_of (edits.Rename parent name new_parent new_name) = rename parent name.now new_parent new_name.now
edit_of (edits.Write number offset bytes) = write number offset bytes.now
edit_of (edits.Truncate number size) = truncate number size
edit_of (edits.ChangeAttributes number permissions modified) = change_attributes number permissions modified
edit_of (edits.SetFile number mode size) = set_file number mode size

abbrev pub change_of : Record → Change
change_of r = stamped r.time (edit_of r.edit)

-- the body of a record: its bytes in the log
abbrev pub body_of : Record → List ℕ
body_of r = change_bytes (change_of r)

-- what stands behind the name of what a record makes
abbrev pub text_of : NewObject → List ℕ
text_of object = text_bytes (made_of object)
