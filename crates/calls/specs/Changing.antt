-- What calls by a path that change something come to.
use Rattle.std.specs.Prelude.{ℕ, ◌≡◌, Option, Some, None, Result, Ok, Err}
use Rattle.model.specs.declared.limits.Limits.{Limits}
use Rattle.model.specs.Outcomes.{Outcome}
use Rattle.model.specs.Records.{Change, Edit, Made, Applies, applied, stamped, create, file, directory, symbolic_link, link, remove_name, rename, truncate, change_attributes, set_file, work_of}
use Rattle.model.specs.Room.{nothing, logs}
use Rattle.model.specs.Trees.{Description}
use Rattle.model.specs.Volumes.{Volume, IsMounted, swept, tree_of}
use Rattle.model.specs.declared.errno.Errno.{Errno}
use Rattle.model.specs.declared.limits.TheConstants.{LINK_MODE}
use Rattle.model.specs.declared.reply.Reply.TheVariants.{Done, Refused}
use Rattle.records.specs.Obstacles.{IsObstacle}
use Rattle.calls.specs.declared.changed.Changing.{Changing}
use Rattle.calls.specs.declared.changed.OwnedChange.{OwnedChange}
use Rattle.calls.specs.declared.changed.OwnedChange.TheVariants as owned
use Rattle.calls.specs.declared.made.Creation.{Creation}
use Rattle.calls.specs.declared.made.OwnedObject.{OwnedObject}
use Rattle.calls.specs.declared.made.OwnedObject.TheVariants as objects

-- what a call makes
abbrev pub made_by : OwnedObject → Made
made_by (objects.File permissions) = file permissions
made_by (objects.Directory permissions) = directory permissions
made_by (objects.Link owner group text) =
    symbolic_link (record { mode = LINK_MODE; owner = owner; group = group }) text.bytes.items

-- what the record of a new object does
abbrev pub creation_of : Creation → Edit
creation_of c = create c.number c.parent (made_by c.object) c.name.bytes.items

-- what a record does
abbrev pub said_by : OwnedChange → Edit
said_by (owned.Create creation) = creation_of creation
said_by (owned.Link number parent name) = link number parent name.bytes.items
said_by (owned.RemoveName parent name) = remove_name parent name.bytes.items
said_by (owned.Rename parent name new_parent new_name) = rename parent name.bytes.items new_parent new_name.bytes.items
said_by (owned.ChangeAttributes number permissions modified) = change_attributes number permissions modified
said_by (owned.Truncate number size) = truncate number size
said_by (owned.SetFile number mode size) = set_file number mode size

-- what a record says: what it does, and when
abbrev pub change_by : Changing → Change
change_by c = stamped c.time (said_by c.change)

-- A call comes to what this record, which applies, does on the tree of a volume with these
-- descriptors, and needs room for it. Behind it nothing is to be swept.
abbrev pub ComesBy : Outcome → Limits → Volume → (ℕ → Option Description) → Change → Type 0
ComesBy outcome limits v table change =
    Applies limits v change × IsMounted (applied change v) table × outcome Done (tree_of (applied change v) table) (logs (work_of v change))

-- The same, but that a file may be left with neither name nor descriptor, which is then dropped.
abbrev pub ComesSweptBy : Outcome → Limits → Volume → (ℕ → Option Description) → Change → Type 0
ComesSweptBy outcome limits v table change =
    Applies limits v change × IsMounted (swept table (applied change v)) table
    × outcome Done (tree_of (swept table (applied change v)) table) (logs (work_of v change))

-- what a call comes to: a refusal, or what its record does
abbrev pub Comes : Outcome → Limits → Volume → (ℕ → Option Description) → Result Changing Errno → Type 0
Comes outcome limits v table (Err errno) = outcome (Refused errno) (tree_of v table) nothing
Comes outcome limits v table (Ok c) = ComesBy outcome limits v table (change_by c)

-- the same of a call that may leave a file to be dropped
abbrev pub ComesSwept : Outcome → Limits → Volume → (ℕ → Option Description) → Result Changing Errno → Type 0
ComesSwept outcome limits v table (Err errno) = outcome (Refused errno) (tree_of v table) nothing
ComesSwept outcome limits v table (Ok c) = ComesSweptBy outcome limits v table (change_by c)

-- the same of a call that may find nothing to change
abbrev pub ComesOrStays : Outcome → Limits → Volume → (ℕ → Option Description) → Result (Option Changing) Errno → Type 0
ComesOrStays outcome limits v table (Err errno) = outcome (Refused errno) (tree_of v table) nothing
ComesOrStays outcome limits v table (Ok None) = outcome Done (tree_of v table) nothing
ComesOrStays outcome limits v table (Ok (Some c)) = ComesSwept outcome limits v table (Ok c)

-- a call's record applies, and this is it; or this is the first obstacle to it
abbrev pub Decides : Limits → Volume → Change → Result Changing Errno → Type 0
Decides limits v change (Ok c) = (change_by c ≡ change) × Applies limits v change
Decides limits v change (Err errno) = IsObstacle limits v change errno
