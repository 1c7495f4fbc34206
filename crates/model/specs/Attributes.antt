-- What an object has beside its kind, its count of names and its bytes: its mode, its owner and group, its
-- times and its generation. Each later field of an object is a field here, of `new_attributes` and
-- `AreAttributes`, and gets a lens beside `set_mode`.
use Rattle.std.specs.Prelude.{ℕ, ◌≡◌, ◌≤◌, Bool, IsFalse, IsTrue, Option, Some, None, unwrap_or, pos, FitsSigned}
use Rattle.std.specs.Int.{w64}
use Rattle.model.specs.declared.limits.TheConstants.{GREATEST_OWNER, MODE_BITS, MOST_CREATIONS, MOST_NANOSECONDS}
use Rattle.model.specs.declared.attributes.Attributes.{Attributes}
use Rattle.model.specs.declared.attributes.Permissions.{Permissions}
use Rattle.model.specs.declared.time.Time.{Time}

-- the time of an object that has none
abbrev pub epoch : Time
epoch = record { seconds = pos 0; nanoseconds = 0 }

-- the permissions of an object whose mode alone is kept
abbrev pub mode_alone : ℕ → Permissions
mode_alone mode = record { mode = mode; owner = 0; group = 0 }

-- the attributes of a new object of these permissions, before its times
abbrev pub new_attributes : Permissions → Attributes
new_attributes p = record { mode = p.mode; owner = p.owner; group = p.group; modified = epoch; changed = epoch; generation = 0 }

-- what the file system's own files have, and free inodes
abbrev pub no_attributes : Attributes
no_attributes = new_attributes (mode_alone 0)

-- an object's permissions
abbrev pub permissions_of : Attributes → Permissions
permissions_of a = record { mode = a.mode; owner = a.owner; group = a.group }

-- the attributes with another mode
abbrev pub set_mode : ℕ → Attributes → Attributes
set_mode mode a = record a { mode = mode }

-- the attributes with another owner and another group, each where it is given
abbrev pub set_owners : Option ℕ → Option ℕ → Attributes → Attributes
set_owners owner group a = record a { owner = unwrap_or owner a.owner; group = unwrap_or group a.group }

-- the attributes with another time of data
abbrev pub set_modified : Time → Attributes → Attributes
set_modified time a = record a { modified = time }

-- the attributes with other permissions and another time of data
abbrev pub set_given : Permissions → Time → Attributes → Attributes
set_given p modified a = record a { mode = p.mode; owner = p.owner; group = p.group; modified = modified }

-- what is given so, as the attributes of an object that has nothing else
abbrev pub given_attributes : Permissions → Time → Attributes
given_attributes p modified = set_given p modified no_attributes

-- the limits of a time
pub record IsTime (t : Time) : Type 0 where
  pub seconds : FitsSigned w64 t.seconds
  pub nanoseconds : t.nanoseconds ≤ MOST_NANOSECONDS

-- the limits of permissions
pub record ArePermissions (p : Permissions) : Type 0 where
  pub mode : p.mode ≤ MODE_BITS
  pub owner : p.owner ≤ GREATEST_OWNER
  pub group : p.group ≤ GREATEST_OWNER

-- the limits of attributes
pub record AreAttributes (a : Attributes) : Type 0 where
  pub mode : a.mode ≤ MODE_BITS
  pub owner : a.owner ≤ GREATEST_OWNER
  pub group : a.group ≤ GREATEST_OWNER
  pub modified : IsTime a.modified
  pub changed : IsTime a.changed
  pub generation : a.generation ≤ MOST_CREATIONS

-- all but the mode are zeros
abbrev pub HaveOnlyMode : Attributes → Type 0
HaveOnlyMode a = a ≡ new_attributes (mode_alone a.mode)

-- the time that a change has: any, where a file system keeps times, and else none
abbrev pub KeepsTime : Bool → Option Time → Type 0
KeepsTime has_attributes None = IsFalse has_attributes
KeepsTime has_attributes (Some time) = IsTrue has_attributes × IsTime time

-- the attributes that an object may have on a file system that keeps all of them, or the mode alone
pub record FitAttributes (has_attributes : Bool) (a : Attributes) : Type 0 where
  pub limits : AreAttributes a
  pub only_mode : IsFalse has_attributes → HaveOnlyMode a
