-- What a session says of its calls, and forgets at a mount.
use Rattle.std.specs.Prelude.{ℕ, ◌≤◌, if◌then◌else◌, Option, Some, None}
use Rattle.model.specs.declared.attributes.Permissions.{Permissions}
use Rattle.model.specs.declared.limits.Limits.{Limits}
use Rattle.model.specs.declared.limits.TheConstants.{GREATEST_OWNER}
use Rattle.model.specs.declared.session.Session.{Session}
use Rattle.model.specs.declared.time.Time.{Time}
use Rattle.model.specs.Attributes.{IsTime, epoch, mode_alone}

-- the limits of what is said
pub record IsSession (said : Session) : Type 0 where
  pub time : IsTime said.time
  pub owner : said.owner ≤ GREATEST_OWNER
  pub group : said.group ≤ GREATEST_OWNER

-- a session that said nothing yet
abbrev pub new_session : Session
new_session = record { time = epoch; owner = 0; group = 0 }

-- the session with another time of its calls
abbrev pub at_time : Time → Session → Session
at_time time said = record said { time = time }

-- the session with another owner and group of what its calls make
abbrev pub as_owner : ℕ → ℕ → Session → Session
as_owner owner group said = record said { owner = owner; group = group }

-- the permissions of an object that a session's call makes with a mode, in a file system of these limits
abbrev pub new_permissions : Limits → Session → ℕ → Permissions
new_permissions limits said mode =
    if limits.has_attributes then record { mode = mode; owner = said.owner; group = said.group } else mode_alone mode

-- a time, where a file system of these limits keeps times
abbrev pub kept_time : Limits → Time → Option Time
kept_time limits time = if limits.has_attributes then Some time else None

-- the time of a session's calls, where a file system of these limits keeps times
abbrev pub call_time : Limits → Session → Option Time
call_time limits said = kept_time limits said.time
