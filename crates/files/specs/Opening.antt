-- What opening a file comes to.
use Rattle.std.specs.Prelude.{ℕ, ◌≡◌, ◌<◌, Bool, false, true, Option, Some, None, Result, Ok, Err}
use Rattle.model.specs.declared.limits.Limits.{Limits}
use Rattle.model.specs.Outcomes.{Outcome}
use Rattle.model.specs.Records.{Applies, applied, work_of}
use Rattle.model.specs.Room.{Need, logs, nothing}
use Rattle.model.specs.Trees.{Description}
use Rattle.model.specs.Volumes.{IsMounted, Volume, swept, tree_of}
use Rattle.model.specs.declared.errno.Errno.{Errno}
use Rattle.model.specs.declared.limits.TheConstants.{OPEN_FILES}
use Rattle.model.specs.declared.reply.Reply.{Reply}
use Rattle.model.specs.declared.reply.Reply.TheVariants.{Fd, Opened, Refused}
use Rattle.paths.specs.Numbers.{IsInodeNumber}
use Rattle.calls.specs.Changing.{change_by}
use Rattle.calls.specs.declared.changed.Changing.{Changing}
use Rattle.descriptors.specs.Files.{KeepsBounds, description_of}
use Rattle.descriptors.specs.Fits.{IsFileOf}
use Rattle.descriptors.specs.Tables.{open_at, put_open, table_of}
use Rattle.descriptors.specs.declared.table.Descriptors.{Descriptors}
use Rattle.files.specs.Opened.{tree_with}
use Rattle.files.specs.Preparing.{Changes, of_changing}
use Rattle.files.specs.declared.opening.Opening.{Opening}

-- what is changed beside
abbrev pub of_opening : Changes Opening
of_opening o P = of_changing o.changing P

-- the descriptor is free, and the file and its number keep to the limits
abbrev pub CanOpen : Descriptors → ℕ → Opening → Type 0
CanOpen table inodes o = (o.fd < OPEN_FILES) × (open_at table o.fd ≡ None) × KeepsBounds o.file × IsInodeNumber inodes o.file.number

-- the descriptors with the file open
abbrev pub with_opened : Opening → Descriptors → ℕ → Option Description
with_opened o table = put_open o.fd (Some (description_of o.file)) (table_of table)

-- what is answered: the descriptor, and what `fstat` tells of the file then where that is asked
abbrev pub opening_reply : Bool → Opening → Reply
opening_reply false o = Fd o.fd
opening_reply true o = Opened o.fd o.stat

-- so opening a file is answered, whether it is told of or not, over this volume and for this need
abbrev pub IsOpenedOver : (Bool → Outcome) → Volume → Descriptors → Opening → Need → Type 0
IsOpenedOver outcome v table o need =
    (tells : Bool) → outcome tells (opening_reply tells o) (tree_of v (with_opened o table)) need

-- what opening a file comes to that changes nothing beside, or does what a record says
abbrev pub OpensDescriptorOver : (Bool → Outcome) → Limits → Volume → Descriptors → Opening → Option Changing → Type 0
OpensDescriptorOver outcome limits v table o None = IsFileOf v o.file × IsOpenedOver outcome v table o nothing
OpensDescriptorOver outcome limits v table o (Some c) =
    Applies limits v (change_by c)
    × IsMounted (swept (table_of table) (applied (change_by c) v)) (table_of table)
    × IsFileOf (swept (table_of table) (applied (change_by c) v)) o.file
    × IsOpenedOver outcome (swept (table_of table) (applied (change_by c) v)) table o (logs (work_of v (change_by c)))

-- what opening comes to, whether the file is told of or not: a refusal, or a file at a descriptor
abbrev pub OpensDescriptor : (Bool → Outcome) → Limits → Volume → Descriptors → Result Opening Errno → Type 0
OpensDescriptor outcome limits v table (Err errno) = (tells : Bool) → outcome tells (Refused errno) (tree_with table v) nothing
OpensDescriptor outcome limits v table (Ok o) = OpensDescriptorOver outcome limits v table o o.changing
