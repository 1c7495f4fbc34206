-- What opening a file over a path comes to.
use Rattle.std.specs.Prelude.{ℕ, ◌≡◌, ◌⊎◌, ◌≤◌, not, ◌&&◌, Bool, false, true, IsFalse, IsTrue, List, length, Option, Some, None, Result, Ok, Err}
use Rattle.model.specs.declared.limits.Limits.{Limits}
use Rattle.model.specs.declared.attributes.Attributes.{Attributes}
use Rattle.model.specs.declared.attributes.Permissions.{Permissions}
use Rattle.model.specs.Descriptors.{described_by, opens_new, opens_object}
use Rattle.model.specs.Edits.{with_descriptor}
use Rattle.model.specs.Outcomes.{Outcome, goes_along}
use Rattle.model.specs.Paths.{Name}
use Rattle.model.specs.Records.{Change, Applies, applied, create, file, stamped, work_of}
use Rattle.model.specs.Room.{Need, logs, nothing}
use Rattle.model.specs.Trees.{Tree, Description}
use Rattle.model.specs.Volumes.{IsMounted, Volume, file_node, swept, tree_of}
use Rattle.model.specs.declared.command.Flags.{Flags}
use Rattle.model.specs.declared.errno.Errno.{Errno}
use Rattle.model.specs.declared.errno.Errno.TheVariants.{ENOENT}
use Rattle.model.specs.declared.limits.TheConstants.{GREATEST_OFFSET}
use Rattle.model.specs.declared.reply.FileType.TheVariants.{File}
use Rattle.model.specs.declared.reply.Reply.{Reply}
use Rattle.model.specs.declared.reply.Reply.TheVariants as replies
use Rattle.model.specs.declared.reply.Stat.{Stat}
use Rattle.model.specs.declared.time.Time.{Time}
use Rattle.paths.specs.Numbers.{IsInodeNumber}
use Rattle.calls.specs.Changing.{change_by}
use Rattle.calls.specs.Making.{MakesIn}
use Rattle.calls.specs.declared.changed.Changing.{Changing}
use Rattle.calls.specs.declared.preparing.open.Opened.{Opened}

-- `open` behind its tests, at each descriptor, and `openstat`, which tells of the file too: the
-- file that a path leads to, or a new one
abbrev pub opens_along : Limits → Option Time → Tree → List ℕ → Flags → Permissions → Bool → ℕ → Outcome
opens_along limits now t path flags permissions tells fd =
    goes_along t (not (flags.creates && flags.exclusive)) path
    (λ p o. opens_object tells now t o flags fd)
    (λ p name. opens_new tells limits now t p name flags permissions fd)

-- the number, the names, the mode and the size are those of a file of the volume
abbrev pub IsOpened : Volume → Opened → Type 0
IsOpened v o =
    (attributes : Attributes) × (bytes : List ℕ)
    × (v o.number ≡ Some (file_node attributes o.links bytes))
    × (o.mode ≡ attributes.mode) × (o.size ≡ length bytes)

-- a number and a size that are told keep to their bounds
abbrev pub KeepsOpenedBounds : ℕ → Opened → Type 0
KeepsOpenedBounds inodes o = IsInodeNumber inodes o.number × (o.size ≤ GREATEST_OFFSET)

-- what `fstat` tells of a file that is just opened
abbrev pub opened_stat : Opened → Stat
opened_stat o = record {
  number = o.number;
  kind = File;
  mode = o.mode;
  links = o.links;
  size = o.size;
}

-- what is answered of it: its descriptor, and what `fstat` tells then where that is asked
abbrev pub opened_reply : Bool → ℕ → Opened → Reply
opened_reply false fd o = replies.Fd fd
opened_reply true fd o = replies.Opened fd (opened_stat o)

-- the tree with the file at a descriptor, as it is just opened with these flags
abbrev pub opened_tree : Flags → Opened → ℕ → Tree → Tree
opened_tree flags o fd t = with_descriptor fd (Some (described_by o.number flags)) t

-- what opening a file comes to, whether it is told of or not, at whatever descriptor
abbrev pub Opening : Type 1
Opening = Bool → ℕ → Outcome

-- a file is opened over this tree, for this need
abbrev pub IsOpenedOver : Opening → Flags → Opened → Tree → Need → Type 0
IsOpenedOver outcome flags o t need =
    (tells : Bool) (fd : ℕ)
    → outcome tells fd (opened_reply tells fd o) (opened_tree flags o fd t) need

-- what opening a file comes to where this record, which applies, makes or truncates it
abbrev pub OpensByRecord : Opening → Limits → Flags → Volume → (ℕ → Option Description) → Opened
    → Change → Type 0
OpensByRecord outcome limits flags v table o change =
    let after = swept table (applied change v) in
    Applies limits v change × IsMounted after table × IsOpened after o
    × IsOpenedOver outcome flags o (tree_of after table) (logs (work_of v change))

-- what opening a file comes to that changes nothing beside, or does what a record says
abbrev pub OpensOver : Opening → Limits → Flags → Volume → (ℕ → Option Description) → Opened
    → Option Changing → Type 0
OpensOver outcome limits flags v table o None =
    IsOpened v o × IsOpenedOver outcome flags o (tree_of v table) nothing
OpensOver outcome limits flags v table o (Some c) =
    OpensByRecord outcome limits flags v table o (change_by c)

-- what opening a file comes to, at whatever descriptor: a refusal, or the file
abbrev pub OpensAt : Opening → Limits → Flags → Volume → (ℕ → Option Description)
    → Result Opened Errno → Type 0
OpensAt outcome limits flags v table (Err errno) =
    (tells : Bool) (fd : ℕ) → outcome tells fd (replies.Refused errno) (tree_of v table) nothing
OpensAt outcome limits flags v table (Ok o) =
    OpensOver outcome limits flags v table o o.changing

-- a file of this number is made, with this name
abbrev pub OpensMade : Limits → Option Time → Volume → Permissions → ℕ → Name → Opened → Option Changing → Type 0
OpensMade limits now v permissions parent name o None = ⊥
OpensMade limits now v permissions parent name o (Some c) =
    MakesIn limits now v parent name (file permissions) (Ok c)
    × (change_by c ≡ stamped now (create o.number parent (file permissions) name))
    × (o.links ≡ 1) × (o.mode ≡ permissions.mode) × (o.size ≡ 0)

-- what opening comes to at a name that a directory doesn't have
abbrev pub OpensNew : Limits → Option Time → Volume → Flags → Permissions → ℕ → Name
    → Result Opened Errno → Type 0
OpensNew limits now v flags permissions parent name (Ok o) =
    IsTrue flags.creates × OpensMade limits now v permissions parent name o o.changing
OpensNew limits now v flags permissions parent name (Err errno) =
    (IsFalse flags.creates × (errno ≡ ENOENT))
    ⊎ (IsTrue flags.creates × MakesIn limits now v parent name (file permissions) (Err errno))
