-- Names that directories get and lose.
use Rattle.std.specs.Prelude.{ℕ, ◌≡◌, ◌<◌, ◌≤◌, List, Option, Some, None}
use Rattle.layout.specs.Directory.{IsEntry, named_of}
use Rattle.layout.specs.DirectoryNames.{NameMap}
use Rattle.layout.specs.declared.kind.Kind.TheVariants as kinds
use Rattle.model.specs.declared.attributes.Attributes.{Attributes}
use Rattle.model.specs.Paths.{Name}
use Rattle.model.specs.Volumes.{Node, directory_node}
use Rattle.dirs.specs.Directory.{HasCount, with_name}
use Rattle.dirs.specs.Edits.{HasEditedNames, FitsIn, edited_block}
use Rattle.entries.specs.Known.{Knows}
use Rattle.dirs.specs.Room.{piece_count}
use Rattle.model.specs.declared.limits.Limits.{Limits}
use Rattle.dirs.specs.declared.edit.Edit.{Edit}
use Rattle.inode.specs.declared.object.Object.{Object}
use Rattle.records.specs.declared.naming.NameEdit.{NameEdit}
use Rattle.records.specs.declared.naming.NameEdit.TheVariants as edits

-- a directory with these names has place for one more
pub record HasPlace (limits : Limits) (names : NameMap) : Type 0 where
  pub count : ℕ
  pub counts : HasCount names count
  pub room : count < limits.directory_names

-- a directory with these names has no such one yet, and has place for one more
pub record TakesEntry (limits : Limits) (names : NameMap) (name : Name) : Type 0 where
  pub missing : names name ≡ None
  pub place : HasPlace limits names

-- an entry that an edit makes is one of an image of so many inodes
abbrev pub IsNameEdit : ℕ → NameEdit → Type 0
IsNameEdit inodes (edits.Add entry) = IsEntry inodes (named_of entry)
IsNameEdit inodes (edits.Remove name) = Unit {0}
IsNameEdit inodes (edits.Replace entry) = IsEntry inodes (named_of entry)
IsNameEdit inodes (edits.Move old entry) = IsEntry inodes (named_of entry)

-- a directory with these names can be edited so
abbrev pub TakesEdit : Limits → NameEdit → NameMap → Type 0
TakesEdit limits (edits.Add entry) names = TakesEntry limits names entry.name.now
TakesEdit limits (edits.Remove name) names = Unit {0}
TakesEdit limits (edits.Replace entry) names = HasPlace limits (with_name entry.name.now None names)
TakesEdit limits (edits.Move old entry) names = HasPlace limits (with_name old.now None (with_name entry.name.now None names))

-- the names that it has then
abbrev pub names_after : NameEdit → NameMap → NameMap
names_after (edits.Add entry) names = with_name entry.name.now (Some entry.number) names
names_after (edits.Remove name) names = with_name name.now None names
names_after (edits.Replace entry) names = with_name entry.name.now (Some entry.number) names
names_after (edits.Move old entry) names = with_name entry.name.now (Some entry.number) (with_name old.now None names)

-- an object is a directory whose names can be edited so
pub record Accepts (limits : Limits) (wanted : NameEdit) (found : Option Node) : Type 0 where
  pub attributes : Attributes
  pub names : NameMap
  pub is : found ≡ Some (directory_node attributes names)
  pub takes : TakesEdit limits wanted names

-- so many blocks of the directory it changes at the most
abbrev pub pieces_of : NameEdit → ℕ
pieces_of (edits.Add entry) = 1
pieces_of (edits.Remove name) = 1
pieces_of (edits.Replace entry) = 2
pieces_of (edits.Move old entry) = 3

-- a directory with its names changed
abbrev pub with_node_names : (NameMap → NameMap) → Option Node → Option Node
with_node_names f (Some (directory_node attributes names)) = Some (directory_node attributes (f names))
with_node_names f o = o

-- an edit of a directory in memory makes this of its names, and what it knows of its blocks is so
-- then; before, it stands for this object of a volume
pub record Edits (disk : ℕ → List ℕ) (inodes : ℕ) (f : NameMap → NameMap) (found : Option Node) (o : Object) (edit : Edit) : Type 0 where
  pub names : NameMap
  pub stands : found ≡ Some (directory_node o.status.attributes names)
  pub kind : o.status.kind ≡ kinds.Directory
  pub edited : HasEditedNames inodes disk o.file edit (f names)
  pub known : Knows inodes (edited_block disk o.file edit) edit.known

-- there is an object, and an edit does so with it
abbrev pub EditsIn : (ℕ → List ℕ) → ℕ → (NameMap → NameMap) → Option Node → Option Object → Edit → Type 0
EditsIn disk inodes f found (Some o) edit = Edits disk inodes f found o edit
EditsIn disk inodes f found None edit = ⊥

-- there is an object, and it is a directory
abbrev pub IsDirectoryObject : Option Object → Type 0
IsDirectoryObject (Some o) = o.status.kind ≡ kinds.Directory
IsDirectoryObject None = ⊥

-- an edit is prepared of what can be edited so, where this object of memory stands for it, and else
-- none
abbrev pub PreparesEdit : (ℕ → List ℕ) → Limits → NameEdit → Option Node → Option Object → Option Edit → Type 0
PreparesEdit disk limits wanted found o (Some edit) =
    EditsIn disk limits.inodes (names_after wanted) found o edit × Accepts limits wanted found × (piece_count edit ≤ pieces_of wanted)
PreparesEdit disk limits wanted found o None = Accepts limits wanted found → ⊥

-- there is an object, and it has room for an edit
abbrev pub FitsObject : Option Object → Edit → Type 0
FitsObject (Some o) edit = FitsIn o.file edit
FitsObject None edit = ⊥
