-- What the records of the log do to a volume, and when each applies.
use Rattle.std.specs.Prelude.{ℕ, zero, suc, ◌≡◌, ◌≢◌, ◌⊎◌, ◌+◌, ◌*◌, ◌≤◌, ◌<◌, IsSome, Bool, true, false, IsTrue, if◌then◌else◌, List, [], ◌∷◌, length, fold, unwrap_or, Option, Some, None}
use Rattle.model.specs.declared.costs.Costs.{Costs}
use Rattle.model.specs.declared.limits.TheConstants.{FIRST_NUMBER, TRANSFER_BYTES, LINK_MODE, MODE_BITS}
use Rattle.model.specs.declared.attributes.Attributes.{Attributes}
use Rattle.model.specs.declared.attributes.Permissions.{Permissions}
use Rattle.model.specs.declared.limits.Limits.{Limits}
use Rattle.model.specs.Attributes.{FitAttributes, KeepsTime, given_attributes, new_attributes, set_given, set_mode}
use Rattle.model.specs.Touches.{Touches, touched_at, touches_entry, touches_move, touches_object}
use Rattle.model.specs.declared.attributes.Touch.{Touch}
use Rattle.model.specs.declared.attributes.Touch.TheVariants.{Data, Status}
use Rattle.model.specs.declared.time.Time.{Time}
use Rattle.model.specs.Counting.{Counts}
use Rattle.model.specs.Paths.{Name, Path, IsName, IsLinkText}
use Rattle.model.specs.Edits.{written, resized}
use Rattle.model.specs.Room.{Room, Work, adds_name, removes_name, puts_bytes, changes_size, changes_bits, cost}
use Rattle.model.specs.Volumes.{Node, directory_node, file_node, link_node, Volume, Entries, entries, enter, bytes_of_node, with_node, is_file_node, is_directory_node, is_orphan, created, linked, unnamed, renamed, swept_node}

-- what a record makes, with all that a call gives it
pub data Made : Type 0 where
  file : (permissions : Permissions) → Made
  directory : (permissions : Permissions) → Made
  symbolic_link : (permissions : Permissions) → (text : List ℕ) → Made

-- what a record of the log does
pub data Edit : Type 0 where
  create : (number parent : ℕ) → (made : Made) → (name : List ℕ) → Edit
  link : (number parent : ℕ) → (name : List ℕ) → Edit
  remove_name : (parent : ℕ) → (name : List ℕ) → Edit
  rename : (parent : ℕ) → (name : List ℕ) → (new_parent : ℕ) → (new_name : List ℕ) → Edit
  write : (number offset : ℕ) → (bytes : List ℕ) → Edit
  truncate : (number size : ℕ) → Edit
  change_attributes : (number : ℕ) → (permissions : Permissions) → (modified : Time) → Edit
  set_file : (number mode size : ℕ) → Edit

-- what a record of the log says: what it does, and when, where the file system keeps times
pub record Change : Type 0 where
  pub time : Option Time
  pub edit : Edit

abbrev pub stamped : Option Time → Edit → Change
stamped time edit = record { time = time; edit = edit }

-- the object that a record makes, with its one name; a file has no bytes and a directory no names
abbrev pub node_of : Made → Node
node_of (file permissions) = file_node (new_attributes permissions) 1 []
node_of (directory permissions) = directory_node (new_attributes permissions) (λ x. None)
node_of (symbolic_link permissions text) = link_node (new_attributes permissions) text

-- an object with its bytes changed, where it is a file
abbrev pub with_file_bytes : (List ℕ → List ℕ) → Option Node → Option Node
with_file_bytes f (Some (file_node attributes links bytes)) = Some (file_node attributes links (f bytes))
with_file_bytes f o = o

-- an object with its attributes changed
abbrev pub with_node_attributes : (Attributes → Attributes) → Option Node → Option Node
with_node_attributes f None = None
with_node_attributes f (Some (directory_node attributes names)) = Some (directory_node (f attributes) names)
with_node_attributes f (Some (file_node attributes links bytes)) = Some (file_node (f attributes) links bytes)
with_node_attributes f (Some (link_node attributes text)) = Some (link_node (f attributes) text)

-- an object with this mode
abbrev pub with_node_mode : ℕ → Option Node → Option Node
with_node_mode mode o = with_node_attributes (set_mode mode) o

-- the volume with a file that has another size
abbrev pub with_size : ℕ → ℕ → Volume → Volume
with_size number size v = with_node number (with_file_bytes (resized size) (v number)) v

-- the volume with a file or directory that has another mode
abbrev pub with_bits : ℕ → ℕ → Volume → Volume
with_bits number mode v = with_node number (with_node_mode mode (v number)) v

-- the volume with an object that has other permissions and another time of its data
abbrev pub with_given : ℕ → Permissions → Time → Volume → Volume
with_given number permissions modified v = with_node number (with_node_attributes (set_given permissions modified) (v number)) v

-- what a record does to names, bytes and attributes
abbrev pub edited : Edit → Volume → Volume
edited (create number parent made name) v = created number parent name (node_of made) v
edited (link number parent name) v = linked number parent name v
edited (remove_name parent name) v = unnamed parent name v
edited (rename parent name new_parent new_name) v = renamed parent name new_parent new_name v
edited (write number offset bytes) v = with_node number (with_file_bytes (written offset bytes) (v number)) v
edited (truncate number size) v = with_size number size v
edited (change_attributes number permissions modified) v = with_given number permissions modified v
edited (set_file number mode size) v = with_bits number mode (with_size number size v)

-- what a record touches
abbrev pub touches_of : Edit → Volume → Touches
touches_of (create number parent made name) v = touches_entry Data (Some number) (Some parent)
touches_of (link number parent name) v = touches_entry Status (Some number) (Some parent)
touches_of (remove_name parent name) v = touches_entry Status (entries v parent name) (Some parent)
touches_of (rename d x k y) v = touches_move (entries v d x) (entries v k y) (Some d) (Some k)
touches_of (write number offset bytes) v = touches_object Data number
touches_of (truncate number size) v = touches_object Data number
touches_of (change_attributes number permissions modified) v = touches_object Status number
touches_of (set_file number mode size) v = touches_object Data number

-- the volume with an object touched, if a number of one is given
abbrev pub touching_node : Time → Touch → Option ℕ → Volume → Volume
touching_node time touch None v = v
touching_node time touch (Some n) v = with_node n (with_node_attributes (touched_at time touch) (v n)) v

-- the volume with all touched that a change touches, where it has a time
abbrev pub marked_nodes : Option Time → Touches → Volume → Volume
marked_nodes None touches v = v
marked_nodes (Some time) touches v =
    touching_node time Data touches.new_parent (touching_node time Data touches.parent
    (touching_node time Status touches.replaced (touching_node time touches.touch touches.object v)))

-- the volume that a record leaves, where a file stays that has no name any more
abbrev pub applied : Change → Volume → Volume
applied change v = marked_nodes change.time (touches_of change.edit v) (edited change.edit v)

-- the number k lies below n, or is it
abbrev pub IsBelow : Entries → ℕ → ℕ → Type 0
IsBelow e n k = (p : Path) × (fold (enter e) (Some n) p ≡ Some k)

-- a directory that has no such name yet, and has place for one more
pub record TakesName (limits : Limits) (v : Volume) (d : ℕ) (x : Name) : Type 0 where
  pub directory : IsTrue (is_directory_node (v d))
  pub missing : entries v d x ≡ None
  pub name : IsName x
  pub count : ℕ
  pub counts : Counts (λ y. IsSome (entries v d y)) count
  pub room : count < limits.directory_names

-- there are no names in the object of this number
abbrev pub IsEmpty : Volume → ℕ → Type 0
IsEmpty v n = (x : Name) → entries v n x ≡ None

-- what a record makes keeps to the limits
abbrev pub IsMade : Limits → Made → Type 0
IsMade limits (file permissions) = FitAttributes limits.has_attributes (new_attributes permissions)
IsMade limits (directory permissions) = FitAttributes limits.has_attributes (new_attributes permissions)
IsMade limits (symbolic_link permissions text) =
    FitAttributes limits.has_attributes (new_attributes permissions) × (permissions.mode ≡ LINK_MODE) × IsLinkText limits.path_bytes text

-- a new object may have this number in a replay: nothing has it, or a file that has no name any
-- more
abbrev pub is_vacant : Option Node → Bool
is_vacant None = true
is_vacant o = is_orphan o

-- the record of a creation applies: its number is vacant, and its name can be put into a directory
pub record CanCreate (limits : Limits) (v : Volume) (number parent : ℕ) (made : Made) (name : Name) : Type 0 where
  pub low : FIRST_NUMBER ≤ number
  pub high : number < limits.inodes
  pub vacant : IsTrue (is_vacant (v number))
  pub takes : TakesName limits v parent name
  pub good : IsMade limits made

-- the record of a link applies: its number is that of a file with fewer names than the limit, and
-- its name can be put into a directory
pub record CanLink (limits : Limits) (v : Volume) (number parent : ℕ) (name : Name) : Type 0 where
  pub attributes : Attributes
  pub links : ℕ
  pub bytes : List ℕ
  pub file : v number ≡ Some (file_node attributes links bytes)
  pub few : links < limits.file_names
  pub takes : TakesName limits v parent name

-- the record of a removal applies: its name is there, and a directory that it takes away is empty
pub record CanUnname (v : Volume) (parent : ℕ) (name : Name) : Type 0 where
  pub number : ℕ
  pub there : entries v parent name ≡ Some number
  pub empty : IsEmpty v number

-- what may have the new name before a move: nothing, where the directory has the object already or
-- takes one more name; or another object of the kind, a directory only where it is empty
abbrev pub CanReplace : Limits → Volume → ℕ → ℕ → Name → ℕ → Option ℕ → Type 0
CanReplace limits v d k y n None = (d ≡ k) ⊎ TakesName limits v k y
CanReplace limits v d k y n (Some m) = (m ≢ n) × (is_directory_node (v m) ≡ is_directory_node (v n)) × IsEmpty v m

-- the record of a move applies: its name is there, it puts no directory below itself, and its
-- target can take it
pub record CanRename (limits : Limits) (v : Volume) (d : ℕ) (x : Name) (k : ℕ) (y : Name) : Type 0 where
  pub number : ℕ
  pub there : entries v d x ≡ Some number
  pub directory : IsTrue (is_directory_node (v k))
  pub name : IsName y
  pub outside : ¬ IsBelow (entries v) number k
  pub replaces : CanReplace limits v d k y number (entries v k y)

-- an object may get this mode: a file or a directory any, a link only its own, and that where it has
-- more than a mode
abbrev pub TakesMode : Bool → Option Node → ℕ → Type 0
TakesMode has_attributes None mode = ⊥
TakesMode has_attributes (Some (directory_node attributes names)) mode = Unit {0}
TakesMode has_attributes (Some (file_node attributes links bytes)) mode = Unit {0}
TakesMode has_attributes (Some (link_node attributes text)) mode = IsTrue has_attributes × (mode ≡ LINK_MODE)

-- an object may get these permissions and this time of its data
abbrev pub TakesGiven : Bool → Option Node → Permissions → Time → Type 0
TakesGiven has_attributes found permissions modified =
    TakesMode has_attributes found permissions.mode × FitAttributes has_attributes (given_attributes permissions modified)

-- what a record does can be done to a volume within limits: its numbers have the right kinds, its
-- names can be taken away or put in, and no limit is passed
abbrev pub CanEdit : Limits → Volume → Edit → Type 0
CanEdit limits v (create number parent made name) = CanCreate limits v number parent made name
CanEdit limits v (link number parent name) = CanLink limits v number parent name
CanEdit limits v (remove_name parent name) = CanUnname v parent name
CanEdit limits v (rename parent name new_parent new_name) = CanRename limits v parent name new_parent new_name
CanEdit limits v (write number offset bytes) =
    IsTrue (is_file_node (v number)) × (1 ≤ length bytes) × (length bytes ≤ TRANSFER_BYTES) × (offset + length bytes ≤ limits.file_bytes)
CanEdit limits v (truncate number size) = IsTrue (is_file_node (v number)) × (size ≤ limits.file_bytes)
CanEdit limits v (change_attributes number permissions modified) = TakesGiven limits.has_attributes (v number) permissions modified
CanEdit limits v (set_file number mode size) = IsTrue (is_file_node (v number)) × (mode ≤ MODE_BITS) × (size ≤ limits.file_bytes)

-- a record applies to a volume within limits: what it does can be done, and it has a time just where
-- the file system keeps times
pub record Applies (limits : Limits) (v : Volume) (change : Change) : Type 0 where
  pub time : KeepsTime limits.has_attributes change.time
  pub edit : CanEdit limits v change.edit

-- records that apply one after the other lead from one volume to another
abbrev pub Replays : Limits → Volume → List Change → Volume → Type 0
Replays limits v [] w = w ≡ v
Replays limits v (change ∷ changes) w = Applies limits v change × Replays limits (applied change v) changes w

-- the volume without the files that have no name, as it is behind the last record, when no file is
-- open
abbrev pub without_orphans : Volume → Volume
without_orphans v n = swept_node false (v n)

-- a replayed volume has what the running one has, and beside it only orphans, which the running one
-- has dropped
pub record Extends (running replayed : Volume) : Type 0 where
  pub kept : (n : ℕ) → IsSome (running n) → replayed n ≡ running n
  pub rest : (n : ℕ) → running n ≡ None → IsTrue (is_vacant (replayed n))

-- how many bytes the object of a number has
abbrev pub size_before : Volume → ℕ → ℕ
size_before v number = length (unwrap_or (bytes_of_node (v number)) [])

-- the work that what a record does makes for a consistency point, by the volume that it changes
abbrev pub work_by : Volume → Edit → Work
work_by v (create number parent made name) = adds_name
work_by v (link number parent name) = adds_name
work_by v (remove_name parent name) = removes_name
work_by v (rename parent name new_parent new_name) = adds_name
work_by v (write number offset bytes) = puts_bytes (size_before v number) offset (length bytes)
work_by v (truncate number size) = changes_size (size_before v number) size
work_by v (change_attributes number permissions modified) = changes_bits
work_by v (set_file number mode size) = changes_size (size_before v number) size

-- the same of a record
abbrev pub work_of : Volume → Change → Work
work_of v change = work_by v change.edit

-- what records cost that change a volume one after the other
abbrev pub cost_of_all : Costs → Volume → List Change → ℕ
cost_of_all costs v [] = 0
cost_of_all costs v (change ∷ changes) = cost costs (work_of v change) + cost_of_all costs (applied change v) changes

-- how many of the first so many numbers are orphans
abbrev pub count_orphans : ℕ → Volume → ℕ
count_orphans zero v = 0
count_orphans (suc n) v = count_orphans n v + (if is_orphan (v n) then 1 else 0)

-- the blocks that a consistency point may store for what the settled root doesn't cover: these
-- records, and each file without names in the settled root's volume
abbrev pub pledged_for : Limits → Volume → List Change → ℕ
pledged_for limits settled changes = limits.costs.orphan * count_orphans limits.inodes settled + cost_of_all limits.costs settled changes

-- the settled root has the volume as it is now, and covers every record
abbrev pub CoversAll : Volume → Volume → List Change → Type 0
CoversAll settled now changes = (settled ≡ now) × (changes ≡ [])

-- the room that a system tells, by the volume of its settled root, the records beside it and its
-- volume now: what is pledged for these, and that it is covered only where that root has all
pub record TellsRoom (limits : Limits) (settled now : Volume) (changes : List Change) (room : Room) : Type 0 where
  pub costs : room.costs ≡ limits.costs
  pub pledged : room.pledged ≡ pledged_for limits settled changes
  pub covered : IsTrue room.is_covered → CoversAll settled now changes
