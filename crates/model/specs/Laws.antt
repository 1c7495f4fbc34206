-- Laws of the definitions, which the functions of `laws.rt` name.
use Rattle.std.specs.List.{list_any}
use Rattle.std.specs.Int.{w64}
use Rattle.std.specs.Prelude.{ℕ, FitsSigned, ◌≡◌, ◌↔◌, ◌≤◌, ◌<◌, Bool, true, false, IsTrue, IsFalse, IsSome, IfSome, All, Contains, List, [], ◌∷◌, ◌++◌, length, slice_get, Option, Some, None}
use Rattle.model.specs.Entries.{Part, AreTold}
use Rattle.model.specs.declared.attributes.Attributes.{Attributes}
use Rattle.model.specs.declared.limits.TheConstants.{GREATEST_OWNER, LINKS_FOLLOWED, FIRST_NUMBER, MODE_BITS}
use Rattle.model.specs.declared.errno.Errno.{Errno}
use Rattle.model.specs.declared.errno.Errno.TheVariants.{ENOSPC, ENOMEM, EIO, DAMAGED, FAILED}
use Rattle.model.specs.declared.reply.Reply.{Reply}
use Rattle.model.specs.declared.reply.Reply.TheVariants.{Refused}
use Rattle.model.specs.declared.command.Command.{Command}
use Rattle.model.specs.declared.command.Command.TheVariants as command
use Rattle.model.specs.declared.command.NewTime.{NewTime}
use Rattle.model.specs.declared.command.NewTime.TheVariants as times
use Rattle.model.specs.declared.command.PathCall.{PathCall}
use Rattle.model.specs.declared.command.PathCall.TheVariants as call
use Rattle.model.specs.declared.limits.Limits.{Limits}
use Rattle.model.specs.Limits.{AreLimits}
use Rattle.model.specs.Paths.{Name, Path, parts, begins_with, is_dot_dot}
use Rattle.model.specs.Trees.{Description, HasPath, IsNumbered, IsPathOf, IsTree, IsUsed, Object, file}
use Rattle.model.specs.Resolution.{resolve, resolve_within}
use Rattle.model.specs.Outcomes.{IsFresh, HasLinks}
use Rattle.model.specs.Circumstances.{Circumstances, Allowed}
use Rattle.model.specs.Finding.{Trails, find_within, IsPlaceAt, IsPlaceOf, trail_from}
use Rattle.model.specs.Room.{Room, Need, nothing}
use Rattle.model.specs.States.{State, IsState, empty, ForgetsOpenFiles, Forgets}
use Rattle.model.specs.Steps.{WouldStep}
use Rattle.model.specs.Volumes.{Volume, file_node, entries, number_at, object_of, is_directory_node, is_file_node, is_placed_node, IsVolume, tree_of, swept, IsMounted}
use Rattle.model.specs.Changes.{TakesFreeNumber, ChangesTree}
use Rattle.model.specs.Records.{Change, applied, IsBelow, Applies, Replays, without_orphans, Extends, work_of}

-- a refusal that tells of the command and the tree, and not of devices, memory or room
abbrev pub is_own : Errno → Bool
is_own ENOSPC = false
is_own ENOMEM = false
is_own EIO = false
is_own DAMAGED = false
is_own FAILED = false
is_own _ = true

-- where nothing comes in its way, a command refuses by its own errnos alone
abbrev pub RefusesByItsOwn : Type 0
RefusesByItsOwn =
    (room : Room) (s new : State) (command : Command) (need : Need) (errno : Errno)
    → WouldStep room s command (Refused errno) new need → IsTrue (is_own errno)

-- where nothing comes in its way, a refused command changes nothing and needs nothing
abbrev pub RefusalsChangeNothing : Type 0
RefusalsChangeNothing =
    (room : Room) (s new : State) (command : Command) (need : Need) (errno : Errno)
    → WouldStep room s command (Refused errno) new need → (new ≡ s) × (need ≡ nothing)

-- a replayed volume follows the running one: a record that applies to this applies to that, and
-- what the running volume drops at once, the replayed one may keep
abbrev pub ReplayFollows : Type 0
ReplayFollows =
    (limits : Limits) (running replayed : Volume) (table : ℕ → Option Description) (change : Change)
    → Extends running replayed → Applies limits running change
    → Applies limits replayed change × Extends (swept table (applied change running)) (applied change replayed)

-- once the orphans are dropped, the replayed volume and the running one are the same
abbrev pub ReplayEndsSame : Type 0
ReplayEndsSame = (running replayed : Volume) → Extends running replayed → without_orphans replayed ≡ without_orphans running

-- where nothing comes in its way, a command has at most one outcome
abbrev pub HasOneOutcome : Type 0
HasOneOutcome =
    (room : Room) (s : State) (command : Command) (a b : Reply) (t u : State) (m n : Need)
    → WouldStep room s command a t m → WouldStep room s command b u n → (a ≡ b) × (t ≡ u) × (m ≡ n)

-- what the types of an owner and a group hold them to, where they are given
abbrev pub AreOwners : Option ℕ → Option ℕ → Type 0
AreOwners owner group = IfSome owner (λ n. n ≤ GREATEST_OWNER) × IfSome group (λ n. n ≤ GREATEST_OWNER)

-- what the types of a time hold it to: seconds have 64 bits
abbrev pub IsNewTime : NewTime → Type 0
IsNewTime (times.At seconds nanoseconds) = FitsSigned w64 seconds
IsNewTime other = Unit {0}

-- what the types of a path call hold it to: a mode has twelve bits
abbrev pub IsPathCall : PathCall → Type 0
IsPathCall (call.Mkdir path mode) = mode ≤ MODE_BITS
IsPathCall (call.Chmod path mode) = mode ≤ MODE_BITS
IsPathCall (call.Chown path follow owner group) = AreOwners owner group
IsPathCall (call.Utimens path follow time) = IsNewTime time
IsPathCall (call.Set path settings) = IfSome settings.mode (λ mode. mode ≤ MODE_BITS)
IsPathCall c = Unit {0}

-- what the types of a command hold it to: a mode has twelve bits, an owner 32, and seconds have 64
abbrev pub IsCommand : Command → Type 0
IsCommand (command.Path c) = IsPathCall c
IsCommand (command.Within name c) = IsPathCall c
IsCommand (command.Open path flags mode below) = mode ≤ MODE_BITS
IsCommand (command.OpenStat path flags mode below) = mode ≤ MODE_BITS
IsCommand (command.Fchmod fd mode) = mode ≤ MODE_BITS
IsCommand (command.Fchown fd owner group) = AreOwners owner group
IsCommand (command.Futimens fd time) = IsNewTime time
IsCommand (command.At seconds nanoseconds) = FitsSigned w64 seconds
IsCommand (command.As owner group) = (owner ≤ GREATEST_OWNER) × (group ≤ GREATEST_OWNER)
IsCommand c = Unit {0}

-- where a directory is told in parts from the first one on, until a part tells nothing, a name that
-- it has throughout is told by just one of the parts, whatever else comes and goes between them
abbrev pub PartsTellOnce : Type 0
PartsTellOnce =
    (parts : List Part) (last : Part) (name : Name)
    → AreTold 0 (parts ++ last ∷ []) → last.told ≡ [] → All (λ part. Contains part.names name) (parts ++ last ∷ [])
    → (part : Part) × (k : ℕ) × (slice_get parts k ≡ Some part) × Contains part.told name
    × ((other : Part) (m : ℕ) → slice_get parts m ≡ Some other → Contains other.told name → m ≡ k)

-- where nothing comes in its way, each outcome of a command on a state is a state
abbrev pub CommandsLeaveStates : Type 0
CommandsLeaveStates =
    (room : Room) (s new : State) (command : Command) (reply : Reply) (need : Need)
    → IsState s → IsCommand command → WouldStep room s command reply new need → IsState new

-- each outcome that the definitions allow of a command on a state is a state, whatever came in its
-- way
abbrev pub AllowedAreStates : Type 0
AllowedAreStates =
    (c : Circumstances) (s new : State) (command : Command) (reply : Reply)
    → IsState s → IsCommand command → Allowed c s command reply new → IsState new

-- a file system as it is made is a state, and so is what a mount finds of a state
abbrev pub MountsFindStates : Type 0
MountsFindStates = ((limits : Limits) → AreLimits limits → IsState (empty limits)) × ((old new : State) → IsState old → Forgets old new → IsState new)

-- a record that applies leaves a volume
abbrev pub RecordsKeepVolumes : Type 0
RecordsKeepVolumes =
    (limits : Limits) (v : Volume) (change : Change) → IsVolume limits v → Applies limits v change → IsVolume limits (applied change v)

-- a volume without the files that have neither name nor descriptor is a volume
abbrev pub SweepsKeepVolumes : Type 0
SweepsKeepVolumes = (limits : Limits) (v : Volume) (table : ℕ → Option Description) → IsVolume limits v → IsVolume limits (swept table v)

-- of a mounted volume, a record that applies leaves a mounted one once what became an orphan is
-- dropped, and it does to the tree what the call in whose words it is said does, where a new object
-- takes a number that nothing has
abbrev pub RecordsChangeTrees : Type 0
RecordsChangeTrees =
    (limits : Limits) (v : Volume) (table : ℕ → Option Description) (change : Change)
    → IsVolume limits v → IsMounted v table → Applies limits v change → TakesFreeNumber v change
    → IsMounted (swept table (applied change v)) table
    × ChangesTree change (tree_of v table) (tree_of (swept table (applied change v)) table)

-- the tree of a mounted volume is a tree
abbrev pub VolumesAreTrees : Type 0
VolumesAreTrees =
    (limits : Limits) (v : Volume) (table : ℕ → Option Description) → IsVolume limits v → IsMounted v table → IsTree limits (tree_of v table)

-- in a volume, resolution by numbers leads where resolution by paths does
abbrev pub ResolvesByNumbers : Type 0
ResolvesByNumbers =
    (limits : Limits) (v : Volume) (table : ℕ → Option Description) (follow : Bool) (text : List ℕ)
    → IsVolume limits v → IsPlaceOf v (find_within LINKS_FOLLOWED v follow [] (parts text)) (resolve (tree_of v table) follow text)

-- in a volume, a search from the number of a directory leads where the resolution from its path
-- does, as long as no part leads up and no link is followed
abbrev pub ResolvesFromNumbers : Type 0
ResolvesFromNumbers =
    (limits : Limits) (v : Volume) (table : ℕ → Option Description) (follow : Bool) (n : ℕ) (names : List Name)
    → IsVolume limits v → IsTrue (is_directory_node (v n)) → IsFalse (list_any is_dot_dot names)
    → (p : Path) × IsPathOf (tree_of v table) n p
    × IsPlaceAt v (find_within 0 v follow (trail_from n) names) (resolve_within 0 (tree_of v table) follow p names)

-- in a volume, a number that an object has stands at a path, but for that of an orphan
abbrev pub VolumesTellNumbers : Type 0
VolumesTellNumbers =
    (limits : Limits) (v : Volume) (table : ℕ → Option Description) (n : ℕ) → IsVolume limits v
    → (IsTrue (is_placed_node (v n)) → (o : Object) × (object_of n (v n) ≡ Some o) × IsNumbered (tree_of v table) n o)
    × (IsFalse (is_placed_node (v n)) → ¬ HasPath (tree_of v table) n)

-- what isn't a file and isn't the root lies on the trail to a directory just where its path is a
-- beginning of that one's
abbrev pub TrailsTellBelow : Type 0
TrailsTellBelow =
    (limits : Limits) (v : Volume) (p w : Path) (trail : List ℕ) (n : ℕ)
    → IsVolume limits v → Trails (entries v) w trail → number_at (entries v) p ≡ Some n → IsFalse (is_file_node (v n)) → 1 ≤ length p
    → Contains trail n ↔ IsTrue (begins_with w p)

-- what lies below an object by its number is what lies below its path
abbrev pub BelowIsByPaths : Type 0
BelowIsByPaths =
    (limits : Limits) (v : Volume) (p w : Path) (n k : ℕ)
    → IsVolume limits v → number_at (entries v) p ≡ Some n → number_at (entries v) w ≡ Some k → IsFalse (is_file_node (v k))
    → IsBelow (entries v) n k ↔ IsTrue (begins_with w p)

-- of a mounted volume, the least number that no object has is that of a new object
abbrev pub VolumesTellFresh : Type 0
VolumesTellFresh =
    (limits : Limits) (v : Volume) (table : ℕ → Option Description) (n : ℕ) → IsVolume limits v → IsMounted v table
    → FIRST_NUMBER ≤ n → n < limits.inodes → v n ≡ None → ((k : ℕ) → FIRST_NUMBER ≤ k → k < n → IsSome (v k)) → IsFresh limits (tree_of v table) n

-- of a mounted volume, the numbers that its tree uses are those that an object has
abbrev pub VolumesTellUsed : Type 0
VolumesTellUsed =
    (limits : Limits) (v : Volume) (table : ℕ → Option Description) (n : ℕ)
    → IsVolume limits v → IsMounted v table → IsUsed (tree_of v table) n ↔ IsSome (v n)

-- in a volume, a file's count of names is its count of paths
abbrev pub VolumesTellLinks : Type 0
VolumesTellLinks =
    (limits : Limits) (v : Volume) (table : ℕ → Option Description) (n : ℕ) (attributes : Attributes) (links : ℕ) (bytes : List ℕ) → IsVolume limits v
    → v n ≡ Some (file_node attributes links bytes) → HasLinks (tree_of v table) (file n) links

-- a record costs the same in a replay as when it was logged
abbrev pub ReplaysCostTheSame : Type 0
ReplaysCostTheSame =
    (limits : Limits) (running replayed : Volume) (change : Change)
    → Extends running replayed → Applies limits running change → work_of replayed change ≡ work_of running change

-- records that apply one after the other leave a volume
abbrev pub ReplaysKeepVolumes : Type 0
ReplaysKeepVolumes =
    (limits : Limits) (v : Volume) (changes : List Change) (w : Volume) → IsVolume limits v → Replays limits v changes w → IsVolume limits w

-- a mount finds a mounted volume, with no file open: the replayed one without the files that have
-- no name
abbrev pub MountsFind : Type 0
MountsFind =
    (limits : Limits) (w : Volume) → IsVolume limits w
    → IsVolume limits (without_orphans w) × IsMounted (without_orphans w) (λ d. None)

-- the tree that a mount finds is that of the running volume with its open files forgotten
abbrev pub MountsForget : Type 0
MountsForget =
    (limits : Limits) (running replayed : Volume) (table : ℕ → Option Description) → IsVolume limits running → Extends running replayed
    → ForgetsOpenFiles (tree_of running table) (tree_of (without_orphans replayed) (λ d. None))
