-- What a move does to names.
use Rattle.std.specs.Prelude.{ℕ, ◌≡◌, ◌≢◌, List, Option, Some, None, Result, Ok, Err}
use Rattle.layout.specs.declared.entry.Entry.{Entry}
use Rattle.layout.specs.declared.inode.Inode.{Inode}
use Rattle.model.specs.Paths.{Name}
use Rattle.model.specs.Records.{IsEmpty}
use Rattle.model.specs.Volumes.{Volume, entries, is_directory_node, with_name_less}
use Rattle.model.specs.declared.errno.Errno.{Errno}
use Rattle.model.specs.declared.errno.Errno.TheVariants.{EEXIST}
use Rattle.images.specs.Soundness.{Detail}
use Rattle.inode.specs.declared.object.Object.{Object}
use Rattle.records.specs.Obstacles.{BarsReplacing}
use Rattle.records.specs.Room.{UpdateRoom}
use Rattle.records.specs.Steps.{IsAlone, Updates}
use Rattle.records.specs.declared.naming.NameEdit.{NameEdit}
use Rattle.records.specs.declared.naming.NameEdit.TheVariants as edits
use Rattle.records.specs.declared.steps.ObjectUpdate.{ObjectUpdate}
use Rattle.records.specs.declared.steps.Update.{Update}

-- an object may take another one's name: both are directories or neither is, and a directory that
-- goes is empty
abbrev pub MayReplace : Volume → ℕ → ℕ → Type 0
MayReplace v n m = (m ≢ n) × (is_directory_node (v m) ≡ is_directory_node (v n)) × IsEmpty v m

-- an update takes a name of the object m, whatever it is in memory, and raises what its number
-- needs by six at the most
abbrev pub UpdateTakesName : Detail → (ℕ → List ℕ) → (ℕ → Inode) → Volume → ℕ → Update → Type 0
UpdateTakesName detail disk settled v m update = (count : ℕ) (o : Option Object) → Updates detail disk count (settled m) (v m) o update (with_name_less (v m)) × UpdateRoom o update 6

-- what becomes of the object m when it loses a name: an update where it has no names in it, and
-- else none
abbrev pub Releases : Detail → (ℕ → List ℕ) → (ℕ → Inode) → Volume → ℕ → Option Update → Type 0
Releases detail disk settled v m (Some update) = UpdateTakesName detail disk settled v m update × IsEmpty v m
Releases detail disk settled v m None = IsEmpty v m → ⊥

-- a step takes away the name of the object m, which n may take; or what keeps it from it: the
-- object is the same, or else what is told
abbrev pub ReplacesBy : Detail → (ℕ → List ℕ) → (ℕ → Inode) → Volume → ℕ → ℕ → Result ObjectUpdate Errno → Type 0
ReplacesBy detail disk settled v n m (Ok step) = (step.number ≡ m) × MayReplace v n m × UpdateTakesName detail disk settled v m step.update
ReplacesBy detail disk settled v n m (Err EEXIST) = m ≡ n
ReplacesBy detail disk settled v n m (Err errno) = (m ≢ n) × BarsReplacing v n m errno

-- a step, if there is one, depends on no object in memory
abbrev pub IsSomeAlone : Option ObjectUpdate → Type 0
IsSomeAlone None = Unit {0}
IsSomeAlone (Some step) = IsAlone step.update

-- the object n may take the name of what has it, if anything does, which a step takes away
abbrev pub Replaces : Detail → (ℕ → List ℕ) → (ℕ → Inode) → Volume → ℕ → Option ℕ → Option ObjectUpdate → Type 0
Replaces detail disk settled v n None None = Unit {0}
Replaces detail disk settled v n (Some m) (Some step) = (step.number ≡ m) × MayReplace v n m × UpdateTakesName detail disk settled v m step.update
Replaces detail disk settled v n target step = ⊥

-- the object n has the name x in d, and the target has the name y in k, or nothing has it where
-- there is none
pub record MovesOver (v : Volume) (d : ℕ) (x : Name) (n k : ℕ) (y : Name) (target : Option ℕ) : Type 0 where
  pub there : entries v d x ≡ Some n
  pub over : entries v k y ≡ target

-- the object n has the name x in d, may get the name y in k, and a step takes away the name of what
-- has it
pub record Moves (detail : Detail) (disk : ℕ → List ℕ) (settled : ℕ → Inode) (v : Volume) (d : ℕ) (x : Name) (n k : ℕ) (y : Name) (step : Option ObjectUpdate) : Type 0 where
  pub there : entries v d x ≡ Some n
  pub replaces : Replaces detail disk settled v n (entries v k y) step

-- how a directory gets a name from another one, by what is done to what had it there
abbrev pub edit_for : Entry → Option ObjectUpdate → NameEdit
edit_for entry None = edits.Add entry
edit_for entry (Some step) = edits.Replace entry
