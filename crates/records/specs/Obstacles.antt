-- The first obstacle to a record, in the order of the tests of its call: what it does can't be done.
use Rattle.std.specs.Prelude.{ℕ, ◌≡◌, ◌≢◌, ◌≤◌, ◌<◌, Bool, true, IsFalse, IsTrue, Option, Some, None}
use Rattle.model.specs.declared.limits.Limits.{Limits}
use Rattle.model.specs.Laws.{is_own}
use Rattle.model.specs.Paths.{IsName, Name}
use Rattle.model.specs.Records.{CanEdit, Change, Edit, IsBelow, IsEmpty, IsMade, Made, TakesName, change_attributes, create, set_file, truncate, is_vacant, link, rename, remove_name, write}
use Rattle.model.specs.Volumes.{Volume, entries, is_directory_node, is_file_node}
use Rattle.model.specs.declared.errno.Errno.{Errno}
use Rattle.model.specs.declared.errno.Errno.TheVariants.{DAMAGED, DIRFULL, EEXIST, EFBIG, EINVAL, EISDIR, EMLINK, ENAMETOOLONG, ENOENT, ENOTDIR, ENOTEMPTY, EPERM}
use Rattle.model.specs.declared.limits.TheConstants.{FIRST_NUMBER}
use Rattle.records.specs.Steps.{IsFileWithLinks}

-- what keeps an object n from taking the name of another one, m: only one of them is a directory,
-- or m has names
abbrev pub BarsReplacing : Volume → ℕ → ℕ → Errno → Type 0
BarsReplacing v n m ENOTDIR = IsTrue (is_directory_node (v n)) × IsFalse (is_directory_node (v m))
BarsReplacing v n m EISDIR = IsFalse (is_directory_node (v n)) × IsTrue (is_directory_node (v m))
BarsReplacing v n m ENOTEMPTY = (is_directory_node (v m) ≡ is_directory_node (v n)) × (IsEmpty v m → ⊥)
BarsReplacing v n m errno = ⊥

-- what keeps an object in d from the name y of the directory k, by what has it: this can't be
-- replaced; or nothing has it, and k takes no name more
abbrev pub BarsTarget : Limits → Volume → ℕ → ℕ → ℕ → Name → Option ℕ → Errno → Type 0
BarsTarget limits v d n k y (Some m) errno = BarsReplacing v n m errno
BarsTarget limits v d n k y None DIRFULL = (d ≢ k) × (TakesName limits v k y → ⊥)
BarsTarget limits v d n k y None errno = ⊥

-- the same of a move, behind two tests: the object doesn't have the name already, and isn't put
-- below itself
abbrev pub BarsMove : Limits → Volume → ℕ → ℕ → ℕ → Name → Option ℕ → Errno → Type 0
BarsMove limits v d n k y target EEXIST = target ≡ Some n
BarsMove limits v d n k y target EINVAL = (target ≢ Some n) × IsBelow (entries v) n k
BarsMove limits v d n k y target errno = (target ≢ Some n) × (IsBelow (entries v) n k → ⊥) × BarsTarget limits v d n k y target errno

-- an object may be made of a number
abbrev pub MayBeMade : Limits → Volume → ℕ → Made → Type 0
MayBeMade limits v n made = (FIRST_NUMBER ≤ n) × (n < limits.inodes) × IsMade limits made × IsTrue (is_vacant (v n))

-- This is the first obstacle to what a record does, in the order of the tests of its call.
abbrev pub BarsEdit : Limits → Volume → Edit → Errno → Type 0
BarsEdit limits v (create n d made x) DAMAGED = MayBeMade limits v n made → ⊥
BarsEdit limits v (create n d made x) DIRFULL = MayBeMade limits v n made × (TakesName limits v d x → ⊥)
BarsEdit limits v (link n d x) ENAMETOOLONG = IsName x → ⊥
BarsEdit limits v (link n d x) EPERM = IsFalse (is_file_node (v n))
BarsEdit limits v (link n d x) EMLINK = (links : ℕ) × IsFileWithLinks links (v n) × (limits.file_names ≤ links)
BarsEdit limits v (link n d x) DIRFULL = (links : ℕ) × IsFileWithLinks links (v n) × (links < limits.file_names) × (TakesName limits v d x → ⊥)
BarsEdit limits v (remove_name d x) ENOENT = entries v d x ≡ None
BarsEdit limits v (remove_name d x) ENOTEMPTY = (n : ℕ) × (entries v d x ≡ Some n) × (IsEmpty v n → ⊥)
BarsEdit limits v (rename d x k y) ENAMETOOLONG = IsName y → ⊥
BarsEdit limits v (rename d x k y) ENOENT = entries v d x ≡ None
BarsEdit limits v (rename d x k y) errno = (n : ℕ) × (entries v d x ≡ Some n) × BarsMove limits v d n k y (entries v k y) errno
BarsEdit limits v (write n offset bytes) EFBIG = CanEdit limits v (write n offset bytes) → ⊥
BarsEdit limits v (truncate n size) EFBIG = CanEdit limits v (truncate n size) → ⊥
BarsEdit limits v (set_file n mode size) EFBIG = CanEdit limits v (set_file n mode size) → ⊥
BarsEdit limits v (change_attributes n permissions modified) DAMAGED =
    CanEdit limits v (change_attributes n permissions modified) → ⊥
BarsEdit limits v edit errno = ⊥

-- an errno that tells an obstacle: one of the call's own, or that a number of the record isn't as
-- it must be
abbrev pub may_bar : Edit → Errno → Bool
may_bar (create n d made x) DAMAGED = true
may_bar (change_attributes n permissions modified) DAMAGED = true
may_bar edit errno = is_own errno

-- both of a record
abbrev pub IsObstacle : Limits → Volume → Change → Errno → Type 0
IsObstacle limits v change errno = BarsEdit limits v change.edit errno

abbrev pub tells_obstacle : Change → Errno → Bool
tells_obstacle change errno = may_bar change.edit errno
