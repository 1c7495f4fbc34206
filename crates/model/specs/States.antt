-- The state of a file system, and what a mount finds of it.
use Rattle.std.specs.Prelude.{ℕ, ◌≡◌, ◌≢◌, ◌≤◌, All, AllPairs, length, List, [], Option, None}
use Rattle.model.specs.declared.limits.TheConstants.{SNAPSHOT_NAME_BYTES}
use Rattle.model.specs.declared.attributes.Permissions.{Permissions}
use Rattle.model.specs.declared.limits.Limits.{Limits}
use Rattle.model.specs.declared.time.Time.{Time}
use Rattle.model.specs.declared.session.Session.{Session}
use Rattle.model.specs.Sessions.{IsSession, call_time, new_permissions, new_session}
use Rattle.model.specs.Paths.{Name}
use Rattle.model.specs.Trees.{Tree, IsTree, HasPath, root_alone}

-- whether a system goes on, or waits for a mount after a failed write
pub data Mark : Type 0 where
  going : Mark
  failed : Mark  -- a write or a sync failed

-- what a file system shows: its tree, its snapshots, whether it goes on, and what the session says of
-- its calls
pub record State : Type 0 where
  pub limits : Limits  -- no command changes them
  pub tree : Tree
  pub snapshots : List (Name × Tree)  -- each with the tree as it was taken, oldest first
  pub mark : Mark
  pub session : Session

-- a snapshot's tree: one without descriptors, and so without files that have no name
pub record IsFrozen (limits : Limits) (t : Tree) : Type 0 where
  pub tree : IsTree limits t
  pub closed : t.descriptors ≡ (λ d. None)

-- a length that a snapshot's name may have
pub record IsShortName (name : Name) : Type 0 where
  pub some : 1 ≤ length name
  pub short : length name ≤ SNAPSHOT_NAME_BYTES

-- what makes these a state: trees within its limits, and no more snapshots than the limit, each
-- with a name of its own
pub record IsState (s : State) : Type 0 where
  pub tree : IsTree s.limits s.tree
  pub frozen : All (λ pair. IsFrozen s.limits pair.1) s.snapshots
  pub names : All (λ pair. IsShortName pair.0) s.snapshots
  pub few : length s.snapshots ≤ s.limits.snapshots
  pub once : AllPairs (λ a b. a.0 ≢ b.0) s.snapshots
  pub session : IsSession s.session

-- a file system as it is made: a root directory of mode 0755, and no snapshots
abbrev pub empty : Limits → State
empty limits = record { limits = limits; tree = root_alone 0o755; snapshots = []; mark = going; session = new_session }

-- the time of calls in a state, where its file system keeps times
abbrev pub now_of : State → Option Time
now_of s = call_time s.limits s.session

-- the permissions of an object that a call makes with a mode in a state
abbrev pub permissions_in : State → ℕ → Permissions
permissions_in s mode = new_permissions s.limits s.session mode

-- the state with another tree
abbrev pub with_tree : Tree → State → State
with_tree t s = record s { tree = t }

-- the state with other snapshots
abbrev pub with_snapshots : List (Name × Tree) → State → State
with_snapshots pairs s = record s { snapshots = pairs }

-- the state with another session
abbrev pub with_session : Session → State → State
with_session said s = record s { session = said }

-- the state of a system that failed, by a write or a sync
abbrev pub as_failed : State → State
as_failed s = record s { mark = failed }

-- the new tree is the old one without its descriptors, and without the files that have no name
pub record ForgetsOpenFiles (old new : Tree) : Type 0 where
  pub objects : new.objects ≡ old.objects
  pub descriptors : new.descriptors ≡ (λ d. None)
  pub kept : (n : ℕ) → HasPath old n → (new.bytes n ≡ old.bytes n) × (new.attributes n ≡ old.attributes n)
  pub gone : (n : ℕ) → ¬ HasPath old n → (new.bytes n ≡ None) × (new.attributes n ≡ None)

-- what a mount finds of a state that a cut or an end left: no open files, a session that said nothing
-- yet, and the mark is going
pub record Forgets (old new : State) : Type 0 where
  pub tree : ForgetsOpenFiles old.tree new.tree
  pub rest : new ≡ record old { tree = new.tree; mark = going; session = new_session }
