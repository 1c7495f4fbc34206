-- What a call by a path is told of where the path leads.
use Rattle.std.specs.Prelude.{ℕ, ◌≡◌, ◌≢◌, ◌⊎◌, Bool, IsSome, IsTrue, IfErr, IfOk, List, Option, Some, None, Result, Ok, Err}
use Rattle.model.specs.declared.limits.Limits.{Limits}
use Rattle.layout.specs.StateLimits.{limits_of}
use Rattle.layout.specs.declared.inode.Inode.{Inode}
use Rattle.model.specs.Finding.{here}
use Rattle.model.specs.Paths.{Path, Tests, first_refusal, parts_behind, start_number}
use Rattle.model.specs.Resolution.{Resolution, named, missing, refused}
use Rattle.model.specs.Trees.{Description, Object, Tree, is_directory}
use Rattle.model.specs.Volumes.{Volume, IsVolume, entries, number_at, object_of, tree_of}
use Rattle.model.specs.declared.errno.Errno.{Errno}
use Rattle.model.specs.declared.errno.Errno.TheVariants.{ENOENT}
use Rattle.buffers.specs.Errors.{IsFault}
use Rattle.buffers.specs.declared.blocks.Blocks.{Ghosts}
use Rattle.inofile.specs.declared.inode_file.InodeFile.{InodeFile}
use Rattle.paths.specs.Numbers.{IsInodeNumber}
use Rattle.paths.specs.Standing.{Looks, Stands}
use Rattle.paths.specs.Starts.{IsAlone, Reaches}
use Rattle.paths.specs.Steps.{found_in}
use Rattle.paths.specs.declared.lookup.Found.TheVariants as found
use Rattle.paths.specs.declared.place.Place.{Place}
use Rattle.paths.specs.declared.place.Place.TheVariants.{Directory, Entry, Missing, Refusal}
use Rattle.records.specs.Failures.{read_outcome}
use Rattle.records.specs.Shown.{NeverDamaged, OnVolumes}
use Rattle.records.specs.declared.failure.Failure.{Failure}
use Rattle.calls.specs.Refusals.{is_path_refusal}

-- the number of what stands where a path leads, or the refusal: ENOENT where nothing stands there
abbrev pub LeadsTo : Volume → Resolution → Result ℕ Errno → Type 0
LeadsTo v (named p) (Ok n) = (number_at (entries v) p ≡ Some n) × IsSome (v n)
LeadsTo v (missing p name) (Err errno) = errno ≡ ENOENT
LeadsTo v (refused other) (Err errno) = errno ≡ other
LeadsTo v _ _ = ⊥

-- what a place tells of what stands there
abbrev pub led_of : Place → Result ℕ Errno
led_of (Directory trail) = Ok (here trail)
led_of (Entry trail name number) = Ok number
led_of (Missing trail name) = Err ENOENT
led_of (Refusal errno) = Err errno

-- the same where the text of a path leads, from the root or from a number
abbrev pub LeadsAlong : Tree → Volume → Bool → List ℕ → Result ℕ Errno → Type 0
LeadsAlong t v follow text (Ok n) =
    ((r : Resolution) × Reaches t follow text r × LeadsTo v r (Ok n))
    ⊎ ((start_number text ≡ Some n) × IsAlone t v follow (parts_behind text) n)
LeadsAlong t v follow text (Err errno) =
    (r : Resolution) × Reaches t follow text r × LeadsTo v r (Err errno)

-- the same behind tests of the path's text
abbrev pub IsLed : Tests → Tree → Volume → Bool → List ℕ → Result ℕ Errno → Type 0
IsLed tests t v follow text (Ok n) =
    (first_refusal tests ≡ None) × LeadsAlong t v follow text (Ok n)
IsLed tests t v follow text (Err errno) =
    (first_refusal tests ≡ Some errno)
    ⊎ ((first_refusal tests ≡ None) × LeadsAlong t v follow text (Err errno))

-- this is known of what stands where a path leads: its number, and the path of a directory
pub record IsFoundAs (v : Volume) (n : ℕ) (p : Path) (o : Object) : Type 0 where
  pub here : object_of n (v n) ≡ Some o
  pub at : IsTrue (is_directory (Some o)) → number_at (entries v) p ≡ Some n

-- Nothing is done but looking; a number is one of an object, an errno one of paths; and over memory
-- that stands for a volume this is told of where the text leads, a last link isn't told where it is
-- followed, and no damage is found.
pub record TellsWhere {B : Type 0} (G : Ghosts B) (blocks after : B) (s t : InodeFile) (follow : Bool)
    (answer : Limits → Tree → Volume → Result ℕ Errno → Type 0) (result : Result ℕ Failure) : Type 0 where
  pub looks : Looks G IsFault blocks after s t (read_outcome result)
  pub within : IfOk (read_outcome result) (λ r. IfOk r (IsInodeNumber s.geometry.inodes))
  pub own : IfOk (read_outcome result) (λ r. IfErr r (λ e. IsTrue (is_path_refusal e)))
  pub leads : (disk : ℕ → List ℕ) (settled : ℕ → Inode) (v : Volume) (table : ℕ → Option Description)
      → Stands G disk settled v blocks s → IsVolume (limits_of s.geometry) v
      → IfOk (read_outcome result) (answer (limits_of s.geometry) (tree_of v table) v)
  pub followed : OnVolumes G blocks s (λ disk settled v. IsVolume (limits_of s.geometry) v → IsTrue follow
      → IfOk (read_outcome result) (λ r. IfOk r (λ n. found_in (v n) ≢ found.Link)))
  pub damaged : NeverDamaged G blocks s (read_outcome result)
