-- What looking up where the parts of a path lead promises.
use Rattle.std.specs.Prelude.{ℕ, ◌≡◌, ◌&&◌, List, [], Bool, true, false, IsFalse, Option, None, Result, IfOk}
use Rattle.std.specs.List.{list_any}
use Rattle.layout.specs.StateLimits.{limits_of}
use Rattle.layout.specs.declared.inode.Inode.{Inode}
use Rattle.model.specs.Finding.{IsPlaceAt, IsPlaceOf, find_within}
use Rattle.model.specs.Paths.{Name, is_dot_dot, is_empty, is_number_alone, parts, parts_behind, start_number, starts_at_number}
use Rattle.model.specs.Resolution.{Resolution, resolve}
use Rattle.model.specs.Trees.{Description}
use Rattle.model.specs.Volumes.{IsVolume, Volume, tree_of}
use Rattle.model.specs.declared.limits.TheConstants.{LINKS_FOLLOWED}
use Rattle.buffers.specs.Errors.{IsFault}
use Rattle.buffers.specs.declared.error.BlockError.{BlockError}
use Rattle.buffers.specs.declared.blocks.Blocks.{Ghosts}
use Rattle.inofile.specs.declared.inode_file.InodeFile.{InodeFile}
use Rattle.paths.specs.Ends.{EndsInName, EndsWell, IsAtName, TellsName}
use Rattle.paths.specs.Loads.{OnlyLoads}
use Rattle.paths.specs.Places.{model_place_of, IsPlaceWithin}
use Rattle.paths.specs.Standing.{Looks, NeverDamaged, OnVolumes, Stands}
use Rattle.paths.specs.Starts.{Reaches, IsTargetAtName, IsTargetWithin, TargetEndsWell, TargetTellsName, TellsFrom, TellsTarget}
use Rattle.paths.specs.declared.place.Place.{Place}
use Rattle.paths.specs.declared.place.Target.{Target}
use Rattle.paths.specs.declared.place.Target.TheVariants as target

-- It is found where the parts of a path lead from the root: as the model says of the numbers, and
-- of the tree.
pub record ResolvesParts {B : Type 0} (G : Ghosts B) (blocks after : B) (s t : InodeFile) (path : List Name) (follow : Bool) (result : Result Place BlockError) : Type 0 where
  pub looks : Looks G IsFault blocks after s t result
  pub loads : OnlyLoads s t
  pub within : IfOk result (IsPlaceWithin s.geometry.inodes)
  pub place : OnVolumes G blocks s (λ disk settled v. IfOk result (λ p. model_place_of p ≡ find_within LINKS_FOLLOWED v follow [] path))
  pub found : (disk : ℕ → List ℕ) (settled : ℕ → Inode) (v : Volume) (table : ℕ → Option Description) (text : List ℕ)
      → Stands G disk settled v blocks s → IsVolume (limits_of s.geometry) v → path ≡ parts text
      → IfOk result (λ p. IsPlaceOf v (model_place_of p) (resolve (tree_of v table) follow text))
  pub ends : OnVolumes G blocks s (λ disk settled v. IsVolume (limits_of s.geometry) v → IfOk result (λ p. EndsWell v follow (model_place_of p)))
  pub named : OnVolumes G blocks s (λ disk settled v. IsFalse follow → EndsInName path → IfOk result (λ p. IsAtName (model_place_of p)))
  pub damaged : NeverDamaged G blocks s result

-- It is found where names lead from a number.
pub record ResolvesFrom {B : Type 0} (G : Ghosts B) (blocks after : B) (s t : InodeFile) (n : ℕ) (names : List Name) (follow : Bool) (result : Result Target BlockError) : Type 0 where
  pub looks : Looks G IsFault blocks after s t result
  pub loads : OnlyLoads s t
  pub within : IfOk result (IsTargetWithin s.geometry.inodes)
  pub found : (disk : ℕ → List ℕ) (settled : ℕ → Inode) (v : Volume) (table : ℕ → Option Description)
      → Stands G disk settled v blocks s → IsVolume (limits_of s.geometry) v → IsFalse (list_any is_dot_dot names)
      → IfOk result (TellsFrom (tree_of v table) v follow names n)
  pub ends : OnVolumes G blocks s (λ disk settled v. IsVolume (limits_of s.geometry) v → IfOk result (TargetEndsWell v follow))
  pub named : OnVolumes G blocks s (λ disk settled v. IsFalse follow → EndsInName names → IfOk result IsTargetAtName)
  pub tells : OnVolumes G blocks s (λ disk settled v. IfOk result (TargetTellsName v))
  pub alone : IfOk result (λ x. (k : ℕ) → x ≡ target.Object k → is_empty names ≡ true)
  pub damaged : NeverDamaged G blocks s result

-- no part behind a number leads up
abbrev pub LeadsUpNowhere : List ℕ → Type 0
LeadsUpNowhere text = (starts_at_number text && list_any is_dot_dot (parts text)) ≡ false

-- this is where a text leads from the root
abbrev pub IsRooted : Volume → Resolution → Target → Type 0
IsRooted v r (target.Place p) = IsPlaceOf v (model_place_of p) r
IsRooted v r (target.Object n) = ⊥

-- It is found where the text of a path leads, from the root or from a number, behind which no part
-- leads up.
pub record Resolves {B : Type 0} (G : Ghosts B) (blocks after : B) (s t : InodeFile) (text : List ℕ) (follow : Bool) (result : Result Target BlockError) : Type 0 where
  pub looks : Looks G IsFault blocks after s t result
  pub loads : OnlyLoads s t
  pub within : IfOk result (IsTargetWithin s.geometry.inodes)
  pub found : (disk : ℕ → List ℕ) (settled : ℕ → Inode) (v : Volume) (table : ℕ → Option Description)
      → Stands G disk settled v blocks s → IsVolume (limits_of s.geometry) v → LeadsUpNowhere text
      → IfOk result (TellsTarget (tree_of v table) v follow text)
  pub rooted : (disk : ℕ → List ℕ) (settled : ℕ → Inode) (v : Volume) (table : ℕ → Option Description)
      → Stands G disk settled v blocks s → IsVolume (limits_of s.geometry) v → start_number text ≡ None
      → IfOk result (IsRooted v (resolve (tree_of v table) follow text))
  pub ends : OnVolumes G blocks s (λ disk settled v. IsVolume (limits_of s.geometry) v → IfOk result (TargetEndsWell v follow))
  pub named : OnVolumes G blocks s (λ disk settled v. IsFalse follow → EndsInName (parts_behind text) → IfOk result IsTargetAtName)
  pub tells : OnVolumes G blocks s (λ disk settled v. IfOk result (TargetTellsName v))
  pub alone : IfOk result (λ x. (k : ℕ) → x ≡ target.Object k → is_number_alone text ≡ true)
  pub damaged : NeverDamaged G blocks s result

-- It is found where the text of a path leads that isn't a number alone.
pub record ResolvesPlace {B : Type 0} (G : Ghosts B) (blocks after : B) (s t : InodeFile) (text : List ℕ) (follow : Bool) (result : Result Place BlockError) : Type 0 where
  pub looks : Looks G IsFault blocks after s t result
  pub loads : OnlyLoads s t
  pub within : IfOk result (IsPlaceWithin s.geometry.inodes)
  pub found : (disk : ℕ → List ℕ) (settled : ℕ → Inode) (v : Volume) (table : ℕ → Option Description)
      → Stands G disk settled v blocks s → IsVolume (limits_of s.geometry) v → LeadsUpNowhere text
      → IfOk result (λ p. (r : Resolution) × Reaches (tree_of v table) follow text r × IsPlaceAt v (model_place_of p) r)
  pub rooted : (disk : ℕ → List ℕ) (settled : ℕ → Inode) (v : Volume) (table : ℕ → Option Description)
      → Stands G disk settled v blocks s → IsVolume (limits_of s.geometry) v → start_number text ≡ None
      → IfOk result (λ p. IsPlaceOf v (model_place_of p) (resolve (tree_of v table) follow text))
  pub ends : OnVolumes G blocks s (λ disk settled v. IsVolume (limits_of s.geometry) v → IfOk result (λ p. EndsWell v follow (model_place_of p)))
  pub named : OnVolumes G blocks s (λ disk settled v. IsFalse follow → EndsInName (parts_behind text) → IfOk result (λ p. IsAtName (model_place_of p)))
  pub tells : OnVolumes G blocks s (λ disk settled v. IfOk result (λ p. TellsName v (model_place_of p)))
  pub damaged : NeverDamaged G blocks s result
