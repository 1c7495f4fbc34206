-- What looking into an image does to memory.
use Rattle.std.specs.Prelude.{ℕ, ◌↔◌, List, Result, IfOk, IsErrOf, OnOk}
use Rattle.layout.specs.declared.inode.Inode.{Inode}
use Rattle.buffers.specs.Errors.{IsFault}
use Rattle.buffers.specs.declared.error.BlockError.{BlockError}
use Rattle.buffers.specs.declared.error.BlockError.TheVariants.{Damaged}
use Rattle.buffers.specs.declared.blocks.Blocks.{Ghosts}
use Rattle.images.specs.Soundness.{Detail}
use Rattle.inofile.specs.Inodes.{IsKnown, HasRoomFor, IsChanged}
use Rattle.inofile.specs.declared.inode_file.InodeFile.{InodeFile}
use Rattle.model.specs.Volumes.{Volume}
use Rattle.paths.specs.Standing.{Looks, NeverDamaged, NeverDamagedIn, OnVolumes, StandsIn}

-- Objects come into memory. None goes out of it, and none changes.
pub record OnlyLoads (old new : InodeFile) : Type 0 where
  pub known : (n : ℕ) → IsKnown old n → IsKnown new n
  pub room : (n : ℕ) → HasRoomFor old n → HasRoomFor new n
  pub changed : (n : ℕ) → IsChanged new n ↔ IsChanged old n

-- an object is taken into memory
pub record TakesIn {B T : Type 0} (G : Ghosts B) (blocks after : B) (s t : InodeFile) (number : ℕ) (result : Result T BlockError) : Type 0 where
  pub looks : Looks G IsFault blocks after s t result
  pub loads : OnlyLoads s t
  pub known : OnOk result (IsKnown t number)
  pub damaged : {detail : Detail} (disk : ℕ → List ℕ) (settled : ℕ → Inode) (v : Volume) → StandsIn detail G disk settled v blocks s
      → IsErrOf result Damaged → ⊥

-- Something is looked up. What is found is in its limits, whatever memory stands for; and it is
-- right of the volume that memory stands for.
pub record LooksUp {B T : Type 0} (G : Ghosts B) (blocks after : B) (s t : InodeFile) (IsWithin : T → Type 0) (IsFound : Volume → T → Type 0) (result : Result T BlockError) : Type 0 where
  pub looks : Looks G IsFault blocks after s t result
  pub loads : OnlyLoads s t
  pub within : IfOk result IsWithin
  pub found : OnVolumes G blocks s (λ disk settled v. IfOk result (IsFound v))
  pub damaged : NeverDamaged G blocks s result

-- Something is looked up that no file's bytes tell: so it is right in whatever detail memory stands
-- for the volume.
pub record LooksInto {B T : Type 0} (G : Ghosts B) (blocks after : B) (s t : InodeFile) (IsWithin : T → Type 0) (IsFound : Volume → T → Type 0) (result : Result T BlockError) : Type 0 where
  pub looks : Looks G IsFault blocks after s t result
  pub loads : OnlyLoads s t
  pub within : IfOk result IsWithin
  pub found : {detail : Detail} (disk : ℕ → List ℕ) (settled : ℕ → Inode) (v : Volume) → StandsIn detail G disk settled v blocks s
      → IfOk result (IsFound v)
  pub damaged : {detail : Detail} → NeverDamagedIn detail G blocks s result

-- there are no limits
abbrev pub IsAny : {T : Type 0} → T → Type 0
IsAny x = Unit {0}
