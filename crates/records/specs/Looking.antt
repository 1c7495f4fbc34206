-- What looking into an image for something comes to.
use Rattle.std.specs.Prelude.{ℕ, List, Result, IfOk, IsErrOf, OnOk}
use Rattle.layout.specs.declared.inode.Inode.{Inode}
use Rattle.model.specs.Volumes.{Volume}
use Rattle.buffers.specs.declared.blocks.Blocks.{Ghosts}
use Rattle.buffers.specs.Errors.{IsFault}
use Rattle.buffers.specs.declared.error.BlockError.{BlockError}
use Rattle.buffers.specs.declared.error.BlockError.TheVariants.{Damaged}
use Rattle.images.specs.Soundness.{Detail}
use Rattle.inofile.specs.Inodes.{HasRoomFor, IsKnown}
use Rattle.inofile.specs.declared.inode_file.InodeFile.{InodeFile}
use Rattle.paths.specs.Standing.{Looks, NeverDamagedIn, StandsIn}

-- what is true of something that was found, by the volume that memory stands for in so much detail
abbrev pub Finding : Type 0 → Type 1
Finding T = Detail → (ℕ → List ℕ) → (ℕ → Inode) → Volume → T → Type 0

-- This is true of what is found, whatever volume memory stands for. Memory keeps what it knows, and
-- the room that it has.
pub record Finds {B T : Type 0} (G : Ghosts B) (blocks after : B) (s t : InodeFile) (P : Finding T) (result : Result T BlockError) : Type 0 where
  pub looks : Looks G IsFault blocks after s t result
  pub stays : (n : ℕ) → IsKnown s n → IsKnown t n
  pub keeps : (n : ℕ) → HasRoomFor s n → HasRoomFor t n
  pub found : {detail : Detail} (disk : ℕ → List ℕ) (settled : ℕ → Inode) (v : Volume) → StandsIn detail G disk settled v blocks s
      → IfOk result (P detail disk settled v)
  pub damaged : {detail : Detail} → NeverDamagedIn detail G blocks s result

-- An object comes into memory, of which this is known then. Memory keeps what it knew, and the room
-- that it had.
pub record Brings {B T : Type 0} (G : Ghosts B) (blocks after : B) (s t : InodeFile) (Known : InodeFile → Type 0) (result : Result T BlockError) : Type 0 where
  pub looks : Looks G IsFault blocks after s t result
  pub stays : (n : ℕ) → IsKnown s n → IsKnown t n
  pub keeps : (n : ℕ) → HasRoomFor s n → HasRoomFor t n
  pub known : OnOk result (Known t)
  pub damaged : {detail : Detail} (disk : ℕ → List ℕ) (settled : ℕ → Inode) (v : Volume) → StandsIn detail G disk settled v blocks s
      → IsErrOf result Damaged → ⊥
