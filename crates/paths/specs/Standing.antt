-- Memory over the blocks of a disk, and what looking into an image does.
use Rattle.std.specs.Prelude.{ℕ, ◌≡◌, List, Result, IsErrOf}
use Rattle.layout.specs.declared.inode.Inode.{Inode}
use Rattle.model.specs.Volumes.{Volume}
use Rattle.buffers.specs.declared.error.BlockError.{BlockError}
use Rattle.buffers.specs.declared.error.BlockError.TheVariants.{Damaged}
use Rattle.buffers.specs.Reads.{ReadsBlocks}
use Rattle.buffers.specs.declared.blocks.Blocks.{Ghosts}
use Rattle.images.specs.Soundness.{Detail, by_bytes}
use Rattle.inofile.specs.Room.{NeedsNoMore}
use Rattle.inofile.specs.Volumes.{IsVolumeIn}
use Rattle.inofile.specs.declared.inode_file.InodeFile.{InodeFile}

-- the blocks show a disk, over which memory stands for a volume, in so much detail
pub record StandsIn {B : Type 0} (detail : Detail) (G : Ghosts B) (disk : ℕ → List ℕ) (settled : ℕ → Inode) (v : Volume) (blocks : B) (s : InodeFile) : Type 0 where
  pub shows : G.Shows blocks disk
  pub volume : IsVolumeIn detail (G.count blocks) disk settled s v

abbrev pub Stands : {B : Type 0} → Ghosts B → (ℕ → List ℕ) → (ℕ → Inode) → Volume → B → InodeFile → Type 0
Stands G disk settled v blocks s = StandsIn by_bytes G disk settled v blocks s

-- Blocks are read, and objects come into memory. What memory stands for stays, and a consistency
-- point stores no more of it. IsFault tells which errors say that a device call failed.
pub record Looks {B T E : Type 0} (G : Ghosts B) (IsFault : E → Type 0) (blocks after : B) (s t : InodeFile) (result : Result T E) : Type 0 where
  pub reads : ReadsBlocks G IsFault blocks after result
  pub geometry : t.geometry ≡ s.geometry
  pub needs : NeedsNoMore s t
  pub kept : {detail : Detail} (disk : ℕ → List ℕ) (settled : ℕ → Inode) (v : Volume) → StandsIn detail G disk settled v blocks s
      → StandsIn detail G disk settled v after t

-- this holds of whatever memory stands for in so much detail
abbrev pub OnVolumesIn : {B : Type 0} → Detail → Ghosts B → B → InodeFile → ((ℕ → List ℕ) → (ℕ → Inode) → Volume → Type 0) → Type 0
OnVolumesIn detail G blocks s P =
    (disk : ℕ → List ℕ) (settled : ℕ → Inode) (v : Volume) → StandsIn detail G disk settled v blocks s → P disk settled v

abbrev pub OnVolumes : {B : Type 0} → Ghosts B → B → InodeFile → ((ℕ → List ℕ) → (ℕ → Inode) → Volume → Type 0) → Type 0
OnVolumes G blocks s P = OnVolumesIn by_bytes G blocks s P

-- where memory stands for a volume, no block is found outside its format
abbrev pub NeverDamaged : {B T : Type 0} → Ghosts B → B → InodeFile → Result T BlockError → Type 0
NeverDamaged G blocks s result = OnVolumes G blocks s (λ disk settled v. IsErrOf result Damaged → ⊥)

-- nor is any where this is known in so much detail
abbrev pub NeverDamagedIn : {B T : Type 0} → Detail → Ghosts B → B → InodeFile → Result T BlockError → Type 0
NeverDamagedIn detail G blocks s result =
    OnVolumesIn detail G blocks s (λ disk settled v. IsErrOf result Damaged → ⊥)
