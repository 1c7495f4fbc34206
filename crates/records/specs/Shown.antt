-- What calls promise over memory that stands for a volume.
use Rattle.std.specs.Prelude.{ℕ, List, Option}
use Rattle.layout.specs.StateLimits.{limits_of}
use Rattle.layout.specs.declared.inode.Inode.{Inode}
use Rattle.model.specs.Trees.{Description}
use Rattle.model.specs.Volumes.{Volume, IsMounted, IsVolume}
use Rattle.buffers.specs.declared.blocks.Blocks.{Ghosts}
use Rattle.inofile.specs.declared.inode_file.InodeFile.{InodeFile}
use Rattle.paths.specs.Standing.{Stands}
pub use Rattle.paths.specs.Standing.{NeverDamaged, NeverDamagedIn, OnVolumes, OnVolumesIn}

-- this holds of each volume that memory stands for, with descriptors that fit it
abbrev pub OnMounted : {B : Type 0} → Ghosts B → B → InodeFile → (Volume → (ℕ → Option Description) → Type 0) → Type 0
OnMounted G blocks s P =
    (disk : ℕ → List ℕ) (settled : ℕ → Inode) (v : Volume) (table : ℕ → Option Description) → Stands G disk settled v blocks s
    → IsVolume (limits_of s.geometry) v → IsMounted v table → P v table
