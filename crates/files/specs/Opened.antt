-- What calls on descriptors promise over memory that stands for a volume, beside the table of open
-- files.
use Rattle.std.specs.Prelude.{ℕ, List}
use Rattle.layout.specs.StateLimits.{limits_of}
use Rattle.layout.specs.declared.inode.Inode.{Inode}
use Rattle.model.specs.Trees.{Tree}
use Rattle.model.specs.Volumes.{Volume, IsMounted, IsVolume, tree_of}
use Rattle.buffers.specs.declared.blocks.Blocks.{Ghosts}
use Rattle.inofile.specs.declared.inode_file.InodeFile.{InodeFile}
use Rattle.paths.specs.Standing.{Stands}
use Rattle.descriptors.specs.Fits.{FitsVolume}
use Rattle.descriptors.specs.Tables.{table_of}
use Rattle.descriptors.specs.declared.table.Descriptors.{Descriptors}

-- the tree of a volume with the descriptors of a table
abbrev pub tree_with : Descriptors → Volume → Tree
tree_with table v = tree_of v (table_of table)

-- this holds of each mounted volume that memory stands for and that the table fits
abbrev pub OnOpen : {B : Type 0} → Ghosts B → B → InodeFile → Descriptors → (Volume → Type 0) → Type 0
OnOpen G blocks s table P =
    (disk : ℕ → List ℕ) (settled : ℕ → Inode) (v : Volume) → Stands G disk settled v blocks s → IsVolume (limits_of s.geometry) v
    → IsMounted v (table_of table) → FitsVolume table v → P v
