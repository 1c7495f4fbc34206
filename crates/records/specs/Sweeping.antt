-- Files that are left with neither name nor descriptor.
use Rattle.std.specs.Prelude.{ℕ, ◌≡◌, ◌≤◌, IsTrue, List, Option, Some, None}
use Rattle.layout.specs.declared.inode.Inode.{Inode}
use Rattle.model.specs.Trees.{Description}
use Rattle.model.specs.Volumes.{Volume, is_file_node, is_open, swept_node, with_node}
use Rattle.model.specs.declared.limits.TheConstants.{OPEN_FILES}
use Rattle.inofile.specs.Room.{memory_room}
use Rattle.inofile.specs.Volumes.{IsVolumeOf}
use Rattle.inofile.specs.declared.inode_file.InodeFile.{InodeFile}

-- a volume without the file of a number, if there is a number, and a file of it with neither name
-- nor descriptor
abbrev pub without_file : (ℕ → Option Description) → Option ℕ → Volume → Volume
without_file table None v = v
without_file table (Some n) v = with_node n (swept_node (is_open table OPEN_FILES n) (v n)) v

-- a volume in which a number, if there is one, has what it has in another volume
abbrev pub with_object_of : Volume → Option ℕ → Volume → Volume
with_object_of w None v = v
with_object_of w (Some n) v = with_node n (w n) v

-- each open file is a file of the volume
abbrev pub OpensFiles : (ℕ → Option Description) → Volume → Type 0
OpensFiles table v = (d : ℕ) (f : Description) → table d ≡ Some f → IsTrue (is_file_node (v f.number))

-- memory stands for this volume, and may have to store no more for it than it had to for the one
-- before
abbrev pub StandsNoMore : Volume → ℕ → (ℕ → List ℕ) → (ℕ → Inode) → InodeFile → Volume → InodeFile → Volume → Type 0
StandsNoMore base count disk settled s v t w = IsVolumeOf count disk settled t w × (memory_room base t w ≤ memory_room base s v)
