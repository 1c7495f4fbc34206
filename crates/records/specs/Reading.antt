-- What reading the file with a number comes to.
use Rattle.std.specs.Prelude.{ℕ, zero, suc, ◌≡◌, Bool, true, false, IsTrue, IsFalse, List, [], length, Option, Some, None, unwrap_or}
use Rattle.layout.specs.declared.inode.Body.{Body}
use Rattle.layout.specs.declared.inode.Body.TheVariants.{Inline, Pointers}
use Rattle.layout.specs.declared.inode.Inode.{Inode}
use Rattle.layout.specs.declared.pointer.Pointer.{Pointer}
use Rattle.blocktree.specs.Trees.{is_block, is_stored}
use Rattle.buffers.specs.declared.blocks.Blocks.{Ghosts}
use Rattle.images.specs.Nodes.{place_at_height}
use Rattle.inode.specs.declared.object.Object.{Object}
use Rattle.inofile.specs.Inodes.{loaded}
use Rattle.inofile.specs.declared.inode_file.InodeFile.{InodeFile}
use Rattle.model.specs.Holes.{TellsExtent}
use Rattle.model.specs.declared.reply.Extent.{Extent}
use Rattle.model.specs.Edits.{read_at}
use Rattle.model.specs.Volumes.{Volume, bytes_of_node, is_file_node}

-- its bytes from an offset on, as far as there are any, or that it is none
abbrev pub ReadsNumber : Volume → ℕ → ℕ → ℕ → Option (List ℕ) → Type 0
ReadsNumber v n offset count (Some bytes) =
    IsTrue (is_file_node (v n)) × (bytes ≡ read_at offset count (unwrap_or (bytes_of_node (v n)) []))
ReadsNumber v n offset count None = IsFalse (is_file_node (v n))

-- so it is told which blocks of files are stored, by number and index: of each file in memory it is
-- right over this disk
abbrev pub TellsStored : (ℕ → List ℕ) → InodeFile → (ℕ → ℕ → Bool) → Type 0
TellsStored disk s stored =
    (n : ℕ) (o : Object) → loaded s n ≡ Some o → (k : ℕ) → stored n k ≡ is_stored disk o.file.tree k

-- whether block k of a file is stored, by the body of its inode and where the inode leads for it:
-- bytes that stand in an inode are the file's block 0
abbrev pub body_stores : Body → Pointer → ℕ → Bool
body_stores (Inline bytes) place zero = true
body_stores (Inline bytes) place (suc k) = false
body_stores (Pointers pointers) place k = is_block place

-- the same of a settled inode
abbrev pub settled_stored : (ℕ → List ℕ) → Inode → ℕ → Bool
settled_stored disk inode k = body_stores inode.body (place_at_height disk inode 0 k) k

-- and of each file that isn't in memory, it is right by its settled inode
abbrev pub TellsSettled : (ℕ → List ℕ) → (ℕ → Inode) → InodeFile → (ℕ → ℕ → Bool) → Type 0
TellsSettled disk settled s stored =
    (n : ℕ) → loaded s n ≡ None → (k : ℕ) → stored n k ≡ settled_stored disk (settled n) k

-- whether block k is stored of an object in memory, or else of its settled inode
abbrev pub stored_by : (ℕ → List ℕ) → Inode → Option Object → ℕ → Bool
stored_by disk settled (Some o) k = is_stored disk o.file.tree k
stored_by disk settled None k = settled_stored disk settled k

-- the same by numbers, which tells what is stored
abbrev pub stored_in : (ℕ → List ℕ) → (ℕ → Inode) → InodeFile → ℕ → ℕ → Bool
stored_in disk settled s n k = stored_by disk (settled n) (loaded s n) k

-- what of the file with a number is stored, told from an offset on, or that it is none
abbrev pub TellsNumber : Volume → (ℕ → Bool) → ℕ → ℕ → Option Extent → Type 0
TellsNumber v stored n offset (Some extent) =
    IsTrue (is_file_node (v n)) × TellsExtent stored (length (unwrap_or (bytes_of_node (v n)) [])) offset extent
TellsNumber v stored n offset None = IsFalse (is_file_node (v n))

-- the same by whatever tells right over the disk that blocks show
abbrev pub ShowsExtent : {B : Type 0} → Ghosts B → B → InodeFile → Volume → ℕ → ℕ → Option Extent → Type 0
ShowsExtent G blocks s v n offset found =
    (disk : ℕ → List ℕ) (stored : ℕ → ℕ → Bool) → G.Shows blocks disk → TellsStored disk s stored
    → TellsNumber v (stored n) n offset found
