-- A file in memory, and a change of it that is prepared.
use Rattle.std.specs.Prelude.{ℕ, ◌≡◌, ◌⊎◌, ◌+◌, ◌<◌, ◌≤◌, min, List, length}
use Rattle.layout.specs.FileBytes.{byte_in, first_bytes, EndsAt}
use Rattle.layout.specs.declared.TheConstants.{BLOCK_BYTES}
use Rattle.layout.specs.Trees.{greatest_size}
use Rattle.layout.specs.declared.inode.Inode.{Inode}
use Rattle.blocktree.specs.Trees.{tree_block, HasRoom, IsChanged, KeepsSound, SameBlocks, SameChanges, SameSettled}
use Rattle.blocktree.specs.Places.{block_count}
use Rattle.images.specs.Nodes as nodes
use Rattle.inode.specs.Bases.{KeepsBase}
use Rattle.blocktree.specs.declared.tree.BlockTree.{BlockTree}
use Rattle.inode.specs.Changes.{changed_block}
use Rattle.inode.specs.declared.file.File.{File}
use Rattle.inode.specs.declared.file_update.FileUpdate.{FileUpdate}

-- block i of a file
abbrev pub file_block : (ℕ → List ℕ) → File → ℕ → List ℕ
file_block disk f = tree_block disk f.tree

-- each block of a file is the one that an image has for this inode
abbrev pub IsAsHeld : (ℕ → List ℕ) → Inode → File → Type 0
IsAsHeld disk inode f = (i : ℕ) → file_block disk f i ≡ nodes.file_block (nodes.held disk inode) i

-- the byte at a position of a file
abbrev pub byte_at : (ℕ → List ℕ) → File → ℕ → ℕ
byte_at disk f = byte_in (file_block disk f)

-- all bytes past the size are 0
abbrev pub IsFile : (ℕ → List ℕ) → File → Type 0
IsFile disk f = EndsAt f.size (byte_at disk f)

-- the bytes of a file
abbrev pub bytes_of_file : (ℕ → List ℕ) → File → List ℕ
bytes_of_file disk f = first_bytes (byte_at disk f) f.size

-- block i of a file as if a change were in force
abbrev pub block_with : (ℕ → List ℕ) → File → FileUpdate → ℕ → List ℕ
block_with disk f w = changed_block (file_block disk f) w.size w.first w.pieces.items

-- the byte at a position of a file as if a change were in force
abbrev pub byte_with : (ℕ → List ℕ) → File → FileUpdate → ℕ → ℕ
byte_with disk f w = byte_in (block_with disk f w)

-- the bytes of a file as if a change were in force
abbrev pub bytes_with : (ℕ → List ℕ) → File → FileUpdate → List ℕ
bytes_with disk f w = first_bytes (byte_with disk f w) w.size

-- a file with these blocks may have the size of a change, and there is room for each block of it
pub record Fits (t : BlockTree) (w : FileUpdate) : Type 0 where
  pub size : w.size ≤ greatest_size t.layout
  pub room : (j : ℕ) → j < length w.pieces.items → HasRoom t (w.first + j)

-- What a prepared change makes of a file's blocks: it puts these anew, and has read those; up to
-- the new end the rest stays as it was.
pub record ChangesBlocks (disk : ℕ → List ℕ) (f : File) (w : FileUpdate) (Read Put : ℕ → Type 0) : Type 0 where
  pub read : (i : ℕ) → Read i → length (file_block disk f i) ≡ BLOCK_BYTES
  pub put : (i : ℕ) → Put i → length (block_with disk f w i) ≡ BLOCK_BYTES
  pub past : (i : ℕ) → block_count w.size ≤ i → length (block_with disk f w i) ≡ BLOCK_BYTES
  pub rest : (i : ℕ) → (Put i → ⊥) → i < block_count w.size → block_with disk f w i ≡ file_block disk f i

-- a prepared change changes block j
abbrev pub IsPiece : FileUpdate → ℕ → Type 0
IsPiece w j = (w.first ≤ j) × (j < w.first + length w.pieces.items)

-- the same file, whatever the disk
pub record IsSameFile (old new : File) : Type 0 where
  pub size : new.size ≡ old.size
  pub blocks : SameBlocks old.tree new.tree
  pub base : KeepsBase old.tree new.tree
  pub sound : KeepsSound old.tree new.tree
  pub was_sound : KeepsSound new.tree old.tree
  pub changes : SameChanges old.tree new.tree

-- a prepared change was put in force
pub record IsCommitted (old : File) (w : FileUpdate) (new : File) : Type 0 where
  pub size : new.size ≡ w.size
  pub blocks : (disk : ℕ → List ℕ) (i : ℕ) → file_block disk new i ≡ block_with disk old w i
  pub base : KeepsBase old.tree new.tree
  pub sound : KeepsSound old.tree new.tree
  pub settled : SameSettled old.tree new.tree
  pub kept : new.tree.kept ≡ min old.tree.kept (block_count w.size)
  pub only : (j : ℕ) → IsChanged new.tree j → IsPiece w j ⊎ (IsChanged old.tree j × (j < block_count w.size))
