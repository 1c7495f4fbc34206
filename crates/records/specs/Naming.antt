-- Edits of the names in a directory's file.
use Rattle.std.specs.Prelude.{ℕ, ◌≤◌, List, Option, Some, None, Result, IfOk, IfSome, IsErrOf}
use Rattle.model.specs.declared.limits.Limits.{Limits}
use Rattle.layout.specs.DirectoryNames.{NameMap}
use Rattle.buffers.specs.Reads.{ReadsBlocks}
use Rattle.buffers.specs.declared.blocks.Blocks.{Ghosts}
use Rattle.buffers.specs.Errors.{IsFault}
use Rattle.blocktree.specs.Trees.{IsSoundAt}
use Rattle.buffers.specs.declared.error.BlockError.{BlockError}
use Rattle.buffers.specs.declared.error.BlockError.TheVariants.{Damaged}
use Rattle.dirs.specs.Edits.{FitsIn, HasEditedNames, edited_block}
use Rattle.entries.specs.Known.{Knows}
use Rattle.entries.specs.declared.known.Known.{Known}
use Rattle.dirs.specs.Room.{piece_count}
use Rattle.dirs.specs.declared.edit.Edit.{Edit}
use Rattle.inode.specs.Files.{IsSameFile}
use Rattle.inode.specs.declared.file.File.{File}
use Rattle.records.specs.Entering.{TakesEdit, names_after}
use Rattle.records.specs.declared.naming.NameEdit.{NameEdit}

-- an edit is prepared of names that can be edited so, and what is known of the blocks is so with
-- it; else none
abbrev pub EditsNames : Limits → (ℕ → List ℕ) → File → Known → NameEdit → NameMap → Option Edit → Type 0
EditsNames limits disk file known wanted names (Some edit) =
    TakesEdit limits wanted names × HasEditedNames limits.inodes disk file edit (names_after wanted names) × Knows limits.inodes (edited_block disk file edit) known
EditsNames limits disk file known wanted names None = TakesEdit limits wanted names → ⊥

-- Names of a directory's file are edited so, where it has such names before, and so many of its
-- blocks are changed at the most. The file stays the same until the edit is put in force.
pub record EditsFile {B : Type 0} (Had : (ℕ → List ℕ) → NameMap → Type 0) (most : ℕ) (G : Ghosts B) (blocks after : B) (limits : Limits) (file new : File) (known : Known) (wanted : NameEdit) (result : Result (Option Edit) BlockError) : Type 0 where
  pub reads : ReadsBlocks G IsFault blocks after result
  pub same : IsSameFile file new
  pub fits : IfOk result (λ e. IfSome e (FitsIn new))
  pub pieces : IfOk result (λ e. IfSome e (λ x. piece_count x ≤ most))
  pub edited : (disk : ℕ → List ℕ) (names : NameMap) → G.Shows blocks disk → Had disk names
      → IfOk result (EditsNames limits disk new known wanted names)
  pub damaged : (disk : ℕ → List ℕ) (names : NameMap) → G.Shows blocks disk → IsErrOf result Damaged → Had disk names
      → ((i : ℕ) → IsSoundAt (G.count blocks) disk file.tree i) → ⊥
