-- Calls by a path that only look, on what memory stands for, whatever files are open.
use Rattle.std.specs.Prelude.{ℕ, List, Option, Result, IfOk, IfErr, IsTrue}
use Rattle.model.specs.declared.limits.Limits.{Limits}
use Rattle.layout.specs.StateLimits.{limits_of}
use Rattle.layout.specs.declared.inode.Inode.{Inode}
use Rattle.model.specs.Outcomes.{Outcome}
use Rattle.model.specs.Room.{nothing}
use Rattle.model.specs.States.{ForgetsOpenFiles}
use Rattle.model.specs.Steps.{calls, is_reading_call}
use Rattle.model.specs.Trees.{Description, Tree}
use Rattle.model.specs.Volumes.{Volume, IsVolume, tree_of}
use Rattle.model.specs.declared.command.PathCall.{PathCall}
use Rattle.model.specs.declared.errno.Errno.{Errno}
use Rattle.model.specs.declared.reply.Reply.{Reply}
use Rattle.model.specs.declared.session.Session.{Session}
use Rattle.buffers.specs.Errors.{IsFault}
use Rattle.buffers.specs.declared.blocks.Blocks.{Ghosts}
use Rattle.inofile.specs.declared.inode_file.InodeFile.{InodeFile}
use Rattle.paths.specs.Standing.{Looks, Stands}
use Rattle.records.specs.Failures.{read_outcome}
use Rattle.records.specs.Shown.{NeverDamaged, OnVolumes}
use Rattle.records.specs.declared.failure.Failure.{Failure}
use Rattle.calls.specs.Refusals.{is_path_refusal}

-- this holds of each volume that memory stands for, with any descriptors
abbrev pub OnTrees : {B : Type 0} → Ghosts B → B → InodeFile → (Volume → (ℕ → Option Description) → Type 0) → Type 0
OnTrees G blocks s P =
    (disk : ℕ → List ℕ) (settled : ℕ → Inode) (v : Volume) (table : ℕ → Option Description) → Stands G disk settled v blocks s
    → IsVolume (limits_of s.geometry) v → P v table

-- Nothing is done but looking; an errno is one of paths; and over memory that stands for a volume
-- this is told of it, and no damage is found.
pub record Tells {B T : Type 0} (G : Ghosts B) (blocks after : B) (s t : InodeFile) (answer : Volume → Result T Errno → Type 0)
    (result : Result T Failure) : Type 0 where
  pub looks : Looks G IsFault blocks after s t (read_outcome result)
  pub own : IfOk (read_outcome result) (λ r. IfErr r (λ e. IsTrue (is_path_refusal e)))
  pub tells : OnVolumes G blocks s (λ disk settled v. IfOk (read_outcome result) (answer v))
  pub damaged : NeverDamaged G blocks s (read_outcome result)

-- the same of a call with this outcome on a tree within limits, which its reply tells and which changes nothing
pub record Answers {B T : Type 0} (G : Ghosts B) (blocks after : B) (s t : InodeFile) (outcome : Limits → Tree → Outcome) (reply : Result T Errno → Reply)
    (result : Result T Failure) : Type 0 where
  pub looks : Looks G IsFault blocks after s t (read_outcome result)
  pub own : IfOk (read_outcome result) (λ r. IfErr r (λ e. IsTrue (is_path_refusal e)))
  pub answers : OnTrees G blocks s (λ v table. IfOk (read_outcome result) (λ r. outcome (limits_of s.geometry) (tree_of v table) (reply r) (tree_of v table) nothing))
  pub damaged : NeverDamaged G blocks s (read_outcome result)

-- what a call that only reads is answered on a tree it is answered on the tree without its open
-- files, too
abbrev pub ReadingForgets : Type 0
ReadingForgets =
    (limits : Limits) (said : Session) (old new : Tree) (call : PathCall) (reply : Reply) → ForgetsOpenFiles old new → IsTrue (is_reading_call call)
    → calls limits said old call reply old nothing → calls limits said new call reply new nothing
