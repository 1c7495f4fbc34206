-- What freeing a descriptor comes to.
use Rattle.std.specs.Prelude.{ℕ, ◌≡◌, ◌≢◌, ◌≤◌, List, IfErr, IsTrue, OnErr, OnOk, Option, Some, Result}
use Rattle.model.specs.declared.limits.Limits.{Limits}
use Rattle.layout.specs.declared.inode.Inode.{Inode}
use Rattle.model.specs.Descriptors.{closes}
use Rattle.model.specs.Room.{nothing}
use Rattle.model.specs.Trees.{Description}
use Rattle.model.specs.Volumes.{IsMounted, IsVolume, Volume, is_orphan, is_open, swept, swept_node, with_node}
use Rattle.model.specs.declared.errno.Errno.{Errno}
use Rattle.model.specs.declared.limits.TheConstants.{OPEN_FILES}
use Rattle.buffers.specs.Errors.{IsFault}
use Rattle.buffers.specs.declared.error.BlockError.{BlockError}
use Rattle.buffers.specs.declared.blocks.Blocks.{Ghosts}
use Rattle.inofile.specs.Room.{memory_room}
use Rattle.inofile.specs.Volumes.{IsVolumeOf}
use Rattle.inofile.specs.declared.inode_file.InodeFile.{InodeFile}
use Rattle.paths.specs.Standing.{Looks}
use Rattle.records.specs.Opened.{HasNumbers}
use Rattle.records.specs.Shown.{NeverDamaged}
use Rattle.records.specs.Steps.{IsAtHand}
use Rattle.calls.specs.Refusals.{is_path_refusal}
use Rattle.descriptors.specs.Fits.{FitsVolume}
use Rattle.descriptors.specs.Tables.{open_at, table_of}
use Rattle.descriptors.specs.declared.open_file.OpenFile.{OpenFile}
use Rattle.descriptors.specs.declared.table.Descriptors.{Descriptors}
use Rattle.files.specs.Opened.{OnOpen, tree_with}
use Rattle.files.specs.Replies.{done_reply}

-- where a descriptor is open for a file with no name, this is in memory, with room to drop it
abbrev pub ClosesReady : InodeFile → Descriptors → ℕ → Type 0
ClosesReady s table fd = (f : OpenFile) → open_at table fd ≡ Some f → f.links ≡ 0 → IsAtHand s f.number

-- a descriptor is open for a file of the volume that has no name
abbrev pub IsOpenOrphan : Volume → Descriptors → ℕ → Type 0
IsOpenOrphan v table fd = (f : OpenFile) × (open_at table fd ≡ Some f) × IsTrue (is_orphan (v f.number))

-- a descriptor is open for a file that has a link, or isn't open
abbrev pub IsLinked : Descriptors → ℕ → Type 0
IsLinked table fd = (f : OpenFile) → open_at table fd ≡ Some f → f.links ≢ 0

-- the volume without the file of a number, where it has neither name nor descriptor
abbrev pub swept_at : (ℕ → Option Description) → ℕ → Volume → Volume
swept_at table n v = with_node n (swept_node (is_open table OPEN_FILES n) (v n)) v

-- What freeing a descriptor needs is in memory then. Only for a file that has no name anything may
-- fail, and only for one a block is read; whatever an image holds, for one that has no link by the
-- table.
pub record PreparesClose {B T : Type 0} (G : Ghosts B) (blocks after : B) (s t : InodeFile) (table : Descriptors) (fd : ℕ) (result : Result T BlockError) : Type 0 where
  pub looks : Looks G IsFault blocks after s t result
  pub ready : OnOk result (ClosesReady t table fd)
  pub sure : OnOpen G blocks s table (λ v. OnErr result (IsOpenOrphan v table fd))
  pub still : OnOpen G blocks s table (λ v. (IsOpenOrphan v table fd → ⊥) → after ≡ blocks)
  pub linked : IsLinked table fd → (after ≡ blocks) × OnErr result ⊥
  pub damaged : NeverDamaged G blocks s result

-- A descriptor is freed, and its file is gone where it has neither name nor another descriptor. A
-- refusal changes nothing.
pub record Closes {T : Type 0} (s t : InodeFile) (table after : Descriptors) (fd : ℕ) (result : Result T Errno) : Type 0 where
  pub geometry : t.geometry ≡ s.geometry
  pub answers : (limits : Limits) (v : Volume) → IsVolume limits v → IsMounted v (table_of table)
      → closes (tree_with table v) fd (done_reply result) (tree_with after (swept (table_of after) v)) nothing
  pub volume : (count : ℕ) (disk : ℕ → List ℕ) (settled : ℕ → Inode) (v : Volume) → IsVolumeOf count disk settled s v
      → IsMounted v (table_of table) → FitsVolume table v → IsVolumeOf count disk settled t (swept (table_of after) v)
  pub room : (base : Volume) (count : ℕ) (disk : ℕ → List ℕ) (settled : ℕ → Inode) (v : Volume)
      → IsVolumeOf count disk settled s v → IsMounted v (table_of table) → FitsVolume table v
      → memory_room base t (swept (table_of after) v) ≤ memory_room base s v
  pub mounted : (v : Volume) → IsMounted v (table_of table) → IsMounted (swept (table_of after) v) (table_of after)
  pub fits : (v : Volume) → FitsVolume table v → FitsVolume after (swept (table_of after) v)
  pub numbers : (n : ℕ) → HasNumbers n table → HasNumbers n after
  pub own : IfErr result (λ e. IsTrue (is_path_refusal e))
  pub refused : OnErr result (after ≡ table)
  pub stays : OnErr result (t ≡ s)
