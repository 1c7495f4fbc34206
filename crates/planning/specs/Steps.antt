-- What is planned while the numbers that changed are planned, one after the other.
use Rattle.std.specs.Prelude.{ℕ, ◌≡◌, ◌≤◌, ◌↔◌, Bool, true, ◌==◌, if◌then◌else◌}
use Rattle.layout.specs.Limits.{Sizes}
use Rattle.layout.specs.Places.{Blocks}
use Rattle.layout.specs.declared.inode.Inode.{Inode}
use Rattle.buffers.specs.declared.blocks.Blocks.{Ghosts}
use Rattle.model.specs.Volumes.{Volume}
use Rattle.blockmap.specs.Maps.{entry_at, settled_at}
use Rattle.conspoint.specs.Drafts.{OnEach}
use Rattle.conspoint.specs.declared.draft.Draft.{Draft}
use Rattle.images.specs.BlockMap.{NamesOnce}
use Rattle.images.specs.Contents.{Content, content_of}
use Rattle.images.specs.Nodes.{held, Agrees}
use Rattle.images.specs.Roots.{HeldTree, Reach}
use Rattle.inode.specs.Files.{file_block}
use Rattle.inode.specs.declared.file.File.{File}
use Rattle.inofile.specs.Inodes.{files_of}
use Rattle.inofile.specs.Volumes.{IsVolumeOf}
use Rattle.inofile.specs.declared.inode_file.InodeFile.{InodeFile}
use Rattle.planning.specs.Inodes.{AreSpelled}
use Rattle.planning.specs.Numbers.{trimmed}
use Rattle.planning.specs.Progress.{Before, IsExactPlane, IsProgress, PlannedInodes}

-- the tree of settled inodes
abbrev pub settled_tree : Blocks → (ℕ → Inode) → HeldTree
settled_tree disk settled n = held disk (settled n)

-- What a plan starts over: these blocks show a disk, and memory stands for a volume over the inodes
-- that are settled there. Their tree names no block twice, and its blocks are its set of these
-- entries.
pub record OverTree {B : Type 0} (G : Ghosts B) (blocks : B) (inodes : InodeFile) : Type 0 where
  pub disk : Blocks
  pub settled : ℕ → Inode
  pub volume : Volume
  pub before : Before
  pub shows : G.Shows blocks disk
  pub memory : IsVolumeOf (G.count blocks) disk settled inodes volume
  pub once : NamesOnce (settled_tree disk settled)
  pub exact : IsExactPlane (settled_tree disk settled) before

-- that tree, and the files as memory has them
abbrev pub tree_of : {B : Type 0} {G : Ghosts B} {blocks : B} {inodes : InodeFile} → OverTree G blocks inodes → HeldTree
tree_of o = settled_tree o.disk o.settled

abbrev pub found_in : {B : Type 0} {G : Ghosts B} {blocks : B} {inodes : InodeFile} → OverTree G blocks inodes → ℕ → Content
found_in {inodes = inodes} o n = trimmed (files_of o.disk o.settled inodes n)

-- the settled entries of a draft's map are these
abbrev pub HasSettled : Draft → (ℕ → ℕ) → Type 0
HasSettled d entry = (b : ℕ) → settled_at d.map.parts.items b ≡ entry b

-- On each disk that has the blocks planned so far, and those of the settled tree: what is planned
-- holds, and the changed files are these. And the changed inode file spells the new inodes.
pub record IsPlanUnderWay (d : Draft) (disk : Blocks) (before : Before) (s : Sizes) (t : HeldTree) (found : ℕ → Content) (file : File) : Type 0 where
  pub plan : PlannedInodes
  pub settled : HasSettled d before.entry
  pub progress : OnEach d (λ e. Agrees (Reach t) disk e → IsProgress s t e d.map.next before (entry_at d.map.parts.items) plan)
  pub contents : OnEach d (λ e. Agrees (Reach t) disk e → (n : ℕ) → 3 ≤ n → plan.changed n ≡ true → content_of (held e (plan.inode n)) ≡ found n)
  pub spelled : AreSpelled s.inodes (file_block disk file) plan.inode

-- the same with one number more
pub record GoesOn (number : ℕ) (changed : ℕ → Bool) (from : ℕ) (d : Draft) (disk : Blocks) (before : Before) (s : Sizes) (t : HeldTree) (found : ℕ → Content) (file : File) : Type 0 where
  pub way : IsPlanUnderWay d disk before s t found file
  pub from_is : way.plan.from ≡ from
  pub more : (k : ℕ) → way.plan.changed k ≡ (if k == number then true else changed k)

-- just these numbers are planned, and no block before this one is taken
pub record ArePlanned (IsOne : ℕ → Type 0) (from : ℕ) (d : Draft) (disk : Blocks) (settled : ℕ → Inode) (before : Before) (inodes : InodeFile) (file : File) : Type 0 where
  pub way : IsPlanUnderWay d disk before inodes.geometry (settled_tree disk settled) (λ n. trimmed (files_of disk settled inodes n)) file
  pub from_is : way.plan.from ≡ from
  pub just : (n : ℕ) → (way.plan.changed n ≡ true) ↔ IsOne n
