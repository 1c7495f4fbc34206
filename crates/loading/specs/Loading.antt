-- What reading all under a root promises.
use Rattle.std.specs.Prelude.{ℕ, ◌≡◌, ◌⊎◌, List, IfOk, MatchResult, Result, length}
use Rattle.std.specs.Int.{div_ceil}
use Rattle.layout.specs.Maps.{IsInodeMap}
use Rattle.layout.specs.declared.TheConstants.{BLOCK_POINTERS}
use Rattle.layout.specs.declared.root.Root.{Root}
use Rattle.buffers.specs.Reads.{ReadsBlocks}
use Rattle.buffers.specs.declared.blocks.Blocks.{Ghosts}
use Rattle.buffers.specs.Errors.{IsFault}
use Rattle.buffers.specs.declared.error.BlockError.{BlockError}
use Rattle.buffers.specs.declared.error.BlockError.TheVariants.{Device, NoMemory}
use Rattle.images.specs.Roots.{whole}
use Rattle.images.specs.Soundness.{Detail, IsReadable}
use Rattle.inode.specs.Files.{file_block}
use Rattle.inofile.specs.Inodes.{HasNoChange}
use Rattle.loading.specs.Images.{IsLoadedIn, IsReadableIn}
use Rattle.loading.specs.InodeBlocks.{AreInodeBlocks}
use Rattle.loading.specs.Readings.{AreUnchanged}
use Rattle.loading.specs.declared.under_root.Loaded.{Loaded}

-- The block map and the inodes of an image are read. They fit the root's sizes, and where the
-- root's tree is in its grammar, and its block map can be read, they are what the tree has, and it
-- fails only for want of memory and where a device call failed.
pub record LoadsUnder {B : Type 0} (G : Ghosts B) (old after : B) (root : Root) (result : Result Loaded BlockError) : Type 0 where
  pub reads : ReadsBlocks G IsFault old after result
  pub blocks : IfOk result (λ l. l.map.count ≡ root.geometry.blocks)
  pub parts : IfOk result (λ l. length l.map.parts.items ≡ div_ceil root.geometry.blocks BLOCK_POINTERS)
  pub unchanged : IfOk result (λ l. AreUnchanged l.map.parts.items)
  pub next : IfOk result (λ l. l.map.next ≡ 2)
  pub version : IfOk result (λ l. l.inodes.version ≡ root.version)
  pub geometry : IfOk result (λ l. l.inodes.geometry ≡ root.geometry)
  pub clean : IfOk result (λ l. HasNoChange l.inodes)
  pub numbers : IfOk result (λ l. IsInodeMap 0 root.geometry.inodes l.inodes.numbers.bytes.items)
  pub inodes : (disk : ℕ → List ℕ) → G.Shows old disk → IfOk result (λ l. AreInodeBlocks root.version root.geometry (file_block disk l.inodes.file))
  pub loads : {detail : Detail} (disk : ℕ → List ℕ) → G.Shows old disk → IsReadableIn detail disk root
      → IsReadable ((whole disk root).active 2) → MatchResult result (λ l. IsLoadedIn detail disk root l.map l.inodes) (λ e. (e ≡ NoMemory) ⊎ (e ≡ Device))
