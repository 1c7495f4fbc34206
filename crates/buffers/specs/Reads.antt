-- What reading does to the blocks of a disk.
use Rattle.std.specs.Prelude.{ℕ, ◌≡◌, List, Result, OnOk, IfErr}
use Rattle.buffers.specs.Failures.{HasGrown}
use Rattle.buffers.specs.declared.blocks.Blocks.{Ghosts}

-- A function that only reads. IsFault tells which of its errors say that a device call failed.
pub record ReadsBlocks {B T E : Type 0} (G : Ghosts B) (IsFault : E → Type 0) (old new : B) (result : Result T E) : Type 0 where
  pub count : G.count new ≡ G.count old
  pub counted : OnOk result (G.failed new ≡ G.failed old)
  pub device : IfErr result (λ e. IsFault e → HasGrown (G.failed old) (G.failed new))
  pub reads : (start : B) → G.ReadsOn start old → G.ReadsOn start new
  pub same : (disk : ℕ → List ℕ) → G.Shows old disk → G.Shows new disk

-- nothing was done but reading, and no call failed
pub record HasOnlyRead {B : Type 0} (G : Ghosts B) (old new : B) : Type 0 where
  pub count : G.count new ≡ G.count old
  pub counted : G.failed new ≡ G.failed old
  pub reads : (start : B) → G.ReadsOn start old → G.ReadsOn start new
  pub same : (disk : ℕ → List ℕ) → G.Shows old disk → G.Shows new disk
