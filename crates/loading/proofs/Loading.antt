-- Reading all under a root, step by step.
use Rattle.std.proofs.Common.{◌≡◌, ◌⊎◌, ℕ, List, Result, Ok, Err}
use Rattle.std.specs.Prelude.{MatchResult}
use Rattle.std.specs.Result.{IsErrAnd}
use Rattle.layout.specs.declared.root.Root.{Root}
use Rattle.buffers.specs.Reads.{ReadsBlocks}
use Rattle.buffers.specs.declared.blocks.Blocks.{Ghosts}
use Rattle.buffers.proofs.ReadLaws.{reads_err}
use Rattle.buffers.specs.Errors.{IsFault}
use Rattle.buffers.specs.declared.error.BlockError.{BlockError}
use Rattle.buffers.specs.declared.error.BlockError.TheVariants.{Device, NoMemory}
use Rattle.images.specs.Roots.{whole}
use Rattle.images.specs.Soundness.{Detail, IsReadable}
use Rattle.loading.specs.Images.{IsLoadedIn, IsReadableIn}
use Rattle.loading.specs.Loading.{LoadsUnder}
use Rattle.loading.specs.declared.under_root.Loaded.{Loaded}

-- a step before has failed
pub not_loaded : {B U : Type 0} {G : Ghosts B} {a b : B} {r : Root} {e : BlockError} (q : Result Loaded BlockError) → IsErrAnd q (λ f. f ≡ e) → ReadsBlocks {T = U} G IsFault a b (Err e)
    → ((detail : Detail) (disk : ℕ → List ℕ) → G.Shows a disk → IsReadableIn detail disk r → IsReadable ((whole disk r).active 2) → MatchResult q (λ l. IsLoadedIn detail disk r l.map l.inodes) (λ e. (e ≡ NoMemory) ⊎ (e ≡ Device)))
    → LoadsUnder G a b r q
not_loaded (Ok l) is reads loads = absurd is
not_loaded (Err f) is reads loads = record {
  reads = reads_err (Err f) is reads;
  blocks = tt;
  parts = tt;
  unchanged = tt;
  next = tt;
  version = tt;
  geometry = tt;
  clean = tt;
  numbers = tt;
  inodes = λ disk shows. tt;
  loads = λ {detail} disk shows ready map. loads detail disk shows ready map;
}
