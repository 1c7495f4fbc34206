-- What `make` asks of a station, and what it leaves on one.
use Rattle.std.specs.Prelude.{ℕ, ◌≡◌, ◌*◌, ◌<◌, List, [], replicate}
use Rattle.station.specs.Images.{Images}
use Rattle.station.specs.Moments.{Meaning}
use Rattle.model.specs.States.{State}
use Rattle.layout.specs.Limits.{Sizes, AreSizes, sizes}
use Rattle.layout.specs.Log.{half_at, IsClosed}
use Rattle.layout.specs.Opens.{HoldsRoot}
use Rattle.layout.specs.Version.{layout_of}
use Rattle.layout.specs.declared.TheConstants.{SLOT_A, SLOT_B, SECTOR_BYTES}
use Rattle.layout.specs.declared.numbers.TheConstants.{FIRST_GENERATION}
use Rattle.layout.specs.declared.root.Root.{Root}
use Rattle.layout.specs.declared.version.TheConstants.{VERSION}
use Rattle.images.specs.States.{OpensBy}
use Rattle.conspoint.specs.Cuts.{HasNewRoot}
use Rattle.conspoint.specs.Plans.{Planned}

-- the sizes of an image that is made: so many blocks, inodes and bytes of a half, and the layout of
-- the newest version
abbrev pub new_sizes : ℕ → ℕ → ℕ → Sizes
new_sizes blocks inodes half = sizes (layout_of VERSION) blocks inodes half

-- the numbers are in range, and the station is of just their size
pub record Suits (m : Meaning) (s : Sizes) : Type 0 where
  pub sizes : AreSizes s
  pub sectors : m.sectors ≡ 8 * s.blocks
  pub nvram : m.nvram_bytes ≡ 2 * s.half

-- the gates of both halves are closed
abbrev pub HasClosedHalves : ℕ → List ℕ → Type 0
HasClosedHalves half nvram = (r : ℕ) → r < 2 → IsClosed (half_at half r nvram)

-- nothing stands in the slots
pub record HasEmptySlots (c : Images) : Type 0 where
  pub first : c.disk SLOT_A ≡ replicate SECTOR_BYTES 0
  pub second : c.disk SLOT_B ≡ replicate SECTOR_BYTES 0

-- the slots are emptied, and the NVRAM is as it was
pub record EmptiesSlots (old new : Images) : Type 0 where
  pub slots : HasEmptySlots new
  pub nvram : new.nvram ≡ old.nvram

-- no root and no records
pub record HasNoRoots (half : ℕ) (c : Images) : Type 0 where
  pub slots : HasEmptySlots c
  pub halves : HasClosedHalves half c.nvram

-- images without root and records, but for this plan's blocks and root
pub record IsWritten (half : ℕ) (p : Planned) (c : Images) : Type 0 where
  pub before : Images
  pub cleared : HasNoRoots half before
  pub written : HasNewRoot p before c

-- a new image: a root of the first generation in slot A, nothing in slot B, and an empty log
pub record HoldsMade (s : Sizes) (c : Images) : Type 0 where
  pub root : Root
  pub first : HoldsRoot (c.disk SLOT_A) root
  pub generation : root.generation ≡ FIRST_GENERATION
  pub geometry : root.geometry ≡ s
  pub second : c.disk SLOT_B ≡ replicate SECTOR_BYTES 0
  pub halves : HasClosedHalves s.half c.nvram

-- images of a station of this meaning open to a state by no record
abbrev pub OpensAlone : Meaning → State → Images → Type 0
OpensAlone m s c = OpensBy m.sectors c.disk c.nvram s []
