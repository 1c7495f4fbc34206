-- What holds of a point under way has one proof at most: for ghost fields.
use Rattle.std.specs.Prelude.{ℕ, Option, Some, None}
use Rattle.std.proofs.Props.{props}
use Rattle.station.specs.Images.{Sector}
use Rattle.station.specs.Moments.{Meaning}
use Rattle.overlay.specs.Overlays.{FitsOver, HoldsHere, HoldsSoFar}
use Rattle.overlay.specs.declared.pending.PendingPoint.{PendingPoint}

pub FitsOver-prop : (sectors : ℕ) (pending : Option PendingPoint) → IsProp (FitsOver sectors pending)
FitsOver-prop sectors None = hlevel props
FitsOver-prop sectors (Some pending) = hlevel props

HoldsSoFar-prop : (pending : Option PendingPoint) (disk : ℕ → Sector) → IsProp (HoldsSoFar pending disk)
HoldsSoFar-prop None disk = hlevel props
HoldsSoFar-prop (Some pending) disk = hlevel props

pub HoldsHere-prop : (m : Meaning) (pending : Option PendingPoint) → IsProp (HoldsHere m pending)
HoldsHere-prop m pending = hlevel HoldsSoFar-prop
