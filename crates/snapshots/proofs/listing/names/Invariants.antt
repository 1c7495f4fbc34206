use Rattle.std.proofs.Common.{◌≡◌, ℕ, ◌-◌, ◌<◌, ◌^◌, ◌++◌, List}
use Rattle.std.specs.Prelude.{map}
use Rattle.buffers.specs.Reads.{HasOnlyRead}
use Rattle.images.specs.Roots.{whole}
use Rattle.images.specs.Snapshots.{AreKeptAbove}
use Rattle.images.specs.States.{Holds}
use Rattle.model.specs.Paths.{Name}
use Rattle.model.specs.Trees.{Tree}
use Rattle.model.specs.Volumes.{Volume}
use Rattle.snapshots.proofs.ListLaws.{names_of}
use Rattle.snapshots.proofs.listing.names.Given as goal

abbrev pub invariant-loop-names : goal.invariant-loop-names
invariant-loop-names g l = record {
  read : HasOnlyRead g.B.Blocks l.initial.blocks l.blocks;
  low : l.above < 2 ^ 62;
  listed : (disk : ℕ → List ℕ) → g.B.Blocks.Shows l.initial.blocks disk → (v : Volume) (pairs : List (Name × Tree)) → Holds l.root (whole disk l.root) v pairs
      → (rest : List (Name × Tree)) × AreKeptAbove l.root (whole disk l.root) l.above rest × (names_of pairs ≡ map (λ name. name.items) l.names.items ++ names_of rest);
}

abbrev pub decreases-loop-names : goal.decreases-loop-names
decreases-loop-names g l = 2 ^ 62 - l.above
