use Rattle.std.proofs.Common.{◌↔◌, Ok, IsTrue}
use Rattle.layout.specs.StateLimits.{limits_of}
use Rattle.model.specs.Records.{IsBelow}
use Rattle.model.specs.Volumes.{entries, is_directory_node}
use Rattle.paths.specs.Numbers.{IsInodeNumber}
use Rattle.records.specs.Looking.{Finds}
use Rattle.records.specs.Planning.{IsKnownVolume}
use Rattle.records.proofs.below.climb.Given as goal

-- a directory is reached that lies below the object just where the first one does
abbrev pub invariant-loop-step : goal.invariant-loop-step
invariant-loop-step g l = record {
  climbed : Finds g.B.Blocks l.fn.blocks l.blocks l.fn.inodes l.inodes
      (λ detail disk settled v here. IsTrue (is_directory_node (v here)) × (IsKnownVolume detail (limits_of l.fn.inodes.geometry) v → IsBelow (entries v) l.fn.top here ↔ IsBelow (entries v) l.fn.top l.fn.number)) (Ok l.here);
  within : IsInodeNumber l.fn.inodes.geometry.inodes l.here;
}
