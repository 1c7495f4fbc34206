use Rattle.std.proofs.Common.{◌≡◌, ◌≤◌, ℕ, List}
use Rattle.layout.specs.declared.inode.Inode.{Inode}
use Rattle.model.specs.Records.{count_orphans}
use Rattle.model.specs.Volumes.{Volume}
use Rattle.buffers.specs.Reads.{HasOnlyRead}
use Rattle.images.specs.Soundness.{Detail}
use Rattle.replay.specs.Volumes.{HasVolumeIn}
use Rattle.replay.proofs.orphans.count_orphans.Given as goal

abbrev pub invariant-loop-number : goal.invariant-loop-number
invariant-loop-number g l = record {
  read : HasOnlyRead g.B.Blocks l.fn.blocks l.blocks;
  few : l.count ≤ l.number;
  counts : (detail : Detail) (disk : ℕ → List ℕ) (settled : ℕ → Inode) (v : Volume) → g.B.Blocks.Shows l.fn.blocks disk
      → HasVolumeIn detail (g.B.Blocks.count l.fn.blocks) disk settled l.fn.inodes v → l.count ≡ count_orphans l.number v;
}
