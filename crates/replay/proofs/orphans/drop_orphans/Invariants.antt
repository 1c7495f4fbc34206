use Rattle.std.proofs.Common.{◌≡◌, ◌≤◌, ℕ, List}
use Rattle.layout.specs.declared.inode.Inode.{Inode}
use Rattle.model.specs.Volumes.{Volume}
use Rattle.buffers.specs.Reads.{HasOnlyRead}
use Rattle.images.specs.Soundness.{Detail}
use Rattle.inofile.specs.Room.{memory_room}
use Rattle.inofile.specs.Volumes.{IsVolumeIn}
use Rattle.replay.specs.Volumes.{HasVolumeIn}
use Rattle.replay.proofs.SweepLaws.{dropped_below}
use Rattle.replay.proofs.orphans.drop_orphans.Given as goal

abbrev pub invariant-loop-number : goal.invariant-loop-number
invariant-loop-number g l = record {
  read : HasOnlyRead g.B.Blocks l.fn.blocks l.blocks;
  geometry : l.inodes.geometry ≡ l.fn.inodes.geometry;
  drops : (detail : Detail) (disk : ℕ → List ℕ) (settled : ℕ → Inode) (v : Volume) → g.B.Blocks.Shows l.fn.blocks disk
      → HasVolumeIn detail (g.B.Blocks.count l.fn.blocks) disk settled l.fn.inodes v
      → IsVolumeIn detail (g.B.Blocks.count l.fn.blocks) disk settled l.inodes (dropped_below l.number v);
  room : (detail : Detail) (base : Volume) (disk : ℕ → List ℕ) (settled : ℕ → Inode) (v : Volume) → g.B.Blocks.Shows l.fn.blocks disk
      → HasVolumeIn detail (g.B.Blocks.count l.fn.blocks) disk settled l.fn.inodes v → memory_room base l.inodes (dropped_below l.number v) ≤ memory_room base l.fn.inodes v;
}
