use Rattle.std.proofs.Common.{◌≡◌, ℕ, List}
use Rattle.layout.specs.Limits.{Sizes}
use Rattle.layout.specs.Inode.{IsInode}
use Rattle.images.specs.Nodes.{held}
use Rattle.checker.specs.Nodes.{AreIndirect, IsAmong, KeepsMarks, MarksFor}
use Rattle.checker.proofs.ReadLaws.{HasLooked}
use Rattle.checker.proofs.nodes.mark_file.Given as goal

abbrev pub invariant-loop-i : goal.invariant-loop-i
invariant-loop-i g l = record {
  looked : HasLooked g.B.Blocks l.initial.blocks l.blocks;
  keeps : KeepsMarks l.bits l.initial.marks l.marks l.initial.shared.of l.shared.of;
  marked : (disk : ℕ → List ℕ) (s : Sizes) → g.B.Blocks.Shows l.initial.blocks disk → s.blocks ≡ g.B.Blocks.count l.initial.blocks
      → IsInode s l.inode
      → MarksFor (held disk l.inode) (IsAmong l.inode.layout l.height 0 l.i) l.number l.bits l.initial.marks l.marks l.initial.shared.of l.shared.of
      × AreIndirect l.inode.layout (g.B.Blocks.count l.initial.blocks) disk (held disk l.inode) l.shape.count (IsAmong l.inode.layout l.height 0 l.i);
}
