use Rattle.std.proofs.Common.{◌≡◌, ℕ, List, ◌+◌}
use Rattle.images.specs.Nodes.{Held}
use Rattle.checker.specs.Nodes.{AreIndirect, HasNodes, IsAmong, KeepsMarks, MarksFor}
use Rattle.checker.proofs.ReadLaws.{HasLooked}
use Rattle.checker.proofs.nodes.+mark_node.Given as goal

abbrev pub decreases-mark_node : goal.decreases-mark_node
decreases-mark_node g l = l.node.height

abbrev pub invariant-loop-r : goal.invariant-loop-r
invariant-loop-r g l = record {
  looked : HasLooked g.B.Blocks l.initial.blocks l.blocks;
  keeps : KeepsMarks l.bits l.initial.marks l.marks l.initial.shared.of l.shared.of;
  marked : (disk : ℕ → List ℕ) (h : Held) → g.B.Blocks.Shows l.fn.blocks disk
      → h.place l.node.height l.node.index ≡ l.fn.pointer → HasNodes l.shape.layout disk h l.node.height
      → MarksFor h (IsAmong l.shape.layout l.height l.first (l.first + l.r)) l.node.number l.bits l.initial.marks l.marks l.initial.shared.of l.shared.of
      × AreIndirect l.shape.layout (g.B.Blocks.count l.initial.blocks) disk h l.shape.count (IsAmong l.shape.layout l.height l.first (l.first + l.r));
}
