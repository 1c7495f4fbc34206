use Rattle.std.proofs.Common.{◌≡◌, ◌+◌, ◌<◌, ℕ}
use Rattle.layout.specs.Maps.{indirect_pointer}
use Rattle.layout.specs.declared.trees.Layout.{Layout}
use Rattle.images.specs.Nodes.{Held}
use Rattle.checker.specs.Nodes.{IsAmong, KeepsMarks, MarksFor}
use Rattle.checker.proofs.nodes.mark_leaves.Given as goal

abbrev pub invariant-loop-r : goal.invariant-loop-r
invariant-loop-r l = record {
  keeps : KeepsMarks l.bits l.fn.marks l.marks l.fn.of l.of;
  marked : (layout : Layout) (h : Held) → ((r : ℕ) → r < l.end → h.place 0 (l.first + r) ≡ indirect_pointer l.bytes r)
      → MarksFor h (IsAmong layout 0 l.first (l.first + l.r)) l.number l.bits l.fn.marks l.marks l.fn.of l.of;
}
