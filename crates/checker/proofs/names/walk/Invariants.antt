use Rattle.std.proofs.Common.{◌≡◌, ℕ, ◌+◌, ◌-◌, ◌≤◌, List, length}
use Rattle.layout.specs.declared.root.Root.{Root}
use Rattle.model.specs.Volumes.{Entries}
use Rattle.images.specs.Roots.{whole}
use Rattle.checker.specs.Findings.{tree_in}
use Rattle.checker.specs.Names.{AreWithin, IsTable, IsUnnamed}
use Rattle.checker.specs.Rows.{LeadsToRows}
use Rattle.checker.specs.Trees.{IsTreeAt}
use Rattle.checker.specs.Walks.{LooksInto, unnamed_rows}
use Rattle.checker.proofs.ReadLaws.{HasLooked}
use Rattle.checker.proofs.names.walk.Given as goal

abbrev pub invariant-loop-next : goal.invariant-loop-next
invariant-loop-next g l = record {
  looked : HasLooked g.B.Blocks l.fn.blocks l.blocks;
  length_is : length l.table.items ≡ l.geometry.inodes;
  within : AreWithin l.geometry.inodes l.found.items;
  below : l.next ≤ length l.found.items;
  few : l.kept ≤ 256;
  walked : (disk : ℕ → List ℕ) (r : Root) → g.B.Blocks.Shows l.fn.blocks disk → IsTreeAt disk r l.geometry (g.B.Blocks.count l.fn.blocks) l.tree
      → LeadsToRows disk r l.tree l.places → IsTable r.geometry (tree_in (whole disk r) l.tree.plane) l.fn.table.items → IsUnnamed l.fn.table.items
      → (e : Entries) × LooksInto r.geometry (tree_in (whole disk r) l.tree.plane) e l.next l.found.items l.table.items;
}

abbrev pub decreases-loop-next : goal.decreases-loop-next
decreases-loop-next g l = unnamed_rows l.table.items + length l.found.items - l.next
