use Rattle.std.proofs.Common.{◌≡◌, ◌<◌, ℕ, List}
use Rattle.layout.specs.declared.root.Root.{Root}
use Rattle.model.specs.Volumes.{Entries}
use Rattle.blocktree.specs.Trees.{IsSoundAt}
use Rattle.images.specs.Nodes.{file_block}
use Rattle.images.specs.Roots.{HeldTree}
use Rattle.checker.specs.Seen.{KnowsSeen}
use Rattle.checker.specs.Walks.{GoesOn, HasCountedRows, HasFile, IsToCount}
use Rattle.checker.proofs.ReadLaws.{HasLooked}
use Rattle.checker.proofs.names.count_blocks.Given as goal

abbrev pub invariant-loop-i : goal.invariant-loop-i
invariant-loop-i g l = record {
  looked : HasLooked g.B.Blocks l.fn.blocks l.blocks;
  goes : GoesOn l.fn.table.items l.fn.found.items l.table.items l.found.items;
  counted : (disk : ℕ → List ℕ) (r : Root) (t : HeldTree) (e : Entries) (count : ℕ) → g.B.Blocks.Shows l.fn.blocks disk → r.geometry.inodes ≡ l.inodes
      → HasFile (g.B.Blocks.count l.fn.blocks) disk l.file (t l.directory)
      → IsToCount r.geometry t l.directory e count l.fn.found.items l.fn.table.items
      → (h : HasCountedRows r.geometry t l.directory l.i (file_block (t l.directory)) e count l.found.items l.table.items)
      × KnowsSeen l.names (h.names l.directory);
  sound : (disk : ℕ → List ℕ) → g.B.Blocks.Shows l.fn.blocks disk → (i : ℕ) → i < l.i → IsSoundAt (g.B.Blocks.count l.fn.blocks) disk l.file.tree i;
}
