use Rattle.std.proofs.Common.{◌≡◌, ◌+◌, ◌↔◌, ℕ, List, length}
use Rattle.std.specs.List.{Contains}
use Rattle.layout.specs.declared.inode.Inode.{Inode}
use Rattle.model.specs.Volumes.{Volume, entries}
use Rattle.images.specs.Soundness.{Detail}
use Rattle.paths.specs.Numbers.{AreInodeNumbers}
use Rattle.paths.specs.Standing.{StandsIn}
use Rattle.paths.proofs.Looks.{HasLooked}
use Rattle.records.specs.Below.{IsChild, Searches, count_unmarked}
use Rattle.records.proofs.below.search.Given as goal

abbrev pub decreases-loop-here : goal.decreases-loop-here
decreases-loop-here g l = count_unmarked l.marks.items + length l.left.items

abbrev pub invariant-loop-here : goal.invariant-loop-here
invariant-loop-here g l = record {
  looked : HasLooked g.B.Blocks l.fn.blocks l.blocks l.fn.inodes l.inodes;
  within : AreInodeNumbers l.fn.inodes.geometry.inodes l.left.items;
  whole : length l.marks.items ≡ l.fn.inodes.geometry.inodes;
  searched : (detail : Detail) (disk : ℕ → List ℕ) (settled : ℕ → Inode) (v : Volume) → StandsIn detail g.B.Blocks disk settled v l.fn.blocks l.fn.inodes
      → ((n : ℕ) → Contains l.fn.children.items n ↔ IsChild (entries v) l.fn.top n) → Searches (entries v) l.fn.top l.marks.items l.left.items;
}
