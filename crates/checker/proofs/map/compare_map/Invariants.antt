use Rattle.std.proofs.Common.{◌≡◌, ◌*◌, ◌<◌, ◌≤◌, ℕ, List}
use Rattle.layout.specs.Places.{pointed}
use Rattle.layout.specs.declared.root.Root.{Root}
use Rattle.buffers.specs.Disks.{IsWhole}
use Rattle.blocktree.specs.PlaceMaps.{place_at}
use Rattle.images.specs.Roots.{whole}
use Rattle.checker.specs.Trees.{IsTreeAt}
use Rattle.checker.proofs.EntryLaws.{IsCompared, before_block}
use Rattle.checker.proofs.ReadLaws.{HasLooked}
use Rattle.checker.proofs.map.compare_map.Given as goal

abbrev pub invariant-loop-j : goal.invariant-loop-j
invariant-loop-j g l = record {
  read : HasLooked g.B.Blocks l.fn.blocks l.blocks;
  few : l.free ≤ 1024 * l.j;
  good : (disk : ℕ → List ℕ) → g.B.Blocks.Shows l.fn.blocks disk → (i : ℕ) → i < l.j → IsWhole (pointed disk (place_at l.places i));
  compared : (disk : ℕ → List ℕ) (r : Root) → g.B.Blocks.Shows l.fn.blocks disk → IsTreeAt disk r l.geometry (g.B.Blocks.count l.fn.blocks) l.tree → l.tree.plane ≡ 0
      → IsCompared (whole disk r).active l.marks (before_block r.geometry.blocks l.j) l.free;
}
