use Rattle.std.proofs.Common.{◌≡◌, ◌<◌, ℕ, List}
use Rattle.layout.specs.Limits.{Sizes}
use Rattle.layout.specs.declared.inode.Inode.{Inode}
use Rattle.images.specs.Soundness.{IsFileGrammar}
use Rattle.images.specs.Nodes.{held}
use Rattle.loading.specs.Images.{IsFileOfInode}
use Rattle.checker.specs.Trees.{IsAloneAt}
use Rattle.checker.proofs.ReadLaws.{HasLooked}
use Rattle.checker.proofs.owners.node_in.Given as goal

abbrev pub invariant-loop-height : goal.invariant-loop-height
invariant-loop-height g l = record {
  read : HasLooked g.B.Blocks l.fn.blocks l.blocks;
  alone : (disk : ℕ → List ℕ) (s : Sizes) (inode : Inode) → g.B.Blocks.Shows l.fn.blocks disk → s.blocks ≡ g.B.Blocks.count l.fn.blocks → IsFileGrammar s (held disk inode)
      → IsFileOfInode inode l.file → (m : ℕ) → m < l.height → IsAloneAt l.shared l.number (held disk inode) m;
}
