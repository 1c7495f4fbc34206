use Rattle.std.proofs.Common.{◌≡◌, ℕ, List, length}
use Rattle.layout.specs.declared.inode.Inode.{Inode}
use Rattle.model.specs.Finding.{find_along}
use Rattle.model.specs.Volumes.{Volume}
use Rattle.paths.specs.Numbers.{AreInodeNumbers}
use Rattle.paths.specs.Standing.{Stands}
use Rattle.paths.proofs.Looks.{HasLooked}
use Rattle.paths.proofs.walk.walk.Given as goal

abbrev pub decreases-loop-name : goal.decreases-loop-name
decreases-loop-name g l = length l.parts

abbrev pub invariant-loop-name : goal.invariant-loop-name
invariant-loop-name g l = record {
  looked : HasLooked g.B.Blocks l.initial.blocks l.blocks l.initial.inodes l.inodes;
  numbers : AreInodeNumbers l.initial.inodes.geometry.inodes l.trail;
  walked : (disk : ℕ → List ℕ) (settled : ℕ → Inode) (v : Volume) → Stands g.B.Blocks disk settled v l.initial.blocks l.initial.inodes
      → find_along v l.follow l.initial.trail l.initial.parts ≡ find_along v l.follow l.trail l.parts;
}
