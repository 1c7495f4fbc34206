use Rattle.std.proofs.Common.{◌≡◌, ℕ, ◌-◌, List, []}
use Rattle.layout.specs.declared.inode.Inode.{Inode}
use Rattle.model.specs.Finding.{find_within}
use Rattle.model.specs.Volumes.{Volume}
use Rattle.paths.specs.Following.{find_left}
use Rattle.paths.specs.Numbers.{AreInodeNumbers}
use Rattle.paths.specs.Standing.{Stands}
use Rattle.paths.proofs.Looks.{HasLooked}
use Rattle.paths.proofs.resolution.resolve_parts.Given as goal

abbrev pub invariant-loop-link : goal.invariant-loop-link
invariant-loop-link g l = record {
  looked : HasLooked g.B.Blocks l.initial.blocks l.blocks l.initial.inodes l.inodes;
  numbers : AreInodeNumbers l.initial.inodes.geometry.inodes l.trail;
  walked : (disk : ℕ → List ℕ) (settled : ℕ → Inode) (v : Volume) → Stands g.B.Blocks disk settled v l.initial.blocks l.initial.inodes
      → find_within 8 v l.follow [] l.fn.path ≡ find_left (9 - l._link) v l.follow l.trail l.parts;
}
