use Rattle.std.proofs.Common.{◌≡◌, ℕ, ◌<◌, length}
use Rattle.std.specs.Prelude.{nat_lt, if◌then◌else◌}
use Rattle.layout.specs.Maps.{indirect_pointer}
use Rattle.layout.specs.declared.pointer.Pointer.TheVariants.{Hole}
use Rattle.conspoint.specs.MapFiles.{node_at}
use Rattle.conspoint.proofs.map_inode.spell_nodes.Given as goal

abbrev pub invariant-loop-k : goal.invariant-loop-k
invariant-loop-k l = record {
  size : length l.bytes ≡ 4096;
  spelled : (i : ℕ) → i < l.k → indirect_pointer l.bytes i ≡ (if nat_lt i l.count then node_at l.settled l.places i else Hole);
}
