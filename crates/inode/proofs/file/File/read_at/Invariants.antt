use Rattle.std.proofs.Common.{◌≡◌, ℕ, ◌+◌, ◌-◌, ◌/◌, ◌<◌, ◌≤◌, List, length, slice_index}
use Rattle.buffers.specs.Reads.{HasOnlyRead}
use Rattle.blocktree.specs.Trees.{IsSoundAt}
use Rattle.inode.specs.Files.{byte_at}
use Rattle.inode.proofs.file.File.read_at.Given as goal

abbrev pub decreases-loop-done : goal.decreases-loop-done
decreases-loop-done g l = length l.initial.out - l.done

abbrev pub invariant-loop-done : goal.invariant-loop-done
invariant-loop-done g l = record {
  within : l.done ≤ length l.out;
  read : HasOnlyRead g.B.Blocks l.initial.blocks l.blocks;
  bytes : (disk : ℕ → List ℕ) → g.B.Blocks.Shows l.initial.blocks disk → (k : ℕ) → k < l.done → slice_index l.out k ≡ byte_at disk l.self (l.offset + k);
  sound : (disk : ℕ → List ℕ) → g.B.Blocks.Shows l.initial.blocks disk → (p : ℕ) → l.offset ≤ p → p < l.offset + l.done → IsSoundAt (g.B.Blocks.count l.initial.blocks) disk l.self.tree (p / 4096);
}
