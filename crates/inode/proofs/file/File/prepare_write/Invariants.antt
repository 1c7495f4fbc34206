use Rattle.std.proofs.Common.{◌≡◌, ℕ, ◌+◌, ◌*◌, ◌<◌, List, [], length, slice_index, slice_index_or}
use Rattle.buffers.specs.Positions.{with_bytes_at}
use Rattle.buffers.specs.Reads.{HasOnlyRead}
use Rattle.blocktree.specs.Trees.{HasRoom, IsSoundAt}
use Rattle.images.specs.Edges.{IsPartlyWritten}
use Rattle.inode.specs.Files.{byte_at, file_block, IsSameFile}
use Rattle.inode.proofs.ChangeLaws.{AreWhole}
use Rattle.inode.proofs.file.File.prepare_write.Given as goal

abbrev pub invariant-loop-i : goal.invariant-loop-i
invariant-loop-i g l = record {
  read : HasOnlyRead g.B.Blocks l.initial.blocks l.blocks;
  same : IsSameFile l.fn.self l.self;
  count : l.first + length l.pieces.items ≡ l.i;
  sound : (disk : ℕ → List ℕ) → g.B.Blocks.Shows l.initial.blocks disk → (j : ℕ) → j < length l.pieces.items
      → IsPartlyWritten l.offset (length l.bytes) (l.first + j) → IsSoundAt (g.B.Blocks.count l.initial.blocks) disk l.fn.self.tree (l.first + j);
  parts : (disk : ℕ → List ℕ) → g.B.Blocks.Shows l.initial.blocks disk → (j : ℕ) → j < length l.pieces.items
      → IsPartlyWritten l.offset (length l.bytes) (l.first + j) → length (file_block disk l.fn.self (l.first + j)) ≡ 4096;
  whole : AreWhole l.pieces.items;
  room : (j : ℕ) → j < length l.pieces.items → HasRoom l.self.tree (l.first + j);
  bytes : (disk : ℕ → List ℕ) → g.B.Blocks.Shows l.initial.blocks disk → (j : ℕ) → j < length l.pieces.items → (r : ℕ) → r < 4096 → slice_index (slice_index_or l.pieces.items j []) r ≡ with_bytes_at (byte_at disk l.fn.self) l.offset l.bytes (4096 * (l.first + j) + r);
}
