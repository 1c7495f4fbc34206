use Rattle.std.proofs.Common.{◌≡◌, ◌⊎◌, ℕ, ◌+◌, ◌<◌, ◌≤◌, List, length, vec_len}
use Rattle.buffers.specs.Positions.{laid}
use Rattle.blocktree.specs.Trees.{tree_block, HasRoom, IsChanged, KeepsRoom, KeepsSound, SameSettled}
use Rattle.blocktree.proofs.tree.BlockTree.install.Given as goal

abbrev pub decreases-loop-block : goal.decreases-loop-block
decreases-loop-block l = vec_len l.rest

abbrev pub invariant-loop-block : goal.invariant-loop-block
invariant-loop-block l = record {
  room : (j : ℕ) → j < length l.rest.items → HasRoom l.self (l.first + j);
  keeps : KeepsRoom l.fn.self l.self;
  sound : KeepsSound l.fn.self l.self;
  settled : SameSettled l.fn.self l.self;
  kept : l.self.kept ≡ l.fn.self.kept;
  shorter : length l.rest.items ≤ length l.fn.pieces.items;
  only : (j : ℕ) → IsChanged l.self j → ((l.first ≤ j) × (j < l.first + length l.fn.pieces.items)) ⊎ IsChanged l.fn.self j;
  most : l.first + length l.rest.items < 4294967296;
  blocks : (disk : ℕ → List ℕ) (j : ℕ) → laid (tree_block disk l.self) l.first l.rest.items j ≡ laid (tree_block disk l.fn.self) l.first l.fn.pieces.items j;
}
