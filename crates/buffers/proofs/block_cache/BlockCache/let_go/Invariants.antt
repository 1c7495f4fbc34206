use Rattle.std.specs.BTreeMap.{btree_map_len}
use Rattle.buffers.specs.Memory.{Loses}
use Rattle.buffers.proofs.block_cache.BlockCache.let_go.Given as goal

abbrev pub decreases-loop-place : goal.decreases-loop-place
decreases-loop-place l = btree_map_len l.self.held

abbrev pub invariant-loop-place : goal.invariant-loop-place
invariant-loop-place l = record { loses : Loses l.fn.self l.self }
