use Rattle.std.proofs.Common.{ℕ, ◌<◌, ◌≢◌, map, slice_index_or}
use Rattle.served.specs.Known.{Seen, seen_of}
use Rattle.served.proofs.memory.Memory.snapshot_by_id.Given as goal

abbrev pub invariant-loop-snapshot : goal.invariant-loop-snapshot
invariant-loop-snapshot l = (k : ℕ) → k < l.snapshot-index → (e : Seen) → (slice_index_or (map seen_of l.snapshot-items) k e).id ≢ l.id
