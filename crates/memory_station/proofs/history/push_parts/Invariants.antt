use Rattle.std.proofs.Common.{◌≡◌, ◌+◌, ◌/◌, ◌≤◌, ◌++◌, length, vec_len}
use Rattle.std.specs.Prelude.{vec_capacity}
use Rattle.memory_station.specs.Unsynced.{parts_of}
use Rattle.memory_station.proofs.history.push_parts.Given as goal

abbrev pub invariant-loop-part : goal.invariant-loop-part
invariant-loop-part l = (l.unsynced.items ≡ l.initial.unsynced.items ++ parts_of l.first l.bytes l.part)
    × (vec_len l.unsynced ≡ vec_len l.initial.unsynced + l.part)
    × (vec_len l.initial.unsynced + length l.bytes / 512 ≤ vec_capacity l.unsynced)
