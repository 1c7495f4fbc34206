use Rattle.std.proofs.Common.{◌≡◌, ℕ, ◌+◌, ◌≤◌, length, take, vec_len}
use Rattle.std.specs.Prelude.{vec_capacity}
use Rattle.memory_station.specs.Sectors.{sectors_at}
use Rattle.memory_station.specs.Unsynced.{kept_value}
use Rattle.memory_station.proofs.history.apply_marks.Given as goal

abbrev pub invariant-loop-place : goal.invariant-loop-place
invariant-loop-place l = record {
  size : length l.disk.bytes.items ≡ length l.initial.disk.bytes.items;
  sectors : (n : ℕ) → sectors_at l.disk n ≡ kept_value l.keep 0 (take l.place l.unsynced) n (sectors_at l.initial.disk n);
  count : vec_len l.disk.bad ≤ vec_len l.initial.disk.bad + l.place;
  room : vec_capacity l.initial.disk.bad ≤ vec_capacity l.disk.bad;
}
