use Rattle.std.proofs.Common.{◌≡◌, ℕ, ◌≤◌, length, take, vec_len}
use Rattle.std.specs.Prelude.{vec_capacity}
use Rattle.memory_station.specs.Disk.{sectors_with}
use Rattle.memory_station.specs.Sectors.{sectors_at}
use Rattle.memory_station.proofs.disk.Disk.load.Given as goal

abbrev pub invariant-loop-place : goal.invariant-loop-place
invariant-loop-place l = record {
  size : length l.disk.bytes.items ≡ length l.fn.bytes.items;
  sectors : (n : ℕ) → sectors_at l.disk n ≡ sectors_with l.fn.bytes.items (take l.place l.bad) n;
  count : vec_len l.disk.bad ≤ l.place;
  room : length l.bad ≤ vec_capacity l.disk.bad;
}
