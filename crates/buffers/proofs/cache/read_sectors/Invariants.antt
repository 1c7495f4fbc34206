use Rattle.std.proofs.Common.{◌≡◌, ℕ, ◌+◌, ◌*◌, ◌/◌, ◌%◌, ◌<◌, length, slice_index}
use Rattle.buffers.specs.Disks.{ReadsOn}
use Rattle.buffers.proofs.cache.read_sectors.Given as goal

abbrev pub invariant-loop-i : goal.invariant-loop-i
invariant-loop-i g l = record {
  reads : ReadsOn (g.S.Station.meaning l.initial.station) (g.S.Station.meaning l.station);
  counted : (g.S.Station.meaning l.station).failed_reads ≡ (g.S.Station.meaning l.initial.station).failed_reads;
  full : length l.block ≡ 4096;
  whole : (g.S.Station.meaning l.initial.station).is_honest → (k : ℕ) → k < l.i
      → length ((g.S.Station.meaning l.initial.station).seen.disk (8 * l.place + k)) ≡ 512;
  bytes : (g.S.Station.meaning l.initial.station).is_honest → (r : ℕ) → r < 512 * l.i
      → slice_index l.block r ≡ slice_index ((g.S.Station.meaning l.initial.station).seen.disk (8 * l.place + r / 512)) (r % 512);
}
