-- Reading goes on from reading.
use Rattle.std.specs.Prelude.{refl}
use Rattle.std.proofs.Common.{◌∙◌, inl}
use Rattle.station.specs.Moments.{Meaning}
use Rattle.station.proofs.Moments.{may_grow_twice, same_none, same_twice, unchanged_none, unchanged_twice}
use Rattle.buffers.specs.Disks.{ReadsOn}

pub reads_none : (m : Meaning) → ReadsOn m m
reads_none m = record { same = same_none m; writes = refl; reads = inl refl; goes = unchanged_none m }

pub reads_twice : (a b c : Meaning) → ReadsOn a b → ReadsOn b c → ReadsOn a c
reads_twice a b c p q = record { same = same_twice a b c p.same q.same; writes = q.writes ∙ p.writes; reads = may_grow_twice a.failed_reads b.failed_reads c.failed_reads p.reads q.reads; goes = unchanged_twice a b c p.goes q.goes }
