use Rattle.std.proofs.Common.{subst, ℕ}
use Rattle.buffers.specs.Disks.{ShowsDisk, disk_with_block}
use Rattle.buffers.proofs.DiskLaws.{stored}
use Rattle.buffers.proofs.cache.Buffers.store.Goals as goal

pub returns-in-Ok-clause-shows : goal.returns-in-Ok-clause-shows
returns-in-Ok-clause-shows g c = λ disk shows.
    subst (λ (place : ℕ). ShowsDisk (g.S.Station.meaning c.write_block.new.self) c.forget.new.self (disk_with_block place c.args.bytes.now disk)) c.get-place.ensures
    (stored (g.S.Station.meaning c.args.self.now.station) (g.S.Station.meaning c.write_block.new.self) c.args.self.now.kept c.forget.new.self c.get-place.result c.args.bytes.now disk c.told-bytes
    c.in-Ok.ensures.call.same c.in-Ok.ensures.written c.forget.ensures.loses c.forget.ensures.gone shows)
