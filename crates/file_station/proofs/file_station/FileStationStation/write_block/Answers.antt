use Rattle.std.proofs.Common.{◌*◌, arith}
use Rattle.file_station.proofs.StationLemmas.{both_lengths, writes_sectors, wrote_sectors, on_same}
use Rattle.file_station.proofs.file_station.FileStationStation.write_block.Goals as goal

pub returns-clause-call : goal.returns-clause-call
returns-clause-call g c =
    let m = g.M.ImageFiles.meaning c.args.self.now.files in
    let lengths = both_lengths m (g.met.M.ImageFiles.lengths c.args.self.now.files) (g.met.M.ImageFiles.seen_may_be_left c.args.self.now.files) in
    writes_sectors m (g.M.ImageFiles.meaning c.write-done.new.self) lengths _ (8 * c.args.b) c.args.bytes.now (omega arith) (omega arith) (omega arith) c.write-done.ensures.same c.write-done.ensures.goes
    _ _ _ _ c.note.ensures.ok c.note.ensures.err

pub returns-clause-written : goal.returns-clause-written
returns-clause-written g c =
    let m = g.M.ImageFiles.meaning c.args.self.now.files in
    let lengths = both_lengths m (g.met.M.ImageFiles.lengths c.args.self.now.files) (g.met.M.ImageFiles.seen_may_be_left c.args.self.now.files) in
    on_same c.write-done.result c.note.result _ _ c.note.ensures.answer
    (wrote_sectors m (g.M.ImageFiles.meaning c.write-done.new.self) lengths _ (8 * c.args.b) c.args.bytes.now (omega arith) (omega arith) (omega arith) c.write-done.ensures.same c.write-done.ensures.goes
    c.args.self.now.failed_reads c.args.self.now.failed_writes c.args.self.now.failed_reads c.note.new.failed)
    c.write-done.ensures.written
