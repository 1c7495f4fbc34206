use Rattle.file_station.proofs.StationLemmas.{both_lengths, writes_nvram, left_nvram, on_same}
use Rattle.file_station.proofs.file_station.FileStationStation.nv_write.Goals as goal

pub returns-clause-call : goal.returns-clause-call
returns-clause-call g c =
    let m = g.M.ImageFiles.meaning c.args.self.now.files in
    let lengths = both_lengths m (g.met.M.ImageFiles.lengths c.args.self.now.files) (g.met.M.ImageFiles.seen_may_be_left c.args.self.now.files) in
    writes_nvram m (g.M.ImageFiles.meaning c.write_nvram-done.new.files) lengths _ c.args.at c.args.bytes.now c.from.ensures c.write_nvram-done.ensures.same c.write_nvram-done.ensures.goes
    _ _ _ _ c.note.ensures.ok c.note.ensures.err

pub returns-clause-kept : goal.returns-clause-kept
returns-clause-kept g c =
    let m = g.M.ImageFiles.meaning c.args.self.now.files in
    let lengths = both_lengths m (g.met.M.ImageFiles.lengths c.args.self.now.files) (g.met.M.ImageFiles.seen_may_be_left c.args.self.now.files) in
    on_same c.write_nvram-done.result c.note.result _ _ c.note.ensures.answer
    (left_nvram m (g.M.ImageFiles.meaning c.write_nvram-done.new.files) lengths _ c.args.at c.args.bytes.now c.from.ensures c.write_nvram-done.ensures.same c.write_nvram-done.ensures.goes
    c.args.self.now.failed_reads c.args.self.now.failed_writes c.args.self.now.failed_reads c.note.new.failed)
    c.write_nvram-done.ensures.kept
