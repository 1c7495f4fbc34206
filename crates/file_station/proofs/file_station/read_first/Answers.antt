use Rattle.std.proofs.Common.{rules, refl}
use Rattle.file_station.proofs.AtHandLemmas.{first_read}
use Rattle.file_station.proofs.StationLemmas.{on_same}
use Rattle.file_station.proofs.file_station.read_first.Goals as goal

pub returns-clause-bytes : goal.returns-clause-bytes
returns-clause-bytes g c = on_same c.read.result c.read.result _ _ refl
    (λ shows honest. first_read c.read.new.out _ _ c.args.at c.args.count _ (search rules) (search rules) (shows honest)) c.read.ensures.bytes
