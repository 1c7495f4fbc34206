use Rattle.served.specs.Known.{known_of}
use Rattle.served.proofs.SettingLaws.{set_gone-set, set_gone-refused}
use Rattle.served.proofs.setting.set_gone.Goals as goal

pub returns-in-Ok : goal.returns-in-Ok
returns-in-Ok g c = set_gone-set g.F.FileSystem c.args.files.now c.cut_removed.new.files c.keep_removed.new.files (known_of c.args.memory.now) c.args.asker c.args.node c.args.changes.now c.args.settings c.args.removed.now c.removed_set.result c.in-Ok.field-0 (c.keep_removed.result, known_of c.keep_removed.new.memory) c.in-Ok.ensures c.removed_set.ensures c.keep_removed.ensures

pub returns-in-Err : goal.returns-in-Err
returns-in-Err g c = set_gone-refused g.F.FileSystem c.args.files.now c.cut_removed.new.files (known_of c.args.memory.now) c.args.asker c.args.node c.args.changes.now c.args.settings c.args.removed.now c.in-Err.errno c.in-Err.ensures
