use Rattle.served.specs.Known.{known_of}
use Rattle.served.proofs.SettingLaws.{keep_removed-kept}
use Rattle.served.proofs.setting.keep_removed.Goals as goal

pub returns : goal.returns
returns g c = keep_removed-kept g.F.FileSystem c.args.files.now c.tell_removed.new.files (known_of c.args.memory.now) (known_of c.change_removed.new.self) c.args.node c.args.removed c.tell_removed.result c.change_removed.ensures c.tell_removed.ensures
