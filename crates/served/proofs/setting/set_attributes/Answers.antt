use Rattle.std.proofs.Common.{[], sym}
use Rattle.served.specs.Known.{known_of}
use Rattle.served.proofs.TurnLaws.{leads_from}
use Rattle.served.proofs.SettingLaws.{set_attributes-refused, set_attributes-set, set_attributes-nowhere}
use Rattle.served.proofs.setting.set_attributes.Goals as goal

pub returns-in-Err : goal.returns-in-Err
returns-in-Err g c = set_attributes-refused g.F.FileSystem c.args.files.now (known_of c.args.memory.now) c.args.asker c.args.node c.args.handle c.args.changes.now c.in-Err.errno (sym c.in-Err.ensures)

pub returns-in-Ok-path_from : goal.returns-in-Ok-path_from
returns-in-Ok-path_from g c = set_attributes-set g.F.FileSystem c.args.files.now c.set_by_path.new.files (known_of c.args.memory.now) c.args.asker c.args.node c.args.handle c.args.changes.now c.in-Ok.settings c.deref.result.now (c.set_by_path.result, known_of c.set_by_path.new.memory) (sym c.in-Ok.ensures) (leads_from c.args.handle.number [] c.in-Ok-path_from.path.items c.deref.result.now c.deref.ensures.value c.in-Ok-path_from.ensures.starts c.in-Ok-path_from.ensures.goes_on c.in-Ok-path_from.ensures.one_name) c.set_by_path.ensures

pub returns-in-Err-path_from : goal.returns-in-Err-path_from
returns-in-Err-path_from g c = set_attributes-nowhere g.F.FileSystem c.args.files.now (known_of c.args.memory.now) c.args.asker c.args.node c.args.handle c.args.changes.now c.in-Ok.settings (sym c.in-Ok.ensures)
