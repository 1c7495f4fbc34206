use Rattle.std.proofs.Common.{sym, ◌∙◌}
use Rattle.served.specs.Known.{known_of}
use Rattle.served.proofs.SettingLaws.{set_by_path-nothing, set_by_path-set, set_by_path-stale, set_by_path-refused}
use Rattle.served.proofs.setting.set_by_path.Goals as goal

pub returns-then-not-sets : goal.returns-then-not-sets
returns-then-not-sets g c = set_by_path-nothing g.F.FileSystem (known_of c.args.memory.now) c.args.asker c.args.node c.args.handle c.args.changes.now c.args.settings c.args.path.now c.args.files.now c.set_marks.new.files (c.set_marks.result, known_of c.set_marks.new.memory) (sym c.sets.ensures ∙ c.if-not-sets.true) c.set_marks.ensures

pub returns-in-Ok : goal.returns-in-Ok
returns-in-Ok g c = set_by_path-set g.F.FileSystem (known_of c.args.memory.now) c.args.asker c.args.node c.args.handle c.args.changes.now c.args.settings c.args.path.now c.args.files.now c.ask_done.new.files c.mark_set.new.files c.set.result c.in-Ok.field-0 (c.mark_set.result, known_of c.mark_set.new.memory) (sym c.sets.ensures ∙ c.if-not-sets.false) c.set.ensures c.in-Ok.ensures c.mark_set.ensures

pub returns-in-Err : goal.returns-in-Err
returns-in-Err g c = set_by_path-stale g.F.FileSystem (known_of c.args.memory.now) c.args.asker c.args.node c.args.handle c.args.changes.now c.args.settings c.args.path.now c.args.files.now c.ask_done.new.files c.set_removed.new.files c.set.result c.in-Err.errno (c.set_removed.result, known_of c.set_removed.new.memory) (sym c.sets.ensures ∙ c.if-not-sets.false) c.set.ensures c.in-Err.ensures (sym c.is_stale.ensures ∙ c.if-is_stale.true) c.set_removed.ensures

pub returns-in-Err-2 : goal.returns-in-Err-2
returns-in-Err-2 g c = set_by_path-refused g.F.FileSystem (known_of c.args.memory.now) c.args.asker c.args.node c.args.handle c.args.changes.now c.args.settings c.args.path.now c.args.files.now c.ask_done.new.files c.set.result c.in-Err.errno (sym c.sets.ensures ∙ c.if-not-sets.false) c.set.ensures c.in-Err.ensures (sym c.is_stale.ensures ∙ c.if-is_stale.false)
