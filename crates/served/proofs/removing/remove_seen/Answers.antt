use Rattle.std.proofs.Common.{sym, ◌∙◌}
use Rattle.served.specs.Known.{known_of}
use Rattle.served.specs.Setting.{Told}
use Rattle.served.proofs.RemovingLaws.{came_seen_last, came_seen_one}
use Rattle.served.proofs.removing.remove_seen.Goals as goal

pub returns-then-goes_with_name : goal.returns-then-goes_with_name
returns-then-goes_with_name g c =
    let told : Told = (c.remove_last.result, known_of c.remove_last.new.memory) in
    came_seen_last g.F.FileSystem c.args.files.now c.remove_last.new.files (known_of c.args.memory.now) c.args.asker c.args.parent c.args.path.now c.args.is_directory c.args.stat.now c.handle_of-handle.result told c.handle_of-handle.ensures (sym c.goes_with_name.ensures ∙ c.if-goes_with_name.true) c.remove_last.ensures

pub returns-else-goes_with_name : goal.returns-else-goes_with_name
returns-else-goes_with_name g c =
    let told : Told = (c.remove_one.result, known_of c.remove_one.new.memory) in
    came_seen_one g.F.FileSystem c.args.files.now c.remove_one.new.files (known_of c.args.memory.now) c.args.asker c.args.parent c.args.path.now c.args.is_directory c.args.stat.now c.handle_of-handle.result told c.handle_of-handle.ensures (sym c.goes_with_name.ensures ∙ c.if-goes_with_name.false) c.remove_one.ensures
