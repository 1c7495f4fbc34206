use Rattle.std.proofs.Common.{Some, None}
use Rattle.served.specs.Known.{known_of}
use Rattle.served.specs.Setting.{Told}
use Rattle.served.proofs.RemovingLaws.{came_renamed, came_renamed_refused}
use Rattle.served.proofs.removing.rename_seen.Goals as goal

pub returns-in-Err : goal.returns-in-Err
returns-in-Err g c =
    came_renamed_refused g.F.FileSystem c.args.files.now c.replaced.new.files (known_of c.args.memory.now) c.args.asker c.args.moved.now c.args.parent c.args.new_parent c.args.flags c.args.path.now c.args.new_path.now c.in-Err.errno c.in-Err.ensures

pub returns-in-None : goal.returns-in-None
returns-in-None g c =
    let told : Told = (c.move_name.result, known_of c.move_name.new.memory) in
    came_renamed g.F.FileSystem c.args.files.now c.replaced.new.files c.move_name.new.files (known_of c.args.memory.now) c.args.asker c.args.moved.now c.args.parent c.args.new_parent c.args.flags c.args.path.now c.args.new_path.now c.in-Ok.over None told c.in-None.is c.in-Ok.ensures c.move_name.ensures

pub returns-in-Some : goal.returns-in-Some
returns-in-Some g c =
    let told : Told = (c.move_over.result, known_of c.move_over.new.memory) in
    came_renamed g.F.FileSystem c.args.files.now c.replaced.new.files c.move_over.new.files (known_of c.args.memory.now) c.args.asker c.args.moved.now c.args.parent c.args.new_parent c.args.flags c.args.path.now c.args.new_path.now c.in-Ok.over (Some c.in-Some.stat) told c.in-Some.is c.in-Ok.ensures c.move_over.ensures
