use Rattle.std.proofs.Common.{ℕ, List}
use Rattle.served.specs.Known.{known_of}
use Rattle.served.specs.Removing as spec
use Rattle.served.specs.Setting.{Told}
use Rattle.served.proofs.TurnLaws.{came_path}
use Rattle.served.proofs.RemovingLaws.{came_rename, came_rename_nowhere}
use Rattle.served.proofs.removing.rename_named.Goals as goal

pub returns-in-Ok : goal.returns-in-Ok
returns-in-Ok g c =
    let told : Told = (c.rename_from.result, known_of c.rename_from.new.memory) in
    came_rename g.F.FileSystem c.args.files.now c.rename_from.new.files (known_of c.args.memory.now) c.args.asker c.args.parent c.args.name.now c.args.new_parent c.args.new_name.now c.args.flags c.in-Ok.path.items told (record { starts = c.in-Ok.ensures.starts; goes_on = c.in-Ok.ensures.goes_on; one_name = c.in-Ok.ensures.one_name })
    (came_path g.F.FileSystem c.args.files.now c.rename_from.new.files {R = Told} (λ (p : List ℕ). spec.rename_from (known_of c.args.memory.now) c.args.asker c.args.parent c.args.new_parent c.args.new_name.now c.args.flags p) c.deref.result.now c.in-Ok.path.items told c.deref.ensures.value c.rename_from.ensures)

pub returns-in-Err : goal.returns-in-Err
returns-in-Err g c =
    came_rename_nowhere g.F.FileSystem c.args.files.now (known_of c.args.memory.now) c.args.asker c.args.parent c.args.name.now c.args.new_parent c.args.new_name.now c.args.flags
