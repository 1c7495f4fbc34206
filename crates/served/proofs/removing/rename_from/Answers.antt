use Rattle.std.proofs.Common.{ℕ, List}
use Rattle.served.specs.Known.{known_of}
use Rattle.served.specs.Removing as spec
use Rattle.served.specs.Setting.{Told}
use Rattle.served.proofs.TurnLaws.{came_path}
use Rattle.served.proofs.RemovingLaws.{came_rename_from, came_rename_unseen, came_rename_from_nowhere}
use Rattle.served.proofs.removing.rename_from.Goals as goal

pub returns-in_default : goal.returns-in_default
returns-in_default g c =
    came_rename_from_nowhere g.F.FileSystem c.args.files.now (known_of c.args.memory.now) c.args.asker c.args.parent c.args.new_parent c.args.new_name.now c.args.flags c.args.path.now

pub returns-in-Ok-look_at : goal.returns-in-Ok-look_at
returns-in-Ok-look_at g c =
    let told : Told = (c.rename_seen.result, known_of c.rename_seen.new.memory) in
    came_rename_from g.F.FileSystem c.args.files.now c.look_at.new.files c.rename_seen.new.files (known_of c.args.memory.now) c.args.asker c.args.parent c.args.new_parent c.args.new_name.now c.args.flags c.args.path.now c.in-Ok.new_path.items c.in-Ok-look_at.moved told (record { starts = c.in-Ok.ensures.starts; goes_on = c.in-Ok.ensures.goes_on; one_name = c.in-Ok.ensures.one_name }) c.in-Ok-look_at.ensures
    (came_path g.F.FileSystem c.look_at.new.files c.rename_seen.new.files {R = Told} (λ (p : List ℕ). spec.rename_seen (known_of c.args.memory.now) c.args.asker c.in-Ok-look_at.moved c.args.parent c.args.new_parent c.args.flags c.args.path.now p) c.deref.result.now c.in-Ok.new_path.items told c.deref.ensures.value c.rename_seen.ensures)

pub returns : goal.returns
returns g c =
    came_rename_unseen g.F.FileSystem c.args.files.now c.look_at.new.files (known_of c.args.memory.now) c.args.asker c.args.parent c.args.new_parent c.args.new_name.now c.args.flags c.args.path.now c.in-Ok.new_path.items c.in-Err.errno (record { starts = c.in-Ok.ensures.starts; goes_on = c.in-Ok.ensures.goes_on; one_name = c.in-Ok.ensures.one_name }) c.in-Err.ensures
