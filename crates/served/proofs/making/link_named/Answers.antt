use Rattle.std.proofs.Common.{List, ℕ}
use Rattle.served.specs.Known.{known_of}
use Rattle.served.specs.Making as spec
use Rattle.served.specs.Setting.{Told}
use Rattle.served.proofs.TurnLaws.{came_path}
use Rattle.served.proofs.MakingLaws.{came_link, came_link_nowhere}
use Rattle.served.proofs.making.link_named.Goals as goal

pub returns-in-Ok : goal.returns-in-Ok
returns-in-Ok g c =
    let told : Told = (c.link_at.result, known_of c.link_at.new.memory) in
    came_link g.F.FileSystem c.args.files.now c.link_at.new.files (known_of c.args.memory.now) c.args.asker c.args.file c.args.parent c.args.name.now c.in-Ok.path.items told (record { starts = c.in-Ok.ensures.starts; goes_on = c.in-Ok.ensures.goes_on; one_name = c.in-Ok.ensures.one_name })
    (came_path g.F.FileSystem c.args.files.now c.link_at.new.files {R = Told} (λ (p : List ℕ). spec.link_at (known_of c.args.memory.now) c.args.asker c.args.file c.args.parent p) c.deref.result.now c.in-Ok.path.items told c.deref.ensures.value c.link_at.ensures)

pub returns-in-Err : goal.returns-in-Err
returns-in-Err g c =
    came_link_nowhere g.F.FileSystem c.args.files.now (known_of c.args.memory.now) c.args.asker c.args.file c.args.parent c.args.name.now
