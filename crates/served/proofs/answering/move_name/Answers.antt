use Rattle.file_system.specs.declared.handle.Handle.{Handle}
use Rattle.served.specs.Finding.{finds}
use Rattle.served.specs.Known.{known_of}
use Rattle.served.specs.Removing.{rename}
use Rattle.served.specs.Requests.{among_running, renames}
use Rattle.served.specs.Setting.{Told}
use Rattle.served.specs.Turns.{Turn}
use Rattle.served.specs.declared.finding.Found.TheVariants as found
use Rattle.served.proofs.TurnLaws.{came_then}
use Rattle.served.proofs.answering.move_name.Goals as goal

pub returns-in-Running : goal.returns-in-Running
unfolding renames among_running
returns-in-Running g c =
    let k = known_of c.args.memory.now in
    let moved : Handle → Turn Told = λ new. rename k c.args.asker c.args.parent c.args.name.now new.number c.args.new_name.now c.args.flags in
    let r : Told = (c.rename.result, known_of c.rename.new.memory) in
    came_then g.F.FileSystem c.args.files.now c.args.files.now c.rename.new.files (finds c.args.new_parent) (λ to. among_running k to moved) (found.Running c.in-Running.new) r c.in-Running.ensures c.rename.ensures
