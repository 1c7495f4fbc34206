use Rattle.file_system.specs.declared.handle.Handle.{Handle}
use Rattle.served.specs.Finding.{finds}
use Rattle.served.specs.Known.{known_of}
use Rattle.served.specs.Making.{link}
use Rattle.served.specs.Requests.{among_running, links}
use Rattle.served.specs.Setting.{Told}
use Rattle.served.specs.Turns.{Turn}
use Rattle.served.specs.declared.finding.Found.TheVariants as found
use Rattle.served.proofs.TurnLaws.{came_then}
use Rattle.served.proofs.answering.add_name.Goals as goal

pub returns-in-Running : goal.returns-in-Running
unfolding links among_running
returns-in-Running g c =
    let k = known_of c.args.memory.now in
    let moved : Handle → Turn Told = λ old. link k c.args.asker old c.args.parent c.args.name.now in
    let r : Told = (c.link.result, known_of c.link.new.memory) in
    came_then g.F.FileSystem c.args.files.now c.args.files.now c.link.new.files (finds c.args.file) (λ to. among_running k to moved) (found.Running c.in-Running.handle) r c.in-Running.ensures c.link.ensures
