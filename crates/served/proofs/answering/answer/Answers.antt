use Rattle.fuse.specs.Operation.{operation_of}
use Rattle.served.specs.Known.{known_of}
use Rattle.served.specs.Requests.{of_found}
use Rattle.served.specs.Finding.{finds}
use Rattle.served.proofs.TurnLaws.{came_then}
use Rattle.served.proofs.RequestsLaws.{answers_else}
use Rattle.served.proofs.answering.answer.Goals as goal

pub returns-in_default : goal.returns-in_default
returns-in_default g c =
    let G = g.F.FileSystem in
    let k = known_of c.args.memory.now in
    let node = c.args.request.now.head.node in
    let op = operation_of c.args.request.now.operation in
    answers_else G c.args.files.now c.answer_found.new.files k c.args.asker node (c.answer_found.result, known_of c.answer_found.new.memory) c.args.request.now.operation
    c.in_default.not-Init c.in_default.not-Destroy c.in_default.not-Interrupt c.in_default.not-Retrieved c.in_default.not-Forget c.in_default.not-BatchForget c.in_default.not-StatFileSystem c.in_default.not-OpenDirectory c.in_default.not-ReleaseDirectory
    c.in_default.not-Sync c.in_default.not-SyncDirectory c.in_default.not-Flush c.in_default.not-Access c.in_default.not-Other
    (came_then G c.args.files.now c.args.files.now c.answer_found.new.files (finds node) (of_found k c.args.asker node op) c.find-found.result (c.answer_found.result, known_of c.answer_found.new.memory) c.find-found.ensures c.answer_found.ensures)
