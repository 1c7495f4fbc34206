use Rattle.served.specs.Known.{known_of}
use Rattle.served.proofs.KeepingLaws.{remembers-kept, remembers-lost}
use Rattle.served.proofs.keeping.remember.Goals as goal

pub returns-in-Ok : goal.returns-in-Ok
returns-in-Ok g c =
    let a = c.args in
    remembers-kept g.F.FileSystem (known_of a.memory.now) a.asker a.handle a.path.now a.stat.now a.files.now c.keep-kept.new.files c.keep-kept.result c.descriptor_of-held.result (known_of c.note.new.memory)
    c.keep-kept.ensures c.descriptor_of-held.ensures c.in-Ok.ensures.ok

pub returns-in-Err : goal.returns-in-Err
returns-in-Err g c =
    let a = c.args in
    remembers-lost g.F.FileSystem (known_of a.memory.now) a.asker a.handle a.path.now a.stat.now a.files.now c.keep-kept.new.files c.let_go.new.files c.keep-kept.result c.descriptor_of-held.result (known_of c.note.new.memory)
    c.keep-kept.ensures c.descriptor_of-held.ensures c.in-Err.ensures.err c.let_go.ensures
