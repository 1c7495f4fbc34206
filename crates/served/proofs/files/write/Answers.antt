use Rattle.served.proofs.FilesLaws.{unmarked, write_so}
use Rattle.served.proofs.files.write.Goals as goal
use Rattle.served.specs.Known.{known_of}
use Rattle.served.specs.declared.answer.Answer.TheVariants as answer

pub returns-in-Wrote : goal.returns-in-Wrote
returns-in-Wrote g c =
    let a = c.args in
    write_so g.F.FileSystem a.files.now c.write_parts.new.files (known_of a.memory.now) a.asker a.node a.handle a.fd a.offset a.bytes.now (answer.Wrote c.in-Wrote.count) (known_of c.mark_written.new.memory) c.in-Wrote.ensures c.mark_written.ensures

pub returns-in_default : goal.returns-in_default
returns-in_default g c =
    let a = c.args in
    let k = known_of a.memory.now in
    write_so g.F.FileSystem a.files.now c.write_parts.new.files k a.asker a.node a.handle a.fd a.offset a.bytes.now c.write_parts.result k c.write_parts.ensures
    (unmarked k a.asker a.node a.handle c.write_parts.result c.in_default.not-Wrote)
