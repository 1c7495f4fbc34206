use Rattle.std.proofs.Common.{arith}
use Rattle.layout.specs.Directory.{named_of}
use Rattle.layout.proofs.EntryLaws.{length-entry_bytes}
use Rattle.layout.proofs.entry.Entry.write.Goals as goal

pub write_entry-requires-clause-room : goal.write_entry-requires-clause-room
write_entry-requires-clause-room c = omega (arith, c.requires.room, length-entry_bytes (named_of c.args.self.now))
