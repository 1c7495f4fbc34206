use Rattle.std.proofs.Common.{sym}
use Rattle.layout.specs.Directory.{named_of}
use Rattle.layout.proofs.EntryLaws.{length-entry_bytes}
use Rattle.layout.proofs.entry.Entry.encoded_len.Goals as goal

pub returns : goal.returns
returns c = sym (length-entry_bytes (named_of c.args.self.now))
