use Rattle.std.proofs.Common.{rules, arith, length}
use Rattle.std.proofs.lemmas.Slice.{between_to_end, overwrites}
use Rattle.layout.specs.Directory.{named_of}
use Rattle.layout.proofs.EntryLaws.{length-entry_bytes}
use Rattle.entries.proofs.EntryLists.{added_at}
use Rattle.entries.proofs.entries.add.Goals as goal

pub overflow_add-at : goal.overflow_add-at
overflow_add-at c = omega (arith, c.used-at.ensures.within, c.encoded_len.ensures, c.requires.fits.name.short, length-entry_bytes (named_of c.args.entry.now), c.requires.block)

pub returns-then-at-encoded_len-clause-holds : goal.returns-then-at-encoded_len-clause-holds
returns-then-at-encoded_len-clause-holds c = λ entries holds room.
    added_at c.args.inodes c.args.bytes.now c.write.new.out _ entries (named_of c.args.entry.now) c.used-at.result c.write.result (c.used-at.ensures.used entries holds) c.requires.fits holds (rw (between_to_end c.args.bytes.now c.used-at.result (length c.args.bytes.now) (omega arith)) at c.write.ensures) (search (rules, overwrites))
