use Rattle.std.proofs.Common.{rules, arith, ◌≤◌, ◌^◌, ◌++◌, ◌∷◌, [], ℕ, List, subst}
use Rattle.std.proofs.lemmas.Slice.{between_to_end, overwrites}
use Rattle.layout.specs.Directory.{named_of}
use Rattle.layout.proofs.EntryLaws.{length-entry_bytes}
use Rattle.entries.specs.Marks.{KeepsMarks}
use Rattle.entries.proofs.ChangeLaws.{added_tally}
use Rattle.entries.proofs.EntryLists.{added_at}
use Rattle.entries.proofs.summary.Summary.add.Goals as goal

pub overflow_add-at : goal.overflow_add-at
overflow_add-at c = omega (arith, c.args.self.now.likely, c.args.self.now.small, c.encoded_len-count.ensures, c.requires.name.short, length-entry_bytes (named_of c.args.entry.now))

pub invariant_of-self : goal.invariant_of-self
invariant_of-self c = record {
  likely = omega arith;
  small = omega (arith, c.args.self.now.small, c.encoded_len-count.ensures, c.requires.name.short, length-entry_bytes (named_of c.args.entry.now));
}

pub returns-clause-holds : goal.returns-clause-holds
returns-clause-holds c = λ entries told holds is.
    let s = c.args.self.now in
    added_at c.args.inodes c.args.bytes.now c.write.new.out _ entries (named_of c.args.entry.now) s.used c.write.result (told.tally.used entries holds) c.requires holds (rw (between_to_end c.args.bytes.now s.used 4096 (omega arith)) at c.write.ensures) (search (rules, overwrites))

pub returns-clause-tells : goal.returns-clause-tells
returns-clause-tells c = λ told is.
    let s = c.args.self.now in
    let e = named_of c.args.entry.now in
    let limit : c.args.inodes ≤ 2 ^ 32 = omega arith in
    let had = told.block.1 in
    let has = added_at c.args.inodes c.args.bytes.now c.write.new.out _ told.block.0 e s.used c.write.result (told.tally.used told.block.0 had) c.requires had (rw (between_to_end c.args.bytes.now s.used 4096 (omega arith)) at c.write.ensures) (search (rules, overwrites)) in
    record {
      block = (told.block.0 ++ e ∷ [], has);
      tally = added_tally c.args.inodes c.args.bytes.now _ s.marks.value c.mark.new.marks s.names s.used c.encoded_len-count.result told.block.0 e limit told.tally had has (subst (λ (m : List ℕ). KeepsMarks m c.mark.new.marks) c.deref_mut.ensures.value c.mark.ensures.keeps) c.mark.ensures.marked c.encoded_len-count.ensures;
    }
