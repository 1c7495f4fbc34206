use Rattle.std.proofs.Common.{arith, ap, sym, length, ◌≤◌, ◌^◌}
use Rattle.layout.specs.Directory.{named_of}
use Rattle.layout.proofs.EntryLaws.{none_left, one_first}
use Rattle.entries.proofs.entries.+count.Goals as goal

pub returns-in-End-clause-count : goal.returns-in-End-clause-count
returns-in-End-clause-count t c = λ entries holds.
    let limit : c.args.inodes ≤ 2 ^ 32 = omega arith in
    sym (ap (λ (es : _). length es) (none_left c.args.inodes c.args.bytes.now entries limit holds c.in-End.ensures))

pub returns-in-Entry-clause-count : goal.returns-in-Entry-clause-count
returns-in-Entry-clause-count t c = λ entries holds.
    let limit : c.args.inodes ≤ 2 ^ 32 = omega arith in
    let b = one_first c.args.inodes c.args.bytes.now c.in-Entry.rest.now (named_of c.in-Entry.entry) entries limit c.in-Entry.ensures.0 c.in-Entry.ensures.1 holds in
    omega (arith, ap length b.are, c.count.ensures.count b.others b.holds)
