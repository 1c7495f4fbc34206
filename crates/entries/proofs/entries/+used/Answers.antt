use Rattle.std.proofs.Common.{arith, ap, sym, ◌^◌, ◌≤◌}
use Rattle.layout.specs.Directory.{named_of}
use Rattle.entries.specs.Entries.{used_by}
use Rattle.layout.proofs.EntryLaws.{none_left, one_first}
use Rattle.entries.proofs.entries.+used.Goals as goal

pub returns-in-End-clause-used : goal.returns-in-End-clause-used
returns-in-End-clause-used t c = λ entries holds.
    let limit : c.args.inodes ≤ 2 ^ 32 = omega arith in
    sym (ap used_by (none_left c.args.inodes c.args.bytes.now entries limit holds c.in-End.ensures))

pub returns-in-Entry-clause-used : goal.returns-in-Entry-clause-used
returns-in-Entry-clause-used t c = λ entries holds.
    let limit : c.args.inodes ≤ 2 ^ 32 = omega arith in
    let b = one_first c.args.inodes c.args.bytes.now c.in-Entry.rest.now (named_of c.in-Entry.entry) entries limit c.in-Entry.ensures.0 c.in-Entry.ensures.1 holds in
    let size = ap used_by b.are in
    omega (arith, size, c.encoded_len.ensures, c.used.ensures.used b.others b.holds)
