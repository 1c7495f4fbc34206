use Rattle.std.proofs.Common.{arith}
use Rattle.layout.specs.Directory.{named_of}
use Rattle.layout.proofs.EntryLaws.{holds_more}
use Rattle.layout.proofs.directory.holds_entries.Goals as goal

pub loop-behind-preserved : goal.loop-behind-preserved
loop-behind-preserved c =
    let before = c.loop-behind.invariant in
    let first = c.in-Entry.ensures in
    let more = holds_more c.args.inodes c.loop-behind.rest.now c.in-Entry.behind.now (named_of c.in-Entry.entry) (omega arith) first.0 first.1 in
    (λ all. more.0 (before.0 all), λ others. before.1 (more.1 others))
