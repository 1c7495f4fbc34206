use Rattle.std.proofs.Common.{ap, arith, set, sym, subst, IfSome}
use Rattle.std.proofs.lemmas.Option.{slice_get_past, slice_get_read}
use Rattle.entries.specs.Known.{Summarizes}
use Rattle.entries.proofs.KnownLaws.{none_at, none_past, some_at}
use Rattle.entries.proofs.known.Known.take.Goals as goal

pub returns-then-i-len-clause-left : goal.returns-then-i-len-clause-left
returns-then-i-len-clause-left c = λ inodes block next knows others.
    let xs = c.args.self.now.summaries.items in
    none_past inodes xs c.args.i block next (slice_get_past xs c.args.i (omega (arith, c.if-i-len.true, c.len.ensures, c.args.self.now.summaries.ok))) knows others

pub returns-clause-told : goal.returns-clause-told
returns-clause-told c = λ inodes block knows.
    let xs = c.args.self.now.summaries.items in
    let slot = c.index_mut.result.now in
    subst (λ o. IfSome o (Summarizes inodes (block c.args.i))) (sym c.take.ensures.value)
    (some_at inodes xs c.args.i block slot (slice_get_read xs c.len.result c.args.i slot (omega (arith, c.len.ensures, c.args.self.now.summaries.ok)) c.if-i-len.false c.index_mut.ensures.value) knows)

pub returns-clause-left : goal.returns-clause-left
returns-clause-left c = λ inodes block next knows others.
    let xs = c.args.self.now.summaries.items in
    none_at inodes xs (set xs c.args.i c.take.new.self) c.args.i block next (ap (λ o. set xs c.args.i o) c.take.ensures.after) knows others
