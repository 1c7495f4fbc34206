use Rattle.std.proofs.Common.{Some, arith, refl, set}
use Rattle.entries.proofs.KnownLaws.{known_at, pushed}
use Rattle.entries.proofs.known.Known.keep.Goals as goal

pub returns-then-i-len : goal.returns-then-i-len
returns-then-i-len c = λ inodes block knows tells.
    let xs = c.args.self.now.summaries.items in
    known_at inodes xs (set xs c.args.i (Some c.args.summary)) c.args.i c.args.summary block refl knows tells

pub returns-then-i-len-2 : goal.returns-then-i-len-2
returns-then-i-len-2 c = λ inodes block knows tells.
    let xs = c.args.self.now.summaries.items in
    let ys = c.push.new.self.items in
    pushed inodes xs ys c.push.result c.args.i c.args.summary block c.push.ensures.items (omega (arith, c.if-i-len-2.true, c.len-else-i-len.ensures, c.args.self.now.summaries.ok)) knows tells
