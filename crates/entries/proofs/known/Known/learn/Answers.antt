use Rattle.std.proofs.Common.{sym, subst}
use Rattle.entries.specs.Known.{Summarizes}
use Rattle.entries.proofs.known.Known.learn.Goals as goal

pub returns : goal.returns
returns c = record { knows = λ block knows is. c.keep.ensures c.args.inodes block knows (subst (λ b. Summarizes c.args.inodes b c.in-Ok.summary) (sym is) c.in-Ok.ensures) }
