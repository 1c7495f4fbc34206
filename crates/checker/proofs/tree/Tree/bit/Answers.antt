use Rattle.std.proofs.Common.{arith}
use Rattle.checker.proofs.MarkLaws.{bit_alone}
use Rattle.checker.proofs.tree.Tree.bit.Goals as goal

pub returns : goal.returns
returns c = λ k. bit_alone c.args.self.now.plane k (omega (arith, c.args.self.now.known))
