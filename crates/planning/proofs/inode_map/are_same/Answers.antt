use Rattle.std.proofs.Common.{sym, ◌∙◌, arith, rules}
use Rattle.std.specs.Cmp.Lexicographic.{other_text, same_text}
use Rattle.planning.proofs.TellLaws.{tells_all}
use Rattle.planning.proofs.inode_map.are_same.Goals as goal

pub returns-clause-same : goal.returns-clause-same
returns-clause-same c = λ is. same_text c.args.block.now c.args.part.now (sym is ∙ c.eq.ensures)

pub returns-clause-other : goal.returns-clause-other
returns-clause-other c = λ is bytes i part same.
    other_text c.args.block.now c.args.part.now (sym is ∙ c.eq.ensures)
    (tells_all bytes c.args.block.now c.args.part.now i (search rules) (search rules) (λ k. omega (arith, c.fits-block k)) (λ k. omega (arith, c.fits-part k)) part same)
