use Rattle.std.proofs.Common.{rules}
use Rattle.dirs.specs.Edits.{edited_block}
use Rattle.dirs.proofs.edit.Edit.look.Goals as goal

pub returns-in-Some-clause-tells : goal.returns-in-Some-clause-tells
returns-in-Some-clause-tells g c = λ disk shows knows. c.in-Some.ensures.tells c.args.inodes (edited_block disk c.args.file.now c.args.self.now) knows

pub returns-in-Some-get-clause-knows : goal.returns-in-Some-get-clause-knows
returns-in-Some-get-clause-knows g c = λ disk shows knows. c.look_at.ensures.knows (edited_block disk c.args.file.now c.args.self.now) knows (search rules)

pub returns-clause-knows : goal.returns-clause-knows
returns-clause-knows g c = λ disk shows knows. c.look_at-2.ensures.knows (edited_block disk c.args.file.now c.args.self.now) knows (search rules)
