use Rattle.std.proofs.Common.{rules}
use borrow.Author.Tests.{tests}
use Rattle.paths.proofs.NewTexts.{refused_before, refused_behind}
use Rattle.paths.proofs.text.refusal_of_new_text.Goals as goal

pub returns-in-Some : goal.returns-in-Some
returns-in-Some c = refused_before c.args.limits c.args.text.now c.in-Some.errno (search rules)

pub returns-in-None : goal.returns-in-None
returns-in-None c = refused_behind c.args.limits c.args.text.now c.is_nameless.result _ (search rules) (search rules) (search (rules, tests))
