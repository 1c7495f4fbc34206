use Rattle.std.proofs.Common.{◌∙◌, sym}
use Rattle.std.specs.Cmp.Lexicographic.{same_text}
use Rattle.system.proofs.snapshot_view.is_view_of.Goals as goal

pub returns-in-Some : goal.returns-in-Some
returns-in-Some c = λ is. (c.in-Some.view, c.in-Some.is, sym c.as_slice.ensures.value ∙ same_text c.as_slice.result.now c.args.name.now (sym is ∙ c.eq.ensures))
