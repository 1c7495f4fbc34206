use Rattle.std.proofs.Common.{rules, ◌∙◌, ap}
use borrow.Author.Tests.{tests}
use Rattle.std.specs.List.{list_any}
use Rattle.std.proofs.lemmas.Iterator.Consumers.{YieldsList-from_deque}
use Rattle.std.proofs.lemmas.Iterator.Search.{any_from_yields_List}
use Rattle.model.specs.Paths.{is_dot_dot}
use Rattle.paths.proofs.Tests.{list_any-map}
use Rattle.paths.proofs.text.Parts.has_parent.Goals as goal

pub returns : goal.returns
returns c =
    any_from_yields_List (λ part. is_dot_dot part.items) _ _ _ c.any.ensures.ran (YieldsList-from_deque c.self.inside.parts.items c.iter.ensures.rest) (λ x b q k. search (rules, tests))
    ∙ list_any-map is_dot_dot (λ part. part.items) c.self.inside.parts.items
    ∙ ap (list_any is_dot_dot) c.self.view_is
