use Rattle.model.specs.declared.limits.Limits.{Limits}
use Rattle.model.specs.Paths.{new_text_tests}
use Rattle.calls.proofs.LimitLaws.{by_limits}
use Rattle.calls.proofs.texts.refusal_of_new_path.Goals as goal

pub returns : goal.returns
returns c = by_limits (λ (l : Limits). new_text_tests l c.args.path.now) c.limits.ensures c.refusal_of_new_text.ensures
