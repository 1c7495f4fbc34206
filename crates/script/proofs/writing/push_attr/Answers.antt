use Rattle.std.proofs.Common.{Bool, ap}
use Rattle.model.specs.declared.command.PathCall.TheVariants as call
use Rattle.script.proofs.CommandLemmas.{pushed}
use Rattle.script.proofs.writing.push_attr.Goals as goal

pub returns-then-follows : goal.returns-then-follows
returns-then-follows c = pushed _ _ _ _ _ (ap (λ (follows : Bool). call.Attr c.args.path.now follows) c.if-follows.true) c.push_fields.ensures

pub returns-else-follows : goal.returns-else-follows
returns-else-follows c = pushed _ _ _ _ _ (ap (λ (follows : Bool). call.Attr c.args.path.now follows) c.if-follows.false) c.push_fields-else-follows.ensures
