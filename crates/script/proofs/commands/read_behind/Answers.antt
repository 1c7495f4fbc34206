use Rattle.std.proofs.Common.{map, rules, sym, ◌∙◌}
use Rattle.script.proofs.CommandLemmas.{path_read, plain_read}
use Rattle.script.proofs.commands.read_behind.Goals as goal

pub returns-in_err-read_fields : goal.returns-in_err-read_fields
returns-in_err-read_fields c = path_read c.args.verb (map (λ word. word.now) c.args.words.now) c.from_residual.result (sym c.is_call.ensures ∙ c.if-is_call.true) (search rules)

pub returns-in_default : goal.returns-in_default
returns-in_default c = plain_read c.args.verb _ _ (sym c.is_call.ensures ∙ c.if-is_call.false) c.in_default.not-Snap c.in_default.not-In c.read_plain.ensures
