use Rattle.script.proofs.CommandLemmas.{call_read}
use Rattle.script.proofs.calls.read_call_behind.Goals as goal

pub returns : goal.returns
returns c = call_read c.args.verb _ _ c.read_fields.ensures
