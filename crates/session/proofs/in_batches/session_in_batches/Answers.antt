use Rattle.std.proofs.Common.{Some, ap}
use Rattle.session.proofs.TalkingLemmas.{input_ends}
use Rattle.session.proofs.in_batches.session_in_batches.Goals as goal

pub returns-in-Ok : goal.returns-in-Ok
returns-in-Ok g c = record {
  ends = input_ends g.S.Station c.args.script.now _ c.args.manners _ c.args.station c.shell_in_batches.result.1 _ _ _ _ _ c.shell_in_batches.result.0 c.in-Ok.ensures.commands (ap (λ script. Some script.now) c.new.ensures.inner)
      c.shell_in_batches.ensures.ends;
}
