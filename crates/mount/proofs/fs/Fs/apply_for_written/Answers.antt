use Rattle.mount.proofs.ReplyLemmas.{only_written}
use Rattle.mount.proofs.fs.Fs.apply_for_written.Goals as goal

pub unreachable-requires : goal.unreachable-requires
unreachable-requires g c = only_written c.args.command c.apply_owned.result c.requires c.apply_owned.ensures.answers.kind c.in_default.not-Wrote c.in_default.not-Refused

pub returns-in-Wrote : goal.returns-in-Wrote
returns-in-Wrote g c = c.in-Wrote.ensures

pub returns-in-Refused : goal.returns-in-Refused
returns-in-Refused g c = c.in-Refused.ensures
