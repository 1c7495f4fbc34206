use Rattle.mount.proofs.ReplyLemmas.{only_usage}
use Rattle.mount.proofs.fs.Fs.apply_for_usage.Goals as goal

pub unreachable-requires : goal.unreachable-requires
unreachable-requires g c = only_usage c.args.command c.apply_owned.result c.requires c.apply_owned.ensures.answers.kind c.in_default.not-Usage c.in_default.not-Refused

pub returns-in-Usage : goal.returns-in-Usage
returns-in-Usage g c = c.in-Usage.ensures

pub returns-in-Refused : goal.returns-in-Refused
returns-in-Refused g c = c.in-Refused.ensures
