use Rattle.mount.proofs.ReplyLemmas.{only_names}
use Rattle.mount.proofs.fs.Fs.apply_for_names.Goals as goal

pub unreachable-requires : goal.unreachable-requires
unreachable-requires g c = only_names c.args.command c.apply_owned.result c.requires c.apply_owned.ensures.answers.kind c.in_default.not-Names c.in_default.not-Refused

pub returns-in-Names : goal.returns-in-Names
returns-in-Names g c = c.in-Names.ensures

pub returns-in-Refused : goal.returns-in-Refused
returns-in-Refused g c = c.in-Refused.ensures
