use Rattle.mount.proofs.ReplyLemmas.{only_opened}
use Rattle.mount.proofs.fs.Fs.apply_for_opened.Goals as goal

pub unreachable-requires : goal.unreachable-requires
unreachable-requires g c = only_opened c.args.command c.apply_owned.result c.requires c.apply_owned.ensures.answers.kind c.in_default.not-Opened c.in_default.not-Refused

pub returns-in-Opened : goal.returns-in-Opened
returns-in-Opened g c = c.in-Opened.ensures

pub returns-in-Refused : goal.returns-in-Refused
returns-in-Refused g c = c.in-Refused.ensures
