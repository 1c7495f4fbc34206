use Rattle.mount.proofs.ReplyLemmas.{only_done}
use Rattle.mount.proofs.fs.Fs.apply_for_done.Goals as goal

pub unreachable-requires : goal.unreachable-requires
unreachable-requires g c = only_done c.args.command c.apply_owned.result c.requires c.apply_owned.ensures.answers.kind c.in_default.not-Done c.in_default.not-Refused

pub returns-in-Done : goal.returns-in-Done
returns-in-Done g c = c.in-Done.ensures

pub returns-in-Refused : goal.returns-in-Refused
returns-in-Refused g c = c.in-Refused.ensures
