use Rattle.mount.proofs.ReplyLemmas.{only_offset}
use Rattle.mount.proofs.fs.Fs.apply_for_offset.Goals as goal

pub unreachable-requires : goal.unreachable-requires
unreachable-requires g c = only_offset c.args.command c.apply_owned.result c.requires c.apply_owned.ensures.answers.kind c.in_default.not-At c.in_default.not-Refused

pub returns-in-At : goal.returns-in-At
returns-in-At g c = c.in-At.ensures

pub returns-in-Refused : goal.returns-in-Refused
returns-in-Refused g c = c.in-Refused.ensures
