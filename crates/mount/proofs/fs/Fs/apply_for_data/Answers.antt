use Rattle.mount.proofs.ReplyLemmas.{only_data}
use Rattle.mount.proofs.fs.Fs.apply_for_data.Goals as goal

pub unreachable-requires : goal.unreachable-requires
unreachable-requires g c = only_data c.args.command c.apply_owned.result c.requires c.apply_owned.ensures.answers.kind c.in_default.not-Data c.in_default.not-Refused

pub returns-in-Data : goal.returns-in-Data
returns-in-Data g c = c.in-Data.ensures

pub returns-in-Refused : goal.returns-in-Refused
returns-in-Refused g c = c.in-Refused.ensures
