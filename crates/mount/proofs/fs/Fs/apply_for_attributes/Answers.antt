use Rattle.mount.proofs.ReplyLemmas.{only_attributes}
use Rattle.mount.proofs.fs.Fs.apply_for_attributes.Goals as goal

pub unreachable-requires : goal.unreachable-requires
unreachable-requires g c = only_attributes c.args.command c.apply_owned.result c.requires c.apply_owned.ensures.answers.kind c.in_default.not-Attributes c.in_default.not-Refused

pub returns-in-Attributes : goal.returns-in-Attributes
returns-in-Attributes g c = c.in-Attributes.ensures

pub returns-in-Refused : goal.returns-in-Refused
returns-in-Refused g c = c.in-Refused.ensures
