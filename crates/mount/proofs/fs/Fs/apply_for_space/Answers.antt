use Rattle.mount.proofs.ReplyLemmas.{only_space}
use Rattle.mount.proofs.fs.Fs.apply_for_space.Goals as goal

pub unreachable-requires : goal.unreachable-requires
unreachable-requires g c = only_space c.args.command c.apply_owned.result c.requires c.apply_owned.ensures.answers.kind c.in_default.not-Space c.in_default.not-Refused

pub returns-in-Space : goal.returns-in-Space
returns-in-Space g c = c.in-Space.ensures

pub returns-in-Refused : goal.returns-in-Refused
returns-in-Refused g c = c.in-Refused.ensures
