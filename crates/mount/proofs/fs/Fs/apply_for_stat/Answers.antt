use Rattle.mount.proofs.ReplyLemmas.{only_stat}
use Rattle.mount.proofs.fs.Fs.apply_for_stat.Goals as goal

pub unreachable-requires : goal.unreachable-requires
unreachable-requires g c = only_stat c.args.command c.apply_owned.result c.requires c.apply_owned.ensures.answers.kind c.in_default.not-Stat c.in_default.not-Refused

pub returns-in-Stat : goal.returns-in-Stat
returns-in-Stat g c = c.in-Stat.ensures

pub returns-in-Refused : goal.returns-in-Refused
returns-in-Refused g c = c.in-Refused.ensures
