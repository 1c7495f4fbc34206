use Rattle.mount.proofs.ReplyLemmas.{only_descriptor}
use Rattle.mount.proofs.fs.Fs.apply_for_descriptor.Goals as goal

pub unreachable-requires : goal.unreachable-requires
unreachable-requires g c = only_descriptor c.args.command c.apply_owned.result c.requires c.apply_owned.ensures.answers.kind c.in_default.not-Fd c.in_default.not-Refused

pub returns-in-Fd : goal.returns-in-Fd
returns-in-Fd g c = c.in-Fd.ensures

pub returns-in-Refused : goal.returns-in-Refused
returns-in-Refused g c = c.in-Refused.ensures
